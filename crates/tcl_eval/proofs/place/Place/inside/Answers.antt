use Rattle.std.proofs.Common.{◌∙◌, ap, List, ℕ, [], ◌∷◌, ◌++◌}
use Rattle.tcl_parse.specs.declared.tree.Script.{Script}
use Rattle.tcl_eval.specs.Places.{tree_of, word_parts, walk}
use Rattle.tcl_eval.proofs.Rows.{walk_on}
use Rattle.tcl_eval.proofs.place.Place.inside.Goals as goal

pub returns : goal.returns
returns c =
    let p = c.args.self.now in
    let whole = word_parts p.command p.word (tree_of p.script.value) in
    let items = c.in_ok-push.ensures.items ∙ ap (λ (path : List ℕ). path ++ p.next ∷ []) (c.in_ok-path.ensures.items ∙ c.as_slice.ensures.value) in
    ap (λ (s : Script). walk c.push.new.self.items (word_parts p.command p.word (tree_of s))) c.in_ok-clone.ensures.cases
    ∙ ap (λ (path : List ℕ). walk path whole) items
    ∙ walk_on p.path.items p.next whole
