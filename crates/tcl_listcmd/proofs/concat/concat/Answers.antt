use Rattle.std.proofs.Common.{◌≡◌, ◌∙◌, ap, drop, map, List, ℕ, []}
use Rattle.std.proofs.lemmas.List.{take_rest}
use Rattle.txt_core.specs.Number.{trimmed}
use Rattle.tcl_listcmd.specs.Joining.{with_words}
use Rattle.tcl_listcmd.proofs.Joining.{joined_all}
use Rattle.tcl_listcmd.proofs.concat.concat.Goals as goal

pub returns : goal.returns
returns c =
    let behind_name = take_rest c.as_slice.result.now 1 ∙ ap (λ (ws : List (List ℕ)). drop 1 ws) c.as_slice.ensures in
    let put : c.put_words.new.joined ≡ with_words [] (map trimmed (drop 1 c.args.words.now)) = rw (c.empty-joined.ensures, behind_name) at c.in_ok-put_words.ensures in
    put ∙ joined_all (map trimmed (drop 1 c.args.words.now))
