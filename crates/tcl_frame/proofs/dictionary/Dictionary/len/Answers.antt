use Rattle.std.proofs.Common.{sym, ap, ◌∙◌, length}
use Rattle.std.specs.FinMap as map
use Rattle.std.proofs.lemmas.List.{length-map}
use Rattle.tcl_frame.proofs.Maps.{entries_kept}
use Rattle.tcl_frame.proofs.dictionary.Dictionary.len.Goals as goal

pub returns : goal.returns
returns g c =
    let entries = c.self.inside.values.entries in
    c.len.ensures.len ∙ sym (length-map entries _) ∙ ap length (sym (entries_kept entries c.len.ensures.ordered)) ∙ ap (λ m. length (map.entries m)) c.self.view_is
