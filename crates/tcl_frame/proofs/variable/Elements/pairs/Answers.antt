use Rattle.std.proofs.Common.{◌≡◌, ◌++◌, ap, sym, ◌∙◌}
use Rattle.std.specs.FinMap as map
use Rattle.std.proofs.lemmas.List.{append-nil}
use Rattle.tcl_frame.specs.Entries.{by_bytes}
use Rattle.tcl_frame.proofs.Maps.{entries_kept}
use Rattle.tcl_frame.proofs.variable.Elements.pairs.Goals as goal

pub returns : goal.returns
returns c =
    let entries = c.self.inside.values.entries in
    let whole : c.loop-index.pairs ≡ by_bytes entries =
    sym (append-nil c.loop-index.pairs) ∙ ap (λ rest. c.loop-index.pairs ++ by_bytes rest) (sym c.in-None.ensures.steps.0) ∙ c.loop-index.invariant in
    whole ∙ sym (entries_kept entries c.into_iter-index-iterator.ensures.into_iter_gives.5) ∙ ap map.entries c.self.view_is
