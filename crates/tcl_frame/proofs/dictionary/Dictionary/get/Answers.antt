use Rattle.std.proofs.Common.{sym, ap, ◌∙◌}
use Rattle.std.specs.FinMap as map
use Rattle.std.specs.Map.{lookup}
use Rattle.tcl_frame.proofs.Maps.{seeks, get_bytes, no_items}
use Rattle.tcl_frame.proofs.dictionary.Dictionary.get.Goals as goal

pub returns-then-is_empty : goal.returns-then-is_empty
returns-then-is_empty g c =
    let entries = c.self.inside.values.entries in
    let key = c.args.key.now in
    sym (ap (lookup (seeks key)) (no_items entries (c.is_empty.ensures.0 c.if-is_empty.true)))
    ∙ sym (get_bytes entries key)
    ∙ ap (λ m. map.get m key) c.self.view_is

pub returns : goal.returns
returns g c = c.get.ensures.value ∙ sym (get_bytes c.self.inside.values.entries c.args.key.now) ∙ ap (λ m. map.get m c.args.key.now) c.self.view_is
