use Rattle.std.proofs.Common.{sym, ap, ◌∙◌, rules}
use Rattle.std.specs.Map.{lookup}
use Rattle.std.specs.Option.{option_map}
use Rattle.std.specs.FinMap as map
use Rattle.std.proofs.lemmas.Map.Made.{map_same_pairs, lookup-map_values}
use Rattle.tcl_frame.specs.Globals.{standing_again}
use Rattle.tcl_frame.proofs.Maps.{seeks, get_bytes}
use Rattle.tcl_frame.proofs.base.Bases.stand_again.Goals as goal

pub returns : goal.returns
returns c =
    let old = c.self.inside.values.entries in
    let new = c.retain.new.self.entries in
    let written = map_same_pairs _ standing_again _ (λ k v b w f' t. search rules) old new c.retain.ensures.filtered in
    λ name.
    get_bytes new name
    ∙ ap (lookup (seeks name)) written
    ∙ lookup-map_values standing_again (seeks name) old
    ∙ ap (option_map standing_again) (sym (get_bytes old name) ∙ ap (λ m. map.get m name) c.self.view_is)
