use Rattle.std.proofs.Common.{List, sym, ap, ◌∙◌, subst}
use Rattle.blueprint.specs.declared.names.Row.{Row}
use Rattle.blueprint.specs.Kept.{is_there, with_name, undone, HavePlaces}
use Rattle.blueprint.proofs.Slots.{undone_same, undone_last, places_kept, places_less}
use Rattle.blueprint.proofs.names.Names.take_back.Goals as goal

pub put_back-requires : goal.put_back-requires
put_back-requires c =
    let left = c.pop.new.self.items in
    (places_less c.loop-row.self.slots left c.in-Some.row (subst (λ (rows : List Row). HavePlaces c.loop-row.self.slots rows) c.in-Some.ensures.items c.loop-row.invariant.0)).1

pub loop-row-preserved : goal.loop-row-preserved
loop-row-preserved c =
    let left = c.pop.new.self.items in
    let row = c.in-Some.row in
    let old = c.loop-row.self.slots in
    let new = c.put_back.new.self.slots in
    let both = places_less old left row (subst (λ (rows : List Row). HavePlaces old rows) c.in-Some.ensures.items c.loop-row.invariant.0) in (
      places_kept old new left c.put_back.ensures.places both.0,
      λ q. undone_same left (is_there new) (with_name row.name row.before (is_there old)) c.put_back.ensures.there q
          ∙ sym (undone_last left row (is_there old) q)
          ∙ ap (λ (rows : List Row). undone rows (is_there old) q) (sym c.in-Some.ensures.items)
          ∙ c.loop-row.invariant.1 q,
    )
