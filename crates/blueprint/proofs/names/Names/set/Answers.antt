use Rattle.std.proofs.Common.{◌≡◌, ℕ, List, [], ◌∷◌, ◌++◌, Bool, rules, sym, ap, ◌∙◌, subst}
use Rattle.std.specs.Option.{is_some}
use Rattle.std.specs.BTreeMap.{get}
use Rattle.blueprint.specs.declared.names.Row.{Row}
use Rattle.blueprint.specs.Kept.{text_cmp, is_there, with_name, undone, HavePlaces}
use Rattle.blueprint.proofs.Slots.{put_there, put_places, noted, places_kept, places_more}
use Rattle.blueprint.proofs.names.Names.set.Goals as goal

pub returns-in_err-insert-clause-places : goal.returns-in_err-insert-clause-places
returns-in_err-insert-clause-places c = λ h.
    places_kept c.args.self.now.slots c.insert.new.self c.reserve.new.self.items (λ row p. search rules)
    (subst (λ (rows : List Row). HavePlaces c.args.self.now.slots rows) (sym c.reserve.ensures.items) h)

pub returns-clause-past : goal.returns-clause-past
returns-clause-past c = λ q.
    let row : Row = record { name = c.in_ok-noted.noted; before = c.has-before.result } in
    let f : List ℕ → Bool = is_there c.args.self.now.slots in
    let g : List ℕ → Bool = is_there c.insert.new.self in
    ap (λ (rows : List Row). undone rows g q) (c.push_reserved.ensures.items ∙ ap (λ (rows : List Row). rows ++ row ∷ []) c.reserve.ensures.items)
    ∙ noted c.args.journal.now.items row c.args.there f g
    (c.has-before.ensures ∙ ap f (sym c.in_ok-noted.ensures))
    (λ p. put_there c.args.self.now.slots c.insert.new.self c.in_ok-key.key c.args.there c.in_ok-insert.ensures.updates.0 p ∙ ap (λ (k : List ℕ). with_name k c.args.there f p) (c.in_ok-key.ensures ∙ sym c.in_ok-noted.ensures)) q

pub returns-clause-places : goal.returns-clause-places
returns-clause-places c = λ h.
    let row : Row = record { name = c.in_ok-noted.noted; before = c.has-before.result } in
    let items = c.args.journal.now.items in
    let all : c.push_reserved.new.self.items ≡ items ++ row ∷ [] = c.push_reserved.ensures.items ∙ ap (λ (rows : List Row). rows ++ row ∷ []) c.reserve.ensures.items in
    let same : c.in_ok-noted.noted ≡ c.in_ok-key.key = c.in_ok-noted.ensures ∙ sym c.in_ok-key.ensures in
    subst (λ (rows : List Row). HavePlaces c.insert.new.self rows) (sym all)
    (places_more c.insert.new.self items row
    (places_kept c.args.self.now.slots c.insert.new.self items (put_places c.args.self.now.slots c.insert.new.self c.in_ok-key.key c.args.there c.in_ok-insert.ensures.updates.0) h)
    (ap is_some (ap (λ (k : List ℕ). get text_cmp c.insert.new.self k) same ∙ c.in_ok-insert.ensures.updates.1)))
