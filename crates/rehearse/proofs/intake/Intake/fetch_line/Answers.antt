use Rattle.std.proofs.Common.{◌≡◌, ◌≢◌, ℕ, ◌-◌, ◌<◌, List, length, take, drop, true, None, inl, inr, ap, ◌∙◌, arith}
use Rattle.std.specs.List.{list_all}
use Rattle.rehearse.specs.Intakes.{IntakeState}
use Rattle.rehearse.specs.Reading.{is_other}
use Rattle.rehearse.proofs.Cutting.{to_end}
use Rattle.rehearse.proofs.Fetching.{fetched_more, took_true, took_false}
use Rattle.rehearse.proofs.Finding.{line_there, none_there, none_still}
use Rattle.rehearse.proofs.intake.Intake.fetch_line.Goals as goal

pub returns-in-Some-clause-finds : goal.returns-in-Some-clause-finds
returns-in-Some-clause-finds g c =
    let left : List ℕ = c.left.result.now in
    line_there c.pieces.self (take (length left - c.pieces.seen) (drop c.pieces.seen left)) c.in-Some.line.now c.in-Some.field-0-1.now c.pieces.seen c.pieces.invariant.within c.pieces.invariant.none
    (to_end left c.pieces.seen ∙ ap (drop c.pieces.seen) c.left.ensures) c.in-Some.ensures

pub returns-then-seen-saturating_sub-clause-finds : goal.returns-then-seen-saturating_sub-clause-finds
returns-then-seen-saturating_sub-clause-finds g c =
    let left : List ℕ = c.left.result.now in
    let place = ap (λ (s : IntakeState). s.place) c.self.view_is in (
      none_there c.pieces.self.left (take (length left - c.pieces.seen) (drop c.pieces.seen left)) c.pieces.seen c.pieces.invariant.none
          (to_end left c.pieces.seen ∙ ap (drop c.pieces.seen) c.left.ensures) c.in_default.ensures,
      inr (omega (arith, c.if-seen-saturating_sub.true, c.saturating_sub.ensures, ap length c.left-seen.ensures, place)),
    )

pub returns-in_err-fetch-clause-fetches : goal.returns-in_err-fetch-clause-fetches
returns-in_err-fetch-clause-fetches g c = fetched_more _ _ _ _ _ _ _ _ _ c.pieces.invariant.fetches c.fetch.ensures.fetches

pub returns-then-not-branch-clause-fetches : goal.returns-then-not-branch-clause-fetches
returns-then-not-branch-clause-fetches g c = fetched_more _ _ _ _ _ _ _ _ _ c.pieces.invariant.fetches c.fetch.ensures.fetches

pub returns-then-not-branch-clause-finds : goal.returns-then-not-branch-clause-finds
returns-then-not-branch-clause-finds g c =
    let left : List ℕ = c.left.result.now in
    let t : (c.fetch.new.self.left ≡ c.pieces.self.left) × (c.fetch.new.self.stopped ≢ None) =
    took_false c.pieces.self c.fetch.new.self c.in_ok-fetch.field-0 c.if-not-branch.true c.in_ok-fetch.ensures.took in (
      ap (list_all (is_other 10)) t.0
          ∙ none_there c.pieces.self.left (take (length left - c.pieces.seen) (drop c.pieces.seen left)) c.pieces.seen c.pieces.invariant.none
          (to_end left c.pieces.seen ∙ ap (drop c.pieces.seen) c.left.ensures) c.in_default.ensures,
      inl t.1,
    )

pub pieces-preserved : goal.pieces-preserved
pieces-preserved g c =
    let left : List ℕ = c.left.result.now in
    let t : (length c.pieces.self.left < length c.fetch.new.self.left) × (c.fetch.new.self.stopped ≡ None) =
    took_true c.pieces.self c.fetch.new.self c.in_ok-fetch.field-0 c.if-not-branch.false c.in_ok-fetch.ensures.took in
    let seen : length c.left-seen.result.now ≡ length c.pieces.self.left = ap length c.left-seen.ensures in
    let none : list_all (is_other 10) c.pieces.self.left ≡ true =
    none_there c.pieces.self.left (take (length left - c.pieces.seen) (drop c.pieces.seen left)) c.pieces.seen c.pieces.invariant.none
    (to_end left c.pieces.seen ∙ ap (drop c.pieces.seen) c.left.ensures) c.in_default.ensures in
    record {
      fetches = fetched_more _ _ _ _ _ _ _ _ _ c.pieces.invariant.fetches c.fetch.ensures.fetches;
      within = omega (arith, t.0, seen);
      none =
          ap (λ (n : ℕ). list_all (is_other 10) (take n c.fetch.new.self.left)) seen
          ∙ none_still c.pieces.self.left c.fetch.ensures.fetches.given c.fetch.new.self.left c.fetch.ensures.fetches.left none;
    }
