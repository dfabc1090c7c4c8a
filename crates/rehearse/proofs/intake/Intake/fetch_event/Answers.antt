use Rattle.std.proofs.Common.{ℕ, ◌-◌, ◌<◌, take, Bool, Option, Some, subst, ap, arith}
use Rattle.rehearse.specs.Events.{most_file}
use Rattle.rehearse.specs.Intakes.{IntakeState}
use Rattle.rehearse.specs.Playing.{FindsLine, HasBytes}
use Rattle.rehearse.proofs.Fetching.{fetched_more}
use Rattle.rehearse.proofs.Finding.{IsOfSize, finds_no_line, finds_no_head, finds_too_long, finds_cut_short, finds_event, sized_by, still_of_size}
use Rattle.rehearse.proofs.intake.Intake.fetch_event.Goals as goal

pub returns-in_default-clause-finds : goal.returns-in_default-clause-finds
returns-in_default-clause-finds g c =
    finds_no_line c.fetch_line.new.self (subst (λ (f : Option ℕ). FindsLine f c.fetch_line.new.self) c.in_default.is c.in_ok-line.ensures.finds)

pub returns-in_default-event_size-clause-finds : goal.returns-in_default-event_size-clause-finds
returns-in_default-event_size-clause-finds g c =
    finds_no_head c.fetch_line.new.self c.in-Some.line (take c.in-Some.line c.left.result.now)
    (subst (λ (f : Option ℕ). FindsLine f c.fetch_line.new.self) c.in-Some.is c.in_ok-line.ensures.finds)
    (ap (take c.in-Some.line) c.left.ensures) c.in_default-event_size.ensures

pub returns-then-size-saturating_sub-clause-finds : goal.returns-then-size-saturating_sub-clause-finds
returns-then-size-saturating_sub-clause-finds g c =
    let line : FindsLine (Some c.in-Some.line) c.fetch_line.new.self = subst (λ (f : Option ℕ). FindsLine f c.fetch_line.new.self) c.in-Some.is c.in_ok-line.ensures.finds in
    let place = ap (λ (s : IntakeState). s.place) c.self.view_is in
    finds_too_long c.fetch_line.new.self c.in-Some.line c.in-Some-event_size.size line
    (sized_by c.fetch_line.new.self c.in-Some.line (take c.in-Some.line c.left.result.now) c.in-Some-event_size.size line
    (ap (take c.in-Some.line) c.left.ensures) c.in-Some-event_size.ensures)
    (omega (arith, c.if-size-saturating_sub.true, c.saturating_sub.ensures, place))

pub returns-in_err-there-clause-fetches : goal.returns-in_err-there-clause-fetches
returns-in_err-there-clause-fetches g c = fetched_more _ _ _ _ _ _ _ _ _ c.fetch_line.ensures.fetches c.fetch_bytes.ensures.fetches

pub returns-then-there-clause-fetches : goal.returns-then-there-clause-fetches
returns-then-there-clause-fetches g c = fetched_more _ _ _ _ _ _ _ _ _ c.fetch_line.ensures.fetches c.fetch_bytes.ensures.fetches

pub returns-else-there-clause-fetches : goal.returns-else-there-clause-fetches
returns-else-there-clause-fetches g c = fetched_more _ _ _ _ _ _ _ _ _ c.fetch_line.ensures.fetches c.fetch_bytes.ensures.fetches

pub returns-then-there-clause-finds : goal.returns-then-there-clause-finds
returns-then-there-clause-finds g c =
    let line : FindsLine (Some c.in-Some.line) c.fetch_line.new.self = subst (λ (f : Option ℕ). FindsLine f c.fetch_line.new.self) c.in-Some.is c.in_ok-line.ensures.finds in
    let place = ap (λ (s : IntakeState). s.place) c.self.view_is in
    let fits : (most_file - c.fetch_line.new.self.place) < c.in-Some-event_size.size → ⊥ = λ k. omega (arith, k, c.if-size-saturating_sub.false, c.saturating_sub.ensures, place) in
    finds_event c.fetch_line.new.self c.fetch_bytes.new.self c.in-Some.line (take c.in-Some.line c.left.result.now) c.in-Some-event_size.size c.fetch_bytes.ensures.fetches.given line
    (ap (take c.in-Some.line) c.left.ensures) c.in-Some-event_size.ensures fits
    c.fetch_bytes.ensures.fetches.left c.fetch_bytes.ensures.fetches.place
    (subst (λ (b : Bool). HasBytes b c.in-Some-event_size.size c.fetch_bytes.new.self) c.if-there.true c.in_ok-there.ensures.has)

pub returns-else-there-clause-finds : goal.returns-else-there-clause-finds
returns-else-there-clause-finds g c =
    let line : FindsLine (Some c.in-Some.line) c.fetch_line.new.self = subst (λ (f : Option ℕ). FindsLine f c.fetch_line.new.self) c.in-Some.is c.in_ok-line.ensures.finds in
    let sized : IsOfSize c.fetch_line.new.self c.in-Some-event_size.size =
    sized_by c.fetch_line.new.self c.in-Some.line (take c.in-Some.line c.left.result.now) c.in-Some-event_size.size line
    (ap (take c.in-Some.line) c.left.ensures) c.in-Some-event_size.ensures in
    finds_cut_short c.fetch_bytes.new.self c.in-Some-event_size.size
    (still_of_size c.fetch_line.new.self c.fetch_bytes.new.self c.fetch_bytes.ensures.fetches.given c.in-Some-event_size.size c.fetch_bytes.ensures.fetches.left c.fetch_bytes.ensures.fetches.place sized)
    (subst (λ (b : Bool). HasBytes b c.in-Some-event_size.size c.fetch_bytes.new.self) c.if-there.false c.in_ok-there.ensures.has)
