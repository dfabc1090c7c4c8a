use Rattle.std.proofs.Common.{◌≡◌, ◌≤◌, [], ◌∷◌, Some, None, ℕ, ◌+◌, ◌-◌, ◌*◌, sym, subst, ap, ◌∙◌, refl, arith, Option}
use Rattle.natives.specs.Names.{names_of}
use Rattle.ictl.specs.Falls.{DefineFalls, define_number, inner_number, per_question, settling_number}
use Rattle.cmd_table.specs.Commands.{Writes}
use Rattle.ictl.specs.Fresh.{build_steps}
use Rattle.ictl.specs.Defines.{inner_runs}
use Rattle.ictl.specs.Standing.{comes_to, define_at, settling_at, written, inner_written}
use Rattle.ictl.specs.Within.{defined_own, SettledWithin}
use Rattle.ictl.specs.declared.running.Stop.TheVariants as stops
use Rattle.ictl.proofs.Settles.{settle_same}
use Rattle.ictl.proofs.Growing.{settle_writes}
use Rattle.ictl.proofs.Withins.{called_within, inside_within, behind_writes, answered_within, settled_from, wants}
use Rattle.ictl.proofs.Settlings.{answered_none, answered_some, answered_some_counts, then_on}
use Rattle.ictl.specs.declared.inner.InnerRun.{InnerRun}
use Rattle.ictl.specs.declared.settling.Step.TheVariants as steps
use Rattle.ictl.proofs.settling.Settling.answer.Goals as goal

pub returns-in_ok-stop-in-None-clause-gives : goal.returns-in_ok-stop-in-None-clause-gives
returns-in_ok-stop-in-None-clause-gives g c = λ question inside further.
    let s = c.args.self.now in
    answered_none (names_of c.args.natives.now) c.args.blueprint.now.value c.args.moment question c.args.answer c.in_ok-came-in-None.came c.in_ok-stop-in-None.stop s
    (record s { run = c.resume.new.self; inner = c.take.new.self }) c.go_on.new.self inside c.args.steps.now c.resume.new.steps c.go_on.new.steps further
    (sym (sym c.in-None.is ∙ c.take.ensures.value)) c.take.ensures.after refl c.resume.ensures.counts c.in_ok-came-in-None.ensures.gives (c.in_ok-stop-in-None.ensures.gives inside further)

pub returns-in-Stops-clause-gives : goal.returns-in-Stops-clause-gives
returns-in-Stops-clause-gives g c = λ question inside further.
    let s = c.args.self.now in
    let st = rw c.in-Stops.is at c.in_ok-step-in-Some.ensures.gives in
    answered_some (names_of c.args.natives.now) c.args.blueprint.now.value c.args.moment question c.args.answer c.in-Ok.came (steps.Stops c.in-Stops.last) c.in-Some.inner c.answer.new.self c.take.new.self s
    c.behind.new.self inside c.args.steps.now c.answer.new.steps c.behind.new.steps further
    (sym (sym c.in-Some.is ∙ c.take.ensures.value)) c.take.ensures.after c.answer.ensures.counts (c.in-Ok.ensures.gives c.args.blueprint.now.value c.args.moment question further) (st question inside further)

pub returns-in_ok-stop-in-Goes-clause-gives : goal.returns-in_ok-stop-in-Goes-clause-gives
returns-in_ok-stop-in-Goes-clause-gives g c = λ question inside further.
    let s = c.args.self.now in
    let names = names_of c.args.natives.now in
    let bp = c.args.blueprint.now.value in
    let st = rw c.in-Goes.is at c.in_ok-step-in-Some.ensures.gives in
    then_on names bp c.args.moment c.in-Goes.next c.in_ok-stop-in-Goes.stop s c.behind.new.self c.go_on-in-Goes.new.self inside c.args.steps.now c.behind.new.steps c.go_on-in-Goes.new.steps further _
    (answered_some_counts names bp c.args.moment c.in-Some.inner c.answer.new.self c.take.new.self s c.behind.new.self c.args.steps.now c.answer.new.steps c.behind.new.steps (sym (sym c.in-Some.is ∙ c.take.ensures.value)) c.take.ensures.after c.answer.ensures.counts c.behind.ensures.counts)
    c.go_on-in-Goes.ensures.counts
    (answered_some names bp c.args.moment question c.args.answer c.in-Ok.came (steps.Goes c.in-Goes.next) c.in-Some.inner c.answer.new.self c.take.new.self s
    c.behind.new.self inside c.args.steps.now c.answer.new.steps c.behind.new.steps further
    (sym (sym c.in-Some.is ∙ c.take.ensures.value)) c.take.ensures.after c.answer.ensures.counts (c.in-Ok.ensures.gives bp c.args.moment question further) (st question inside further))
    (λ n. c.in_ok-stop-in-Goes.ensures.gives n further)

pub returns-in-Stops-clause-falls : goal.returns-in-Stops-clause-falls
returns-in-Stops-clause-falls g c =
    let s = c.args.self.now in
    let asked = define_number c.in-Some.inner.defining.questions c.in-Some.inner.defining.value in
    let number : settling_number s ≡ per_question * s.questions + (asked + 4) = ap (λ (i : Option InnerRun). per_question * s.questions + inner_number i) (sym (sym c.in-Some.is ∙ c.take.ensures.value)) in
    let rest : asked ≡ settling_number s - (per_question * s.questions + 4) = omega (arith, number) in
    let least : per_question * s.questions ≤ settling_number s = omega (arith, number) in
    let st = rw c.in-Stops.is at c.in_ok-step-in-Some.ensures.falls in
    st (settling_number s) least (subst (λ (n : ℕ). DefineFalls c.in-Ok.came c.answer.new.self.defining n) rest c.in-Ok.ensures.falls)

pub returns-in_err-came-in-None-clause-most : goal.returns-in_err-came-in-None-clause-most
returns-in_err-came-in-None-clause-most g c = wants c.from_residual.result _ (λ question inside.
    let names = names_of c.args.natives.now in
    let bp = c.args.blueprint.now.value in
    let m = c.args.moment in
    let s = c.args.self.now in
    let none : s.inner ≡ None = sym (sym c.in-None.is ∙ c.take.ensures.value) in
    let new = record s { run = c.resume.new.self; inner = c.take.new.self } in
    subst (λ (i : Option InnerRun). SettledWithin (inside + written names bp s) c.args.steps.now c.resume.new.steps new (settling_at names bp m question s i inside (c.args.answer ∷ []))) (sym none)
    (called_within names bp s new inside c.args.steps.now c.resume.new.steps _ none c.resume.ensures.counts
    (settle_writes (inner_runs names bp m) (Writes c.resume.new.self.engine.made) s.questions inside (λ given. comes_to names (stops.Asks question) s.run ((c.args.answer, 0) ∷ given)) [] (c.resume.ensures.most question))))

pub returns-in_err-stop-in-None-clause-most : goal.returns-in_err-stop-in-None-clause-most
returns-in_err-stop-in-None-clause-most g c = wants c.from_residual-in_err-stop-in-None.result _ (λ question inside.
    let names = names_of c.args.natives.now in
    let bp = c.args.blueprint.now.value in
    let m = c.args.moment in
    let s = c.args.self.now in
    let none : s.inner ≡ None = sym (sym c.in-None.is ∙ c.take.ensures.value) in
    let mid = record s { run = c.resume.new.self; inner = c.take.new.self } in
    let new = c.go_on.new.self in
    let was : inner_written names bp s.inner ≡ 0 = ap (λ (i : Option InnerRun). inner_written names bp i) none in
    let now : inner_written names bp c.take.new.self ≡ 0 = ap (λ (i : Option InnerRun). inner_written names bp i) c.take.ensures.after in
    let counted = c.resume.ensures.counts in
    settled_from (inside + written names bp s) (inside + written names bp mid) c.args.steps.now c.resume.new.steps c.go_on.new.steps new _ (omega (arith, was, now, counted))
    (subst (SettledWithin (inside + written names bp mid) c.resume.new.steps c.go_on.new.steps new)
    (settle_same (inner_runs names bp m) s.questions inside (comes_to names c.in_ok-came-in-None.came c.resume.new.self) (λ given. comes_to names (stops.Asks question) s.run ((c.args.answer, 0) ∷ given))
    (λ given. c.in_ok-came-in-None.ensures.gives question given) []
    ∙ sym (ap (λ (i : Option InnerRun). settling_at names bp m question s i inside (c.args.answer ∷ [])) none))
    (c.in_err-stop-in-None.ensures.most inside)))

pub returns-in_default-clause-most : goal.returns-in_default-clause-most
returns-in_default-clause-most g c = λ question inside.
    let names = names_of c.args.natives.now in
    let bp = c.args.blueprint.now.value in
    let m = c.args.moment in
    let s = c.args.self.now in
    let some : s.inner ≡ Some c.in-Some.inner = sym (sym c.in-Some.is ∙ c.take.ensures.value) in
    let x = define_at names bp m question c.in-Some.inner.run c.in-Some.inner.defining c.in-Some.inner.defining.value (c.args.answer ∷ []) in
    subst (λ (i : Option InnerRun). SettledWithin (inside + written names bp s) c.args.steps.now c.answer.new.steps (record s { inner = c.take.new.self }) (settling_at names bp m question s i inside (c.args.answer ∷ []))) (sym some)
    (inside_within names bp s c.take.new.self c.in-Some.inner c.answer.new.self inside (defined_own x) c.args.steps.now c.answer.new.steps _ some c.answer.ensures.counts (c.in_default.ensures.most bp m question)
    (behind_writes c.made_grows_on.ensures names bp m question s inside (build_steps names bp.defs) x))

pub returns-in_err-step-in-Some-clause-most : goal.returns-in_err-step-in-Some-clause-most
returns-in_err-step-in-Some-clause-most g c = wants c.from_residual-in_err-step-in-Some.result _ (λ question inside.
    let names = names_of c.args.natives.now in
    let bp = c.args.blueprint.now.value in
    let m = c.args.moment in
    let s = c.args.self.now in
    let some : s.inner ≡ Some c.in-Some.inner = sym (sym c.in-Some.is ∙ c.take.ensures.value) in
    answered_within names bp m question c.args.answer c.in-Ok.came c.in-Some.inner c.answer.new.self c.take.new.self s c.behind.new.self inside c.args.steps.now c.answer.new.steps c.behind.new.steps
    some c.take.ensures.after c.answer.ensures.counts (c.in-Ok.ensures.gives bp m question []) (c.in_err-step-in-Some.ensures.most question inside))

pub returns-in_err-stop-in-Goes-clause-most : goal.returns-in_err-stop-in-Goes-clause-most
returns-in_err-stop-in-Goes-clause-most g c = wants c.from_residual-in_err-stop-in-Goes.result _ (λ question inside.
    let s = c.args.self.now in
    let names = names_of c.args.natives.now in
    let bp = c.args.blueprint.now.value in
    let m = c.args.moment in
    let st = rw c.in-Goes.is at c.in_ok-step-in-Some.ensures.gives in
    let some : s.inner ≡ Some c.in-Some.inner = sym (sym c.in-Some.is ∙ c.take.ensures.value) in
    let mid = c.behind.new.self in
    let n = inside + ((c.behind.new.steps + written names bp s) - (c.args.steps.now + written names bp mid)) in
    let counts : c.args.steps.now + written names bp mid ≤ c.behind.new.steps + written names bp s =
    answered_some_counts names bp m c.in-Some.inner c.answer.new.self c.take.new.self s mid c.args.steps.now c.answer.new.steps c.behind.new.steps some c.take.ensures.after c.answer.ensures.counts c.behind.ensures.counts in
    settled_from (inside + written names bp s) (n + written names bp mid) c.args.steps.now c.behind.new.steps c.go_on-in-Goes.new.steps c.go_on-in-Goes.new.self _ (omega (arith, counts))
    (subst (SettledWithin (n + written names bp mid) c.behind.new.steps c.go_on-in-Goes.new.steps c.go_on-in-Goes.new.self)
    (answered_some names bp m question c.args.answer c.in-Ok.came (steps.Goes c.in-Goes.next) c.in-Some.inner c.answer.new.self c.take.new.self s
    mid inside c.args.steps.now c.answer.new.steps c.behind.new.steps [] some c.take.ensures.after c.answer.ensures.counts (c.in-Ok.ensures.gives bp m question []) (st question inside []))
    (c.in_err-stop-in-Goes.ensures.most n)))
