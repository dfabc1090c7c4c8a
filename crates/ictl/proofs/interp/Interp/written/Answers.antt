use Rattle.std.proofs.Common.{◌≡◌, ◌+◌, List, Bool, true, false, refl, sym, subst, ◌∙◌, [], arith}
use Rattle.natives.specs.Names.{names_of}
use Rattle.outside.specs.declared.question.Answer.{Answer}
use Rattle.ictl.specs.Main.{behind, answered, both, ends}
use Rattle.ictl.specs.Interps.{UnlessNoMemory, Stands, GoesBehind, behind_of, gives, taken, ending_of, interp_state, IsWithin}
use Rattle.ictl.specs.Falls.{Falls, first_number}
use Rattle.ictl.specs.declared.next.Next.{Next}
use Rattle.ictl.proofs.Interpreters.{answered_or, unwritten_stands, unwritten_over, over_same, over_holds}
use Rattle.ictl.proofs.Resets.{sound_on, writing_runs}
use Rattle.ictl.proofs.Starts.{written_most}
use Rattle.ictl.specs.declared.interp.Interp.{Interp}
use Rattle.cmd_table.specs.Commands.{Writes}
use Rattle.ictl.proofs.Withins.{out_stands}
use Rattle.ictl.proofs.interp.Interp.written.Goals as goal

pub returns-then-whole-clause-stands : goal.returns-then-whole-clause-stands
returns-then-whole-clause-stands g c = λ request sound visit inside.
    let names = names_of c.args.natives.now in
    let old = c.args.self.now in
    subst (λ (b : Bool). Stands names (behind_of names old b request inside) c.next_of.result (inside + taken names c.go_behind.new.steps c.args.steps.now c.go_behind.new.self old) c.go_behind.new.self []) (sym c.if-whole.true)
    (answered_or c.go_behind.result c.next_of.result (λ (n : Next). GoesBehind names true n c.go_behind.new.steps c.args.steps.now c.go_behind.new.self old) (λ request sound visit inside. tt) c.next_of.ensures c.go_behind.ensures.stands request sound visit inside)

pub returns-then-whole-clause-unwritten : goal.returns-then-whole-clause-unwritten
returns-then-whole-clause-unwritten g c = λ short. absurd (let both : true ≡ false = sym c.if-whole.true ∙ short in cc)

pub returns-then-whole-clause-sound : goal.returns-then-whole-clause-sound
returns-then-whole-clause-sound g c = λ names sound. sound_on names c.go_behind.new.self c.args.self.now (writing_runs c.args.self.now c.requires) c.go_behind.ensures.same c.go_behind.ensures.holds sound

pub returns-then-whole-clause-next : goal.returns-then-whole-clause-next
returns-then-whole-clause-next g c = out_stands c.go_behind.result c.next_of.result c.go_behind.new.self c.next_of.ensures c.go_behind.ensures.next

pub returns-then-whole-clause-falls : goal.returns-then-whole-clause-falls
returns-then-whole-clause-falls g c = answered_or c.go_behind.result c.next_of.result _ tt c.next_of.ensures c.go_behind.ensures.falls

pub returns-else-whole-clause-stands : goal.returns-else-whole-clause-stands
returns-else-whole-clause-stands g c = λ request sound visit inside.
    let names = names_of c.args.natives.now in
    let old = c.args.self.now in
    subst (λ (b : Bool). UnlessNoMemory c.end_here.result ((further : List Answer) → behind names old.blueprint.value old.moment b request (ending_of old.task) (interp_state old) inside further
    ≡ gives names c.end_here.result (inside + taken names c.args.steps.now c.args.steps.now c.end_here.new.self old) c.end_here.new.self further)) (sym c.if-whole.false)
    (unwritten_stands names c.end_here.result old c.end_here.new.self request inside c.args.steps.now c.end_here.ensures.ends c.end_here.ensures.task)

pub returns-else-whole-clause-unwritten : goal.returns-else-whole-clause-unwritten
returns-else-whole-clause-unwritten g c = λ short. (c.end_here.ensures.ends, refl)

pub returns-else-whole-clause-same : goal.returns-else-whole-clause-same
returns-else-whole-clause-same g c = over_same c.end_here.new.self c.args.self.now c.end_here.ensures.task

pub returns-else-whole-clause-holds : goal.returns-else-whole-clause-holds
returns-else-whole-clause-holds g c = over_holds c.end_here.new.self c.args.self.now c.end_here.ensures.task

pub returns-else-whole-clause-sound : goal.returns-else-whole-clause-sound
returns-else-whole-clause-sound g c = λ names sound.
    sound_on names c.end_here.new.self c.args.self.now (writing_runs c.args.self.now c.requires) (over_same c.end_here.new.self c.args.self.now c.end_here.ensures.task) (over_holds c.end_here.new.self c.args.self.now c.end_here.ensures.task) sound

pub returns-else-whole-clause-next : goal.returns-else-whole-clause-next
returns-else-whole-clause-next g c = unwritten_over c.end_here.result c.args.self.now c.end_here.new.self c.end_here.ensures.ends c.end_here.ensures.task c.requires.0

pub returns-else-whole-clause-falls : goal.returns-else-whole-clause-falls
returns-else-whole-clause-falls g c = subst (λ (n : Next). Falls n c.end_here.new.self first_number) (sym c.end_here.ensures.ends) tt

pub returns-then-whole-clause-most : goal.returns-then-whole-clause-most
returns-then-whole-clause-most g c = λ request sound visit inside.
    let names = names_of c.args.natives.now in
    let old = c.args.self.now in
    let new = c.go_behind.new.self in
    subst (λ (b : Bool). IsWithin (inside + Writes (interp_state old).made) c.args.steps.now c.go_behind.new.steps new (behind names old.blueprint.value old.moment b request (ending_of old.task) (interp_state old) inside [])) (sym c.if-whole.true)
    (written_most names c.go_behind.result old new c.args.steps.now c.go_behind.new.steps c.requires.0 c.go_behind.ensures.counts c.go_behind.ensures.most c.go_behind.ensures.stands c.go_behind.ensures.next request sound visit inside)

pub returns-else-whole-clause-most : goal.returns-else-whole-clause-most
returns-else-whole-clause-most g c = λ request sound visit inside.
    let names = names_of c.args.natives.now in
    let old = c.args.self.now in
    subst (λ (b : Bool). IsWithin (inside + Writes (interp_state old).made) c.args.steps.now c.args.steps.now c.end_here.new.self (behind names old.blueprint.value old.moment b request (ending_of old.task) (interp_state old) inside [])) (sym c.if-whole.false)
    (subst (λ (i : Interp). IsWithin (inside + Writes (interp_state old).made) c.args.steps.now c.args.steps.now i (ends (both (ending_of old.task) answered) (interp_state old) inside [])) (sym c.end_here.ensures.task) (record { all = omega arith; own = omega arith }))
