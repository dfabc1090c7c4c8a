use Rattle.std.proofs.Common.{◌≡◌, ◌≤◌, ℕ, ◌+◌, ◌*◌, List, take, length, refl, sym, subst, ap, ◌∙◌, arith, None}
use Rattle.cmd_table.specs.Table.{Table, State as TableState, mark_of, back_at}
use Rattle.cmd_table.specs.Commands.{Writes}
use Rattle.cmd_table.specs.declared.definition.Def.{Def}
use Rattle.ictl.specs.Fresh.{updated}
use Rattle.ictl.specs.Interps.{interp_state}
use Rattle.tcl_frame.specs.Stack.{Kept}
use Rattle.blueprint.specs.States.{first_misfit}
use Rattle.server_host.specs.Hosts.{HostState}
use Rattle.tcl_eval.specs.State.{State}
use Rattle.tcl_eval.specs.declared.engine.Engine.{Engine}
use Rattle.ictl.proofs.Resets.{taken_back}
use Rattle.ictl.proofs.Updates.{keeps_on, front_within, abandoned_based, defined_on, states_back, table_restored, new_mark}
use Rattle.ictl.proofs.interp.Interp.define_more.Goals as goal

pub define_all-requires-clause-base : goal.define_all-requires-clause-base
define_all-requires-clause-base g c = abandoned_based c.requires.is_new.0 c.args.self.now c.abandon.new.self c.abandon.ensures.state c.requires.is_new.1

pub define_all-requires-clause-applies : goal.define_all-requires-clause-applies
define_all-requires-clause-applies g c =
    subst (λ (l : List Def). first_misfit c.abandon.new.self.table.table l ≡ None) (sym c.as_slice.ensures)
    (subst (λ (t : Table). first_misfit t c.args.defs.now ≡ None) (sym (ap (λ (s : State HostState). s.commands) c.abandon.ensures.state)) c.requires.applies)

pub returns-in-Ok-clause-ok : goal.returns-in-Ok-clause-ok
returns-in-Ok-clause-ok g c =
    ((rw c.in-Ok.is at c.define_all.ensures.ok) ∙ defined_on c.abandon.new.self (interp_state c.args.self.now) c.as_slice.result.now c.abandon.ensures.state ∙ ap (λ (l : List Def). updated l (interp_state c.args.self.now)) c.as_slice.ensures, refl)

pub unkeep-requires-clause-within : goal.unkeep-requires-clause-within
unkeep-requires-clause-within g c =
    subst (λ (n : ℕ). n ≤ length c.define_all.new.engine.frames.keeps) (sym c.kept-kept.ensures)
    (front_within (length c.abandon.new.self.frames.keeps) c.define_all.new.engine.frames.keeps (ap length c.define_all.ensures.front))

pub clear-requires : goal.clear-requires
clear-requires g c =
    let mark = new_mark c.requires.is_new.0 c.args.self.now c.requires.is_new.1 in
    let kept = keeps_on c.args.self.now.settling.run.engine.table c.abandon.new.self.table c.define_all.new.engine.table c.abandon.ensures.lasts.0 c.define_all.ensures.keeps in
    let within = (kept c.args.self.now.mark (omega (arith, mark))).0 in
    subst (λ (e : Engine HostState). c.args.self.now.mark ≤ mark_of e.table) (sym c.unkeep.ensures) within

pub returns-in-Err-clause-err : goal.returns-in-Err-clause-err
returns-in-Err-clause-err g c =
    let old = c.args.self.now in
    let names = c.requires.is_new.0 in
    let new = c.requires.is_new.1 in
    let mark = new_mark names old new in
    let engine = c.define_all.new.engine in
    let before = c.abandon.new.self in
    let kept = keeps_on old.settling.run.engine.table before.table engine.table c.abandon.ensures.lasts.0 c.define_all.ensures.keeps in
    let keeps = c.abandon.ensures.lasts.2 in
    let front = subst (λ (l : List Kept). take (length l) engine.frames.keeps ≡ l) keeps c.define_all.ensures.front in (
      states_back names old engine.table engine.frames engine.host engine.made old.mark c.kept-kept.result _ new refl (c.kept-kept.ensures ∙ ap length keeps) kept front
          (c.define_all.ensures.rest.0 ∙ ap (λ (s : State HostState). s.host) c.abandon.ensures.state)
          (c.clear.ensures.state ∙ ap (λ (e : Engine HostState). taken_back e old.mark) c.unkeep.ensures),
      c.clear.ensures.table ∙ ap (λ (e : Engine HostState). back_at e.table old.mark) c.unkeep.ensures ∙ table_restored old.settling.run.engine.table engine.table old.mark mark kept,
      refl,
    )

pub returns-in-Err-clause-most : goal.returns-in-Err-clause-most
returns-in-Err-clause-most g c =
    let mark = new_mark c.requires.is_new.0 c.args.self.now c.requires.is_new.1 in
    let table : mark_of c.abandon.new.self.table + Writes c.args.self.now.settling.run.engine.made ≡ mark_of c.args.self.now.settling.run.engine.table + Writes c.abandon.new.self.made = c.abandon.ensures.lasts.1 in
    let made : Writes c.abandon.new.self.made ≡ Writes c.args.self.now.settling.run.engine.made = ap (λ (s : State HostState). Writes s.made) c.abandon.ensures.state in
    let same : mark_of c.unkeep.new.self.table ≡ mark_of c.define_all.new.engine.table = ap (λ (e : Engine HostState). mark_of e.table) c.unkeep.ensures in
    let fewer : Writes c.as_slice.result.now ≡ Writes c.args.defs.now = ap Writes c.as_slice.ensures in
    omega (arith, mark, table, made, same, fewer, c.define_all.ensures.most, c.define_all.ensures.marks, c.clear.ensures.steps)
