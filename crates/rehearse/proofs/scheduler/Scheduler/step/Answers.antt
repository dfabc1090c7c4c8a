use Rattle.std.proofs.Common.{Option, sym, subst, ap, ◌∙◌}
use Rattle.std.specs.Prelude.{MatchOption, OnOk}
use Rattle.natives.specs.Names.{names_of}
use Rattle.rehearse.specs.declared.scheduler.Running.{Running}
use Rattle.rehearse.specs.declared.scheduler.Scheduler as code
use Rattle.rehearse.specs.Playing.{setting_of, with_running, IsScriptReady, ScheduleStepped}
use Rattle.rehearse.proofs.scheduler.Scheduler.step.Goals as goal

pub go_on-requires-clause-none : goal.go_on-requires-clause-none
go_on-requires-clause-none g c = c.in-Some.ensures.after

pub go_on-requires-clause-ready : goal.go_on-requires-clause-ready
go_on-requires-clause-ready g c = (
  c.requires.0,
  subst (λ (r : Option Running). MatchOption r (Unit {0}) (IsScriptReady (names_of c.args.natives.now) c.args.objects.now.blueprint)) (sym c.in-Some.ensures.value) c.requires.1,
)

pub returns-in-Some : goal.returns-in-Some
returns-in-Some g c =
    subst
    (λ (s : code.Scheduler). OnOk c.go_on.result (ScheduleStepped (setting_of (names_of c.args.natives.now) c.args.setting.now) s c.args.objects.now c.args.listing.now c.go_on.new.self c.go_on.new.objects c.go_on.new.listing))
    (ap (λ (r : Option Running). with_running c.args.self.now r) c.in-Some.ensures.value)
    c.go_on.ensures

pub begin-requires-clause-none : goal.begin-requires-clause-none
begin-requires-clause-none g c = c.in-None.ensures.after

pub begin-requires-clause-ready : goal.begin-requires-clause-ready
begin-requires-clause-ready g c = (
  c.requires.0,
  subst (λ (r : Option Running). MatchOption r (Unit {0}) (IsScriptReady (names_of c.args.natives.now) c.args.objects.now.blueprint)) (sym c.in-None.ensures.after) tt,
)

pub returns-in-None : goal.returns-in-None
returns-in-None g c =
    subst
    (λ (s : code.Scheduler). OnOk c.begin.result (ScheduleStepped (setting_of (names_of c.args.natives.now) c.args.setting.now) s c.args.objects.now c.args.listing.now c.begin.new.self c.begin.new.objects c.args.listing.now))
    (ap (λ (r : Option Running). with_running c.args.self.now r) (c.in-None.ensures.after ∙ c.in-None.ensures.value))
    (c.begin.ensures c.args.listing.now)
