use Rattle.std.proofs.Common.{sym, subst, ap, ◌∙◌}
use Rattle.natives.specs.Names.{names_of}
use Rattle.rehearse.specs.declared.worker.Task.{Task}
use Rattle.rehearse.specs.declared.worker.Task.TheVariants as tasks
use Rattle.rehearse.specs.Playing.{setting_of, with_task, IsTaskReady}
use Rattle.rehearse.proofs.Working.{rested_stepped, stepped_from}
use Rattle.rehearse.proofs.Telling.{on_ok}
use Rattle.rehearse.proofs.worker.Worker.step.Goals as goal

pub returns-in-Idle : goal.returns-in-Idle
returns-in-Idle g c =
    rested_stepped (setting_of (names_of c.args.natives.now) c.args.setting.now) c.args.self.now _ c.args.objects.now c.args.listing.now (sym c.in-Idle.ensures.value)
    (ap (λ (t : Task). with_task c.args.self.now t) (c.in-Idle.ensures.after ∙ c.in-Idle.ensures.value)) c.requires

pub go_on-requires-clause-ready : goal.go_on-requires-clause-ready
go_on-requires-clause-ready g c =
    (c.requires.0, subst (λ (t : Task). IsTaskReady (names_of c.args.natives.now) c.args.objects.now.blueprint t) (sym c.in-Between.ensures.value) c.requires.1)

pub returns-in-Between : goal.returns-in-Between
returns-in-Between g c =
    on_ok c.go_on.result
    (stepped_from (setting_of (names_of c.args.natives.now) c.args.setting.now) (with_task c.args.self.now (tasks.Between c.in-Between.connection)) c.args.self.now c.go_on.new.self c.args.objects.now c.args.objects.now
    c.args.listing.now c.go_on.new.listing (ap (λ (t : Task). with_task c.args.self.now t) (sym c.in-Between.ensures.value)))
    c.go_on.ensures

pub serve-requires-clause-ready : goal.serve-requires-clause-ready
serve-requires-clause-ready g c =
    (c.requires.0, subst (λ (t : Task). IsTaskReady (names_of c.args.natives.now) c.args.objects.now.blueprint t) (sym c.in-Serving.ensures.value) c.requires.1)

pub returns-in-Serving : goal.returns-in-Serving
returns-in-Serving g c =
    on_ok c.serve.result
    (stepped_from (setting_of (names_of c.args.natives.now) c.args.setting.now) (with_task c.args.self.now (tasks.Serving c.in-Serving.connection c.in-Serving.serving)) c.args.self.now c.serve.new.self
    c.args.objects.now c.serve.new.objects c.args.listing.now c.serve.new.listing (ap (λ (t : Task). with_task c.args.self.now t) (sym c.in-Serving.ensures.value)))
    c.serve.ensures
