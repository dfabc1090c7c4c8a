use Rattle.std.proofs.Common.{◌∙◌, false, refl, ap}
use Rattle.natives.specs.Names.{names_of}
use Rattle.serving.specs.Connections.{asks_close, is_head_only}
use Rattle.rehearse.specs.declared.worker.UnderWay.{UnderWay}
use Rattle.rehearse.specs.declared.worker.Task.TheVariants as tasks
use Rattle.rehearse.specs.declared.worker.Worker.{Worker}
use Rattle.rehearse.specs.Playing.{setting_of, one_more}
use Rattle.rehearse.specs.World.{Open, begun_request}
use Rattle.rehearse.proofs.Working.{begun_serves, begun_ready}
use Rattle.rehearse.proofs.worker.Worker.begin.Goals as goal

pub returns-clause-begun : goal.returns-clause-begun
returns-clause-begun g c = rw c.turn_to.ensures
    (let serving : UnderWay = record { run = c.begin_request-run.result; moment = c.args.setting.now.moment; asks_close = c.asks_close-asks_close.result; head_only = c.is_head_only-head_only.result; written = false } in (
      serving,
      refl,
      begun_serves (names_of c.args.natives.now) (setting_of (names_of c.args.natives.now) c.args.setting.now) c.args.objects.now c.args.request serving c.in_ok-interp.interp
          c.in_ok-interp.ensures.is_new.1 c.begin_request-run.ensures refl (c.asks_close-asks_close.ensures ∙ ap asks_close c.get-asked.ensures) (c.is_head_only-head_only.ensures ∙ ap is_head_only c.get-asked.ensures) refl,
    ))

pub returns-clause-ready : goal.returns-clause-ready
returns-clause-ready g c = rw c.turn_to.ensures
    (let serving : UnderWay = record { run = c.begin_request-run.result; moment = c.args.setting.now.moment; asks_close = c.asks_close-asks_close.result; head_only = c.is_head_only-head_only.result; written = false } in
    let request : Open = begun_request (setting_of (names_of c.args.natives.now) c.args.setting.now) c.args.objects.now c.args.request in
    let after : Worker = record c.args.self.now { keeper = c.take.new.self; task = tasks.Serving (one_more c.args.connection) serving } in
    begun_ready (names_of c.args.natives.now) c.args.objects.now.blueprint after c.args.connection serving request request c.in_ok-interp.interp
    c.requires.ready.0.0 c.in_ok-interp.ensures.none refl c.requires.ready.1 c.begin_request-run.ensures c.in_ok-interp.ensures.is_new.2 refl
    (begun_serves (names_of c.args.natives.now) (setting_of (names_of c.args.natives.now) c.args.setting.now) c.args.objects.now c.args.request serving c.in_ok-interp.interp
    c.in_ok-interp.ensures.is_new.1 c.begin_request-run.ensures refl (c.asks_close-asks_close.ensures ∙ ap asks_close c.get-asked.ensures) (c.is_head_only-head_only.ensures ∙ ap is_head_only c.get-asked.ensures) refl))
