use Rattle.std.proofs.Common.{◌≡◌, true, refl, subst, arith}
use Rattle.rehearse.specs.declared.worker.Task.TheVariants as tasks
use Rattle.rehearse.specs.declared.worker.Worker as code_worker
use Rattle.rehearse.proofs.Moving.{connects, no_connection_there, worker_busy, found_at, ready_there}
use Rattle.rehearse.proofs.Opening.{same_found, ready_new, ready_connected}
use Rattle.rehearse.proofs.machine.Machine.connect.Goals as goal

pub returns-then-number-len-clause-did : goal.returns-then-number-len-clause-did
returns-then-number-len-clause-did c = λ names listing. no_connection_there names c.args.self.now c.args.number c.args.input.now listing (omega arith)

pub returns-then-not-is_idle-clause-did : goal.returns-then-not-is_idle-clause-did
returns-then-not-is_idle-clause-did c = λ names listing.
    worker_busy names c.args.self.now c.args.number c.args.input.now listing c.index.result.now (found_at c.args.self.now.workers.items c.args.number c.index.result.now (omega arith) c.index.ensures)
    (λ e. let rest : c.is_idle.result ≡ true = c.is_idle.ensures.1 e in absurd (cc (rest, c.if-not-is_idle.true)))

pub returns-clause-did : goal.returns-clause-did
returns-clause-did c = λ names listing.
    let items = c.args.self.now.workers.items in
    let taken = c.index_mut.result.now in
    let found = found_at items c.args.number taken (omega arith) c.index_mut.ensures.value in
    let same : c.index.result.now ≡ taken = same_found items c.args.number c.index.result.now taken (found_at items c.args.number c.index.result.now (omega arith) c.index.ensures) found in
    let free : taken.task ≡ tasks.Idle = subst (λ (x : code_worker.Worker). x.task ≡ tasks.Idle) same (c.is_idle.ensures.0 c.if-not-is_idle.false) in
    connects names c.args.self.now _ c.args.number c.args.input.now c.in_ok-input.input listing taken c.connect.new.self c.requires c.in_ok-input.ensures found free c.connect.ensures.task c.connect.ensures.rest.0
    refl refl refl refl refl

pub returns-clause-ready : goal.returns-clause-ready
returns-clause-ready c = λ names ready.
    let items = c.args.self.now.workers.items in
    let taken = c.index_mut.result.now in
    let found = found_at items c.args.number taken (omega arith) c.index_mut.ensures.value in
    let now = c.args.self.now.objects.blueprint in
    ready_connected names c.args.self.now _ c.args.number c.connect.new.self ready refl refl refl refl
    (ready_new names now taken c.connect.new.self c.in_ok-input.input (ready_there names now items c.args.number taken ready.workers found) c.connect.ensures.task c.connect.ensures.rest.1)
