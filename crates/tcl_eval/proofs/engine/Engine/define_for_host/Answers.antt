use Rattle.std.proofs.Common.{sym}
use Rattle.tcl_eval.specs.Stack.{stack_next}
use Rattle.tcl_eval.specs.Engine.{state_of}
use Rattle.tcl_eval.proofs.Acts.{undefined_step}
use Rattle.tcl_eval.proofs.engine.Engine.define_for_host.Goals as goal

pub returns-then-not-is_for_host-clause-means : goal.returns-then-not-is_for_host-clause-means
returns-then-not-is_for_host-clause-means g c = λ ns gv.
    let e = c.args.self.now in
    undefined_step c.args.def c.args.words.now c.bytes_at.result.now c.in_ok-message.message c.in_ok-refused.refused (stack_next ns g.H.Host.table e.stack.items) (state_of e) e.budget gv (sym c.if-not-is_for_host.ensures) c.bytes_at.ensures c.in_ok-message.ensures c.in_ok-refused.ensures
