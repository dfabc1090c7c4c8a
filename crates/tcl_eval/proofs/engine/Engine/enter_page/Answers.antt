use Rattle.std.proofs.Common.{refl}
use Rattle.tcl_eval.specs.Engine.{state_of}
use Rattle.tcl_eval.proofs.Pages.{page_step}
use Rattle.tcl_eval.proofs.engine.Engine.enter_page.Goals as goal

pub returns-clause-means : goal.returns-clause-means
returns-clause-means g c = λ ns opened gv.
    let e = c.args.self.now in
    page_step ns g.H.Host.table e.stack.items c.push-2.new.self.items c.args.pieces.list c.args.pieces c.args.levels c.done.result c.push.new.self (state_of e) e.budget gv c.in_ok-push-2.ensures.items refl c.done.ensures c.in_ok-push.ensures.ok
