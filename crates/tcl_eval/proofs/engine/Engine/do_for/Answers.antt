use Rattle.std.proofs.Common.{◌∙◌, sym}
use Rattle.tcl_eval.specs.Engine.{state_of}
use Rattle.tcl_eval.proofs.Turns.{for_step}
use Rattle.tcl_eval.proofs.engine.Engine.do_for.Goals as goal

pub returns-clause-means : goal.returns-clause-means
returns-clause-means g c = λ ns opened gv.
    let e = c.args.self.now in
    for_step ns g.H.Host.table e.stack.items c.push.new.self.items c.args.words.now c.in_ok-turning.turning c.args.levels c.in_ok-start.start c.in_ok-condition.condition c.in_ok-next.next c.in_ok-body.body (state_of e) e.budget gv _ c.in_ok-push.ensures.items (sym c.len.ensures ∙ c.if-len-ne5.false) c.in_ok-turning.ensures.ok c.in_ok-start.ensures c.in_ok-condition.ensures c.in_ok-next.ensures c.in_ok-body.ensures (c.in_ok-acted.ensures.means ns opened gv)
