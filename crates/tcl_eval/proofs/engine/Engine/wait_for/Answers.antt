use Rattle.std.proofs.Common.{refl, sym, arith}
use Rattle.tcl_eval.specs.Engine.{state_of}
use Rattle.tcl_eval.proofs.Branches.{choose_step}
use Rattle.tcl_eval.proofs.engine.Engine.wait_for.Goals as goal

pub returns-clause-means : goal.returns-clause-means
returns-clause-means g c = λ ns opened gv.
    let e = c.args.self.now in
    let all = c.args.branches.value in
    let text = c.args.condition.now in
    let count = rw c.deref.ensures at c.len.ensures in
    choose_step ns g.H.Host.table e.stack.items c.push.new.self.items c.args.branches all (text, c.args.body) text c.args.body c.args.at _ c.args.levels (state_of e) e.budget gv _ c.in_ok-push.ensures.items refl (sym c.requires) (omega (arith, c.place_behind-next.ensures, count)) refl refl (c.in_ok-acted.ensures.means ns opened gv)
