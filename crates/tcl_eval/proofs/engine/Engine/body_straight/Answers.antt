use Rattle.std.proofs.Common.{◌∙◌, refl}
use Rattle.natives.specs.Names.{names_of}
use Rattle.tcl_eval.specs.Eval.{nested, run_script, unread}
use Rattle.tcl_eval.specs.Loops.{between, in_loop}
use Rattle.tcl_eval.proofs.Looping.{paid_one}
use Rattle.tcl_eval.proofs.engine.Engine.body_straight.Goals as goal

pub returns-in_ok-turn-in-None-clause-means : goal.returns-in_ok-turn-in-None-clause-means
returns-in_ok-turn-in-None-clause-means g c = λ go k gv.
    let ns = names_of c.args.natives.now in
    let t = g.H.Host.table in
    let inner = nested ns t c.args.levels in
    let behind = between inner c.args.turning.now.next go k in
    let paid = c.if-not-pay.ensures in
    let part = rw c.in-None.is at c.in_ok-part_straight.ensures.means in
    paid_one c.args.self.now c.pay.new.self _ (run_script ns t c.args.levels (unread c.args.turning.now.body) (in_loop behind k)) gv _ refl paid.0 paid.1
    (c.in_ok-turn-in-None.ensures.means go k gv ∙ part behind k gv)

pub returns-in-Some-clause-means : goal.returns-in-Some-clause-means
returns-in-Some-clause-means g c = λ go k gv.
    let ns = names_of c.args.natives.now in
    let t = g.H.Host.table in
    let inner = nested ns t c.args.levels in
    let behind = between inner c.args.turning.now.next go k in
    let paid = c.if-not-pay.ensures in
    let part = rw c.in-Some.is at c.in_ok-part_straight.ensures.means in
    paid_one c.args.self.now c.pay.new.self _ (run_script ns t c.args.levels (unread c.args.turning.now.body) (in_loop behind k)) gv _ refl paid.0 paid.1
    (c.body_left.ensures.means ns inner c.args.turning.now go k gv ∙ part behind k gv)
