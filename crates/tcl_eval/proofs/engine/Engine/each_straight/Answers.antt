use Rattle.std.proofs.Common.{◌∙◌, List, ℕ, drop, refl, ap}
use Rattle.natives.specs.Names.{names_of}
use Rattle.tcl_eval.specs.State.{Next}
use Rattle.tcl_eval.specs.Eval.{run_script, unread, write_all}
use Rattle.tcl_eval.specs.Loops.{assigned, in_loop}
use Rattle.tcl_eval.specs.Engine.{state_of}
use Rattle.tcl_eval.proofs.Looping.{paid_one}
use Rattle.tcl_eval.proofs.engine.Engine.each_straight.Goals as goal

pub returns-in-Some-clause-means : goal.returns-in-Some-clause-means
returns-in-Some-clause-means g c = λ go k gv.
    let ns = names_of c.args.natives.now in
    let t = g.H.Host.table in
    let walk = c.args.walk.now in
    let body = λ (k' : Next g.row.H.Denot). run_script ns t c.args.levels (unread walk.body) (in_loop go k') in
    let paid = c.if-not-pay.ensures in
    let e = c.pay.new.self in
    let values = rw c.as_slice.ensures at c.from_place-values.ensures in
    let wrote = rw (c.in-Some.is, c.as_slice-2.ensures) at c.in_ok-refused.ensures.means in
    paid_one c.args.self.now e _ (write_all (assigned walk.names (drop c.args.at walk.values)) (body k) k) gv _ refl paid.0 paid.1
    (wrote body k gv
    ∙ ap (λ (v : List (List ℕ)). write_all (assigned walk.names v) (body k) k (state_of e) e.budget gv) values)

pub returns-in_ok-each-in-None-clause-means : goal.returns-in_ok-each-in-None-clause-means
returns-in_ok-each-in-None-clause-means g c = λ go k gv.
    let ns = names_of c.args.natives.now in
    let t = g.H.Host.table in
    let walk = c.args.walk.now in
    let body = λ (k' : Next g.row.H.Denot). run_script ns t c.args.levels (unread walk.body) (in_loop go k') in
    let paid = c.if-not-pay.ensures in
    let e = c.pay.new.self in
    let values = rw c.as_slice.ensures at c.from_place-values.ensures in
    let wrote = rw (c.in-None.is, c.as_slice-2.ensures) at c.in_ok-refused.ensures.means in
    paid_one c.args.self.now e _ (write_all (assigned walk.names (drop c.args.at walk.values)) (body k) k) gv _ refl paid.0 paid.1
    (c.in_ok-each-in-None.ensures.means go k gv
    ∙ wrote body k gv
    ∙ ap (λ (v : List (List ℕ)). write_all (assigned walk.names v) (body k) k (state_of e) e.budget gv) values)
