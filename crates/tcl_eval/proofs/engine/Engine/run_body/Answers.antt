use Rattle.std.proofs.Common.{◌∙◌}
use Rattle.natives.specs.Names.{names_of}
use Rattle.tcl_eval.specs.State.{Next}
use Rattle.tcl_eval.specs.Eval.{nested, unread}
use Rattle.tcl_eval.proofs.engine.Engine.run_body.Goals as goal

pub returns-in-Some-clause-means : goal.returns-in-Some-clause-means
returns-in-Some-clause-means g c = λ k gv.
    let ns = names_of c.args.natives.now in
    let t = g.H.Host.table in
    let inner = nested ns t c.args.levels in
    let go = λ (k : Next g.row.H.Denot). inner.run (unread c.args.body.now) k in
    let wrote = rw c.in-Some.is at c.in_ok-refused.ensures.means in
    wrote go k gv

pub returns-in_ok-ran-in-None-clause-means : goal.returns-in_ok-ran-in-None-clause-means
returns-in_ok-ran-in-None-clause-means g c = λ k gv.
    let ns = names_of c.args.natives.now in
    let t = g.H.Host.table in
    let inner = nested ns t c.args.levels in
    let go = λ (k : Next g.row.H.Denot). inner.run (unread c.args.body.now) k in
    let wrote = rw c.in-None.is at c.in_ok-refused.ensures.means in
    c.in_ok-ran-in-None.ensures.means c.args.body.now c.in_ok-reading-in-None.ensures k gv ∙ wrote go k gv
