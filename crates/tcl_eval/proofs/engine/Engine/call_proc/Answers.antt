use Rattle.std.proofs.Common.{◌∙◌}
use Rattle.tcl_eval.specs.State.{Next}
use Rattle.tcl_eval.specs.Eval.{nested, unread, write_all}
use Rattle.tcl_eval.specs.Engine.{after_writes, state_of}
use Rattle.tcl_eval.proofs.Acts.{called}
use Rattle.tcl_eval.proofs.Commands.{alike_same}
use Rattle.tcl_eval.proofs.engine.Engine.call_proc.Goals as goal

pub returns-in-Some-clause-means : goal.returns-in-Some-clause-means
returns-in-Some-clause-means g c = λ ns others gv.
    let t = g.H.Host.table in
    let e = c.args.self.now in
    let inner = nested ns t c.args.levels in
    let go = λ (k : Next g.row.H.Denot). inner.run (unread c.args.body.now) k in
    let mid = record e { frames = c.push.new.self; stack = c.push-2.new.self } in
    let wrote = rw c.in-Some.is at (alike_same ns t c.write_all.new.self mid (after_writes c.in_ok-refused.field-0 go) (λ (k : Next g.row.H.Denot). write_all c.in-Ok.values (go k) k) (c.in_ok-refused.ensures.means go) c.in_ok-refused.ensures.straight.2 gv) in
    called ns t inner e.stack.items c.push-2.new.self.items c.args.params.now c.args.body.now c.args.words.now c.in-Ok.values c.push.new.self (state_of e) e.budget gv _ c.in_ok-push-2.ensures.items c.in_ok-push.ensures.ok (c.in_ok-message.ensures ∙ c.in-Ok.is) wrote

pub returns-in_ok-acted-in-None-clause-means : goal.returns-in_ok-acted-in-None-clause-means
returns-in_ok-acted-in-None-clause-means g c = λ ns others gv.
    let t = g.H.Host.table in
    let e = c.args.self.now in
    let inner = nested ns t c.args.levels in
    let go = λ (k : Next g.row.H.Denot). inner.run (unread c.args.body.now) k in
    let mid = record e { frames = c.push.new.self; stack = c.push-2.new.self } in
    let wrote = rw c.in-None.is at (alike_same ns t c.write_all.new.self mid (after_writes c.in_ok-refused.field-0 go) (λ (k : Next g.row.H.Denot). write_all c.in-Ok.values (go k) k) (c.in_ok-refused.ensures.means go) c.in_ok-refused.ensures.straight.2 gv) in
    called ns t inner e.stack.items c.push-2.new.self.items c.args.params.now c.args.body.now c.args.words.now c.in-Ok.values c.push.new.self (state_of e) e.budget gv _ c.in_ok-push-2.ensures.items c.in_ok-push.ensures.ok (c.in_ok-message.ensures ∙ c.in-Ok.is) (c.in_ok-acted-in-None.ensures.means ns others gv ∙ wrote)
