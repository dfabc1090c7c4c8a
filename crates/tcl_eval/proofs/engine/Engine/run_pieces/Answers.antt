use Rattle.std.proofs.Common.{◌∙◌, ◌+◌, ◌*◌, ap, arith}
use Rattle.tcl_eval.specs.Eval.{nested, with_host}
use Rattle.tcl_eval.specs.Pages.{page_end}
use Rattle.tcl_eval.specs.Stack.{stack_next, stack_free}
use Rattle.tcl_eval.specs.Engine.{state_of, credit}
use Rattle.tcl_eval.proofs.Stacks.{freed}
use Rattle.tcl_eval.proofs.Pages.{one_less, page_past, piece_step, entered}
use Rattle.tcl_eval.proofs.engine.Engine.run_pieces.Goals as goal

pub returns-in-None-clause-means : goal.returns-in-None-clause-means
returns-in-None-clause-means g c = λ ns opened gv.
    let t = g.H.Host.table in
    let e = c.args.self.now in
    let k = stack_next ns t e.stack.items in
    page_past ns t (nested ns t c.args.levels) c.args.pieces c.args.at k (state_of e) e.budget gv _ c.in-None.ensures
    (c.end_page.ensures.means ns opened gv ∙ ap (λ (h : g.row.H.Denot). page_end 0 k (with_host (state_of e) h) e.budget gv) c.leave.ensures)

pub returns-in_ok-acted-in-Some-clause-means : goal.returns-in_ok-acted-in-Some-clause-means
returns-in_ok-acted-in-Some-clause-means g c = λ ns opened gv.
    let e = c.args.self.now in
    piece_step ns g.H.Host.table e.stack.items c.push.new.self.items c.args.pieces c.in-Some.piece.now c.in_ok-piece-in-Some.piece c.args.at c.place_behind-next.result c.args.levels (state_of e) e.budget gv _ c.in_ok-push-in-Some.ensures.items c.in-Some.ensures (omega (arith, c.place_behind-next.ensures, c.len.ensures)) c.in_ok-piece-in-Some.ensures (c.in_ok-acted-in-Some.ensures.means ns opened gv)

pub returns-in_ok-acted-in-Some-clause-enters : goal.returns-in_ok-acted-in-Some-clause-enters
returns-in_ok-acted-in-Some-clause-enters g c =
    let e = c.args.self.now in
    let less = one_less c.args.pieces c.args.at c.place_behind-next.result c.in-Some.piece.now c.in-Some.ensures (omega (arith, c.place_behind-next.ensures, c.len.ensures)) in
    let more = freed _ _ _ c.in_ok-push-in-Some.ensures.items in
    entered c.in_ok-acted-in-Some.acted (credit c.run_piece.new.self) (2 * e.budget + stack_free c.push.new.self.items) _ (omega (arith, less, more)) c.in_ok-acted-in-Some.ensures.enters
