use Rattle.std.proofs.Common.{drop, None}
use Rattle.tcl_eval.specs.Eval.{nested}
use Rattle.tcl_eval.specs.Pages.{run_pieces}
use Rattle.tcl_eval.specs.Stack.{stack_next}
use Rattle.tcl_eval.specs.Engine.{state_of}
use Rattle.tcl_eval.proofs.Looping.{goes_on}
use Rattle.tcl_eval.proofs.Pages.{good_piece, piece_returns, piece_breaks, piece_goes_on, one_of, neither}
use Rattle.tcl_eval.proofs.engine.Engine.give_page.Goals as goal

pub returns-then-value-eq-OK-clause-means : goal.returns-then-value-eq-OK-clause-means
returns-then-value-eq-OK-clause-means g c = λ ns gv.
    let t = g.H.Host.table in
    let e = c.args.self.now in
    let k = stack_next ns t e.stack.items in
    let new = c.run_pieces.new.self in
    goes_on ns t c.in_ok-acted.acted _ _ (stack_next ns t new.stack.items) (state_of new) new.budget gv _ c.gone_from.ensures c.in_ok-acted.ensures.enters
    (good_piece t (run_pieces t (nested ns t c.args.levels) (drop c.args.next c.args.pieces) k) k c.args.value.code c.args.value.result (state_of e) e.budget gv _ c.if-value-eq-OK.true (c.in_ok-acted.ensures.means ns None gv))

pub returns-then-value-eq-RETURN-clause-means : goal.returns-then-value-eq-RETURN-clause-means
returns-then-value-eq-RETURN-clause-means g c = λ ns gv.
    let t = g.H.Host.table in
    let e = c.args.self.now in
    let k = stack_next ns t e.stack.items in
    let new = c.end_page.new.self in
    goes_on ns t c.end_page.result _ _ (stack_next ns t new.stack.items) (state_of new) new.budget gv _ c.gone_from-then-value-eq-RETURN.ensures c.end_page.ensures.enters
    (piece_returns t (run_pieces t (nested ns t c.args.levels) (drop c.args.next c.args.pieces) k) k c.args.value.code c.args.value.result c.leave.new.self (state_of e) e.budget gv _ c.if-value-eq-OK.false c.leave.ensures
    (one_of c.args.value.code 2 5 c.then-value-eq-RETURN.either) (c.end_page.ensures.means ns None gv))

pub returns-then-value-eq-PAGE_BREAK-clause-means : goal.returns-then-value-eq-PAGE_BREAK-clause-means
returns-then-value-eq-PAGE_BREAK-clause-means g c = λ ns gv.
    let t = g.H.Host.table in
    let e = c.args.self.now in
    let k = stack_next ns t e.stack.items in
    let new = c.end_page-then-value-eq-PAGE_BREAK.new.self in
    goes_on ns t c.end_page-then-value-eq-PAGE_BREAK.result _ _ (stack_next ns t new.stack.items) (state_of new) new.budget gv _ c.gone_from-then-value-eq-PAGE_BREAK.ensures c.end_page-then-value-eq-PAGE_BREAK.ensures.enters
    (piece_breaks t (run_pieces t (nested ns t c.args.levels) (drop c.args.next c.args.pieces) k) k c.args.value.code c.args.value.result c.leave.new.self (state_of e) e.budget gv _ c.if-value-eq-OK.false c.leave.ensures
    (neither c.args.value.code 2 5 c.if-value-eq-RETURN.false c.if-value-eq-PAGE_RETURN.false) (one_of c.args.value.code 6 7 c.then-value-eq-PAGE_BREAK.either) (c.end_page-then-value-eq-PAGE_BREAK.ensures.means ns None gv))

pub returns-clause-means : goal.returns-clause-means
returns-clause-means g c = λ ns gv.
    let t = g.H.Host.table in
    let e = c.args.self.now in
    let k = stack_next ns t e.stack.items in
    let new = c.run_pieces-2.new.self in
    goes_on ns t c.in_ok-acted-2.acted _ _ (stack_next ns t new.stack.items) (state_of new) new.budget gv _ c.gone_from-2.ensures c.in_ok-acted-2.ensures.enters
    (piece_goes_on t (run_pieces t (nested ns t c.args.levels) (drop c.args.next c.args.pieces) k) k c.args.value.code c.args.value.result c.leave.new.self (state_of e) e.budget gv _ c.if-value-eq-OK.false c.leave.ensures
    (neither c.args.value.code 2 5 c.if-value-eq-RETURN.false c.if-value-eq-PAGE_RETURN.false) (neither c.args.value.code 6 7 c.if-value-eq-PAGE_BREAK.false c.if-value-eq-PAGE_ABORT.false) (c.in_ok-acted-2.ensures.means ns None gv))
