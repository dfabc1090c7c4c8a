use Rattle.std.proofs.Common.{ap, arith}
use Rattle.std.proofs.lemmas.Result.{IfOk-weaker}
use Rattle.tcl_eval.specs.Eval.{nested}
use Rattle.tcl_eval.specs.Places.{place_parts, parts_size}
use Rattle.tcl_eval.specs.declared.place.Place.{Place}
use Rattle.tcl_parse.specs.Tree.{Parts}
use Rattle.tcl_eval.specs.Engine.{state_of}
use Rattle.tcl_eval.proofs.Stacks.{freed, weighed}
use Rattle.tcl_eval.proofs.Steps.{index_step}
use Rattle.tcl_eval.proofs.engine.Engine.enter_index.Goals as goal

pub returns-clause-means : goal.returns-clause-means
returns-clause-means g c =
    let t = g.H.Host.table in
    let e = c.args.self.now in
    IfOk-weaker c.enter_pieces.result _ _
    (λ step means ns gv. index_step ns t (nested ns t c.args.levels) e.stack.items c.push.new.self.items c.args.array c.args.so_far _ _ c.args.levels _ _ (state_of e) e.budget gv _ c.in_ok-push.ensures.items c.behind-place.ensures c.in_ok-index.ensures (means ns gv))
    c.enter_pieces.ensures.means

pub returns-clause-weighs : goal.returns-clause-weighs
returns-clause-weighs g c =
    let e1 = weighed _ _ _ c.in_ok-push.ensures.items in
    let at = ap (λ (p : Place). parts_size (place_parts p)) c.behind-place.ensures in
    let is = ap (λ (p : Parts). parts_size p) c.in_ok-index.ensures in
    IfOk-weaker c.enter_pieces.result _ _ (λ step weighs. omega (arith, e1, at, is, weighs)) c.enter_pieces.ensures.weighs

pub returns-clause-keeps : goal.returns-clause-keeps
returns-clause-keeps g c =
    let more = freed _ _ _ c.in_ok-push.ensures.items in
    IfOk-weaker c.enter_pieces.result _ _ (λ step kept. (kept.0, kept.1, omega (arith, more, kept.2))) c.enter_pieces.ensures.keeps
