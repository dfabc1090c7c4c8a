use Rattle.std.proofs.Common.{◌≡◌, suc, ◌-◌, ap, arith}
use Rattle.natives.specs.Names.{names_of}
use Rattle.tcl_eval.specs.Places.{place_parts, parts_size}
use Rattle.tcl_eval.specs.Engine.{state_of}
use Rattle.tcl_eval.specs.declared.place.Place.{Place}
use Rattle.tcl_eval.proofs.Stacks.{weighed}
use Rattle.tcl_eval.proofs.Steps.{bracket_runs}
use Rattle.tcl_eval.proofs.engine.Engine.enter_bracket.Goals as goal

pub returns-clause-means : goal.returns-clause-means
returns-clause-means g c = λ gv.
    let ns = names_of c.args.natives.now in
    let t = g.H.Host.table in
    let e = c.args.self.now in
    let l : c.args.levels ≡ suc (c.args.levels - 1) = omega arith in
    bracket_runs ns t e.stack.items c.push.new.self.items c.args.script c.args.so_far _ _ c.args.levels (c.args.levels - 1) c.done.result (state_of e) e.budget gv _ c.in_ok-push.ensures.items c.behind.ensures l c.done.ensures (c.in_ok-step.ensures.means gv)

pub returns-clause-weighs : goal.returns-clause-weighs
returns-clause-weighs g c =
    let e1 = weighed _ _ _ c.in_ok-push.ensures.items in
    let at = ap (λ (p : Place). parts_size (place_parts p)) c.behind.ensures in
    omega (arith, e1, at, c.in_ok-step.ensures.falls)
