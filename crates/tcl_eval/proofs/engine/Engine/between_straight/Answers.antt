use Rattle.std.proofs.Common.{◌∙◌, sym, ap, Option, List, ℕ}
use Rattle.natives.specs.Names.{names_of}
use Rattle.tcl_eval.specs.Eval.{nested}
use Rattle.tcl_eval.specs.Loops.{between}
use Rattle.tcl_eval.specs.Engine.{state_of}
use Rattle.tcl_eval.proofs.engine.Engine.between_straight.Goals as goal

pub returns-in-None-2-clause-means : goal.returns-in-None-2-clause-means
returns-in-None-2-clause-means g c = λ go k gv.
    let e = c.args.self.now in
    let inner = nested (names_of c.args.natives.now) g.H.Host.table c.args.levels in
    let part = rw c.in-None-2.is at c.in_ok-part_straight-in-Some.ensures.means in
    part go k gv
    ∙ ap (λ (o : Option (List ℕ)). between inner o go k (state_of e) e.budget gv) (sym c.in-Some.is)

pub returns-in-Some-2-clause-means : goal.returns-in-Some-2-clause-means
returns-in-Some-2-clause-means g c = λ go k gv.
    let e = c.args.self.now in
    let ns = names_of c.args.natives.now in
    let inner = nested ns g.H.Host.table c.args.levels in
    let part = rw c.in-Some-2.is at c.in_ok-part_straight-in-Some.ensures.means in
    c.next_left.ensures.means ns inner c.args.turning.now go k gv
    ∙ part go k gv
    ∙ ap (λ (o : Option (List ℕ)). between inner o go k (state_of e) e.budget gv) (sym c.in-Some.is)
