use Rattle.natives.specs.Names.{names_of}
use Rattle.tcl_eval.specs.Engine.{state_of}
use Rattle.tcl_eval.proofs.Commands.{same_gives, same_expr, own_act}
use Rattle.tcl_eval.proofs.engine.Engine.straight_value.Goals as goal

pub returns-clause-means : goal.returns-clause-means
returns-clause-means g c =
    let ns = names_of c.args.natives.now in
    let t = g.H.Host.table in
    let e = c.args.self.now in
    let means = rw c.notes_own.ensures.same at c.in_ok-straight.ensures.means in
    same_gives c.in_ok-straight.straight _ _
    (λ v means inner k b gv. own_act ns t inner c.args.words.now k (state_of e) b gv _ (c.notes_own.ensures.own c.if-not-notes_own.false) (means inner k b gv))
    means

pub returns-clause-expr : goal.returns-clause-expr
returns-clause-expr g c =
    same_expr c.in_ok-straight.straight _ _ (λ named. (c.notes_own.ensures.own c.if-not-notes_own.false, named)) c.in_ok-straight.ensures.expr
