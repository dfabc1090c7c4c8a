use Rattle.std.proofs.Common.{sym, ap, refl}
use Rattle.natives.specs.Names.{names_of}
use Rattle.tcl_eval.specs.Engine.{state_of}
use Rattle.tcl_eval.proofs.Commands.{same_gives, same_expr, left_so, variable_built, end_built}
use Rattle.tcl_eval.proofs.engine.Engine.built_value.Goals as goal

pub returns-then-is_var_command-clause-means : goal.returns-then-is_var_command-clause-means
returns-then-is_var_command-clause-means g c = λ inner k b gv.
    let ns = names_of c.args.natives.now in
    let no = rw c.first_word.ensures at (sym c.in_default.ensures.there) in
    variable_built ns g.H.Host.table inner c.args.words.now k (state_of c.args.self.now) b gv _ no (sym c.if-is_var_command.ensures) (c.in_ok-value-2.ensures.means k b gv)

pub returns-clause-means : goal.returns-clause-means
returns-clause-means g c =
    let ns = names_of c.args.natives.now in
    let t = g.H.Host.table in
    let e = c.args.self.now in
    let no = rw c.first_word.ensures at (sym c.in_default.ensures.there) in
    same_gives c.in_ok-straight.straight _ _
    (λ v means inner k b gv. end_built ns t inner c.args.words.now k (state_of e) b gv _ no (sym c.if-is_var_command.ensures) (ap (λ way. way (state_of e) b gv) (means ns inner k)))
    c.in_ok-straight.ensures.means

pub returns-clause-expr : goal.returns-clause-expr
returns-clause-expr g c =
    let no = rw c.first_word.ensures at (sym c.in_default.ensures.there) in
    same_expr c.in_ok-straight.straight _ _ (λ verb. (no, sym c.if-is_var_command.ensures, verb)) c.in_ok-straight.ensures.expr

pub returns-clause-left : goal.returns-clause-left
returns-clause-left g c = left_so c.in_ok-straight.straight _ refl
