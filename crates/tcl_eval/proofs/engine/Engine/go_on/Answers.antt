use Rattle.std.proofs.Common.{sym, subst}
use Rattle.std.specs.Prelude.{IfOk}
use Rattle.natives.specs.Names.{names_of}
use Rattle.tcl_eval.specs.Clauses.{GivesBranch}
use Rattle.tcl_eval.specs.declared.branch.Branch.{Branch}
use Rattle.tcl_eval.proofs.engine.Engine.go_on.Goals as goal

pub returns-in-Start-clause-means : goal.returns-in-Start-clause-means
returns-in-Start-clause-means g c =
    subst (λ (branch : Branch). IfOk c.give_start.result (λ gone. GivesBranch (names_of c.args.natives.now) g.H.Host.table gone branch c.args.value c.give_start.new.self c.args.self.now)) (sym c.in-Start.is) c.give_start.ensures.means

pub returns-in-Body-clause-means : goal.returns-in-Body-clause-means
returns-in-Body-clause-means g c =
    subst (λ (branch : Branch). IfOk c.give_body.result (λ gone. GivesBranch (names_of c.args.natives.now) g.H.Host.table gone branch c.args.value c.give_body.new.self c.args.self.now)) (sym c.in-Body.is) c.give_body.ensures.means

pub returns-in-Next-clause-means : goal.returns-in-Next-clause-means
returns-in-Next-clause-means g c =
    subst (λ (branch : Branch). IfOk c.give_next.result (λ gone. GivesBranch (names_of c.args.natives.now) g.H.Host.table gone branch c.args.value c.give_next.new.self c.args.self.now)) (sym c.in-Next.is) c.give_next.ensures.means

pub returns-in-Each-clause-means : goal.returns-in-Each-clause-means
returns-in-Each-clause-means g c =
    subst (λ (branch : Branch). IfOk c.give_each.result (λ gone. GivesBranch (names_of c.args.natives.now) g.H.Host.table gone branch c.args.value c.give_each.new.self c.args.self.now)) (sym c.in-Each.is) c.give_each.ensures.means
