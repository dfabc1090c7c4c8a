use Rattle.std.proofs.Common.{rules, ◌≡◌, ◌≤◌, subst, Some}
use Rattle.tcl_expr.specs.Tokens.{level}
use Rattle.tcl_expr.proofs.Pending.{pops_tight}
use Rattle.tcl_expr.proofs.reading.pop_tight.Goals as goal

pub returns : goal.returns
returns c =
    let last = c.in_ok-last.last.now in
    let item = rw c.deref.ensures.value at c.in_ok-last.ensures.item in
    let le : level last.op ≤ c.args.most = subst (λ k. k ≤ c.args.most) c.level.ensures c.if-level-most.false in
    let some : c.pop.result ≡ Some last = search (rules, item, c.pop.ensures.value) in
    pops_tight c.args.most c.args.pending.now.items c.pop.new.self.items c.pop.result last c.pop.ensures.items some le
