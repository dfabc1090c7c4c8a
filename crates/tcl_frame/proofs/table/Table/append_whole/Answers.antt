use Rattle.std.proofs.Common.{◌≡◌, ◌++◌, ap, sym, subst, ◌∙◌}
use Rattle.std.specs.FinMap as map
use Rattle.tcl_frame.specs.declared.variable.Variable.TheVariants.{Scalar}
use Rattle.tcl_frame.specs.Meaning.{whole, value_there, no_write}
use Rattle.tcl_frame.specs.Refusal.{IsRefusedFor}
use Rattle.tcl_frame.proofs.Tables.{on_ok, on_err, at_some, same_inserted}
use Rattle.tcl_frame.proofs.table.Table.append_whole.Goals as goal

pub returns-in-Some-clause-ok : goal.returns-in-Some-clause-ok
returns-in-Some-clause-ok c =
    let new = c.append.new.self in
    on_ok c.append.result _ _ (λ is.
    at_some c.get_mut.result c.in-Some.variable (c.get_mut.follows.lender new ≡ map.insert c.args.self.now c.args.name.now new) c.in-Some.is (c.get_mut.follows.holds new)
    ∙ ap (map.insert c.args.self.now c.args.name.now)
    (is ∙ ap (λ o. Scalar (value_there (whole o) ++ c.args.more.now)) c.in-Some.ensures.value)) c.append.ensures.ok

pub returns-in-Some-clause-refused : goal.returns-in-Some-clause-refused
returns-in-Some-clause-refused c = subst (λ o. IsRefusedFor (no_write (whole o)) c.append.result) c.in-Some.ensures.value c.append.ensures.refused

pub returns-in-Some-clause-err : goal.returns-in-Some-clause-err
returns-in-Some-clause-err c =
    let new = c.append.new.self in
    on_err c.append.result _ _ (λ is.
    at_some c.get_mut.result c.in-Some.variable (c.get_mut.follows.lender new ≡ map.insert c.args.self.now c.args.name.now new) c.in-Some.is (c.get_mut.follows.holds new)
    ∙ ap (map.insert c.args.self.now c.args.name.now) is
    ∙ same_inserted c.args.self.now c.args.name.now c.in-Some.variable.now (sym c.in-Some.ensures.value)) c.append.ensures.err
