use Rattle.std.proofs.Common.{◌≡◌, ap, sym, subst, ◌∙◌}
use Rattle.std.specs.FinMap as map
use Rattle.tcl_frame.specs.declared.variable.Variable.TheVariants.{Array}
use Rattle.tcl_frame.specs.Variables.{elements_in}
use Rattle.tcl_frame.specs.Meaning.{element, no_write}
use Rattle.tcl_frame.specs.Refusal.{IsRefusedFor}
use Rattle.tcl_frame.proofs.Tables.{on_ok, on_err, at_some, same_inserted}
use Rattle.tcl_frame.proofs.table.Table.write_element.Goals as goal

pub returns-in-Some-clause-ok : goal.returns-in-Some-clause-ok
returns-in-Some-clause-ok c =
    let new = c.write_element.new.self in
    on_ok c.write_element.result _ _ (λ is.
    at_some c.get_mut.result c.in-Some.variable (c.get_mut.follows.lender new ≡ map.insert c.args.self.now c.args.array.now new) c.in-Some.is (c.get_mut.follows.holds new)
    ∙ ap (map.insert c.args.self.now c.args.array.now)
    (is ∙ ap (λ o. Array (map.insert (elements_in o) c.args.index.now c.args.value)) c.in-Some.ensures.value)) c.write_element.ensures.ok

pub returns-in-Some-clause-refused : goal.returns-in-Some-clause-refused
returns-in-Some-clause-refused c = subst (λ o. IsRefusedFor (no_write (element o c.args.index.now)) c.write_element.result) c.in-Some.ensures.value c.write_element.ensures.refused

pub returns-in-Some-clause-err : goal.returns-in-Some-clause-err
returns-in-Some-clause-err c =
    let new = c.write_element.new.self in
    on_err c.write_element.result _ _ (λ is.
    at_some c.get_mut.result c.in-Some.variable (c.get_mut.follows.lender new ≡ map.insert c.args.self.now c.args.array.now new) c.in-Some.is (c.get_mut.follows.holds new)
    ∙ ap (map.insert c.args.self.now c.args.array.now) is
    ∙ same_inserted c.args.self.now c.args.array.now c.in-Some.variable.now (sym c.in-Some.ensures.value)) c.write_element.ensures.err
