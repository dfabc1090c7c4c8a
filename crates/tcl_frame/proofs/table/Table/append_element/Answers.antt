use Rattle.std.proofs.Common.{◌≡◌, ◌++◌, ap, sym, subst, ◌∙◌}
use Rattle.std.specs.FinMap as map
use Rattle.txt_core.specs.Knowing.{Holds}
use Rattle.tcl_frame.specs.declared.variable.Variable.TheVariants.{Array}
use Rattle.tcl_frame.specs.Variables.{elements_in}
use Rattle.tcl_frame.specs.Meaning.{element, value_there, no_write}
use Rattle.tcl_frame.specs.Refusal.{IsRefusedFor}
use Rattle.tcl_frame.proofs.Tables.{on_ok, on_err, at_some, same_inserted, first_text, first_element}
use Rattle.tcl_frame.proofs.table.Table.append_element.Goals as goal

pub append-requires : goal.append-requires
append-requires c =
    subst (Holds c.args.known)
    (sym (first_text c.new-elements.result (map.get c.args.self.now c.args.array.now) c.args.index.now c.args.more.now c.new-elements.ensures c.in-None.ensures.value))
    c.requires

pub returns-in-Some-clause-ok : goal.returns-in-Some-clause-ok
returns-in-Some-clause-ok c =
    let new = c.append_at.new.self in
    on_ok c.append_at.result _ _ (λ is.
    at_some c.get_mut.result c.in-Some.variable (c.get_mut.follows.lender new ≡ map.insert c.args.self.now c.args.array.now new) c.in-Some.is (c.get_mut.follows.holds new)
    ∙ ap (map.insert c.args.self.now c.args.array.now)
    (is ∙ ap (λ o. Array (map.insert (elements_in o) c.args.index.now (value_there (element o c.args.index.now) ++ c.args.more.now))) c.in-Some.ensures.value)) c.append_at.ensures.ok

pub returns-in-Some-clause-refused : goal.returns-in-Some-clause-refused
returns-in-Some-clause-refused c = subst (λ o. IsRefusedFor (no_write (element o c.args.index.now)) c.append_at.result) c.in-Some.ensures.value c.append_at.ensures.refused

pub returns-in-Some-clause-err : goal.returns-in-Some-clause-err
returns-in-Some-clause-err c =
    let new = c.append_at.new.self in
    on_err c.append_at.result _ _ (λ is.
    at_some c.get_mut.result c.in-Some.variable (c.get_mut.follows.lender new ≡ map.insert c.args.self.now c.args.array.now new) c.in-Some.is (c.get_mut.follows.holds new)
    ∙ ap (map.insert c.args.self.now c.args.array.now) is
    ∙ same_inserted c.args.self.now c.args.array.now c.in-Some.variable.now (sym c.in-Some.ensures.value)) c.append_at.ensures.err

pub returns-in_ok-add-in-None-clause-value : goal.returns-in_ok-add-in-None-clause-value
returns-in_ok-add-in-None-clause-value c =
    c.in_ok-value-in-None.ensures.value
    ∙ first_text c.new-elements.result (map.get c.args.self.now c.args.array.now) c.args.index.now c.args.more.now c.new-elements.ensures c.in-None.ensures.value

pub returns-in_ok-add-in-None-clause-ok : goal.returns-in_ok-add-in-None-clause-ok
returns-in_ok-add-in-None-clause-ok c =
    c.in_ok-add-in-None.ensures.ok
    ∙ ap (λ t. map.insert t c.args.array.now (Array c.append.new.self)) c.get_mut.follows.holds-at-none
    ∙ ap (λ m. map.insert c.args.self.now c.args.array.now (Array m))
    (c.in_ok-value-in-None.ensures.ok
    ∙ first_element c.new-elements.result (map.get c.args.self.now c.args.array.now) c.args.index.now c.args.more.now c.new-elements.ensures c.in-None.ensures.value)
