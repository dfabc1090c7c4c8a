use Rattle.std.proofs.Common.{◌≡◌, ◌++◌, ◌∙◌, sym, ap, List, ℕ, true, false, append-nil}
use Rattle.std.specs.Option.{is_some}
use Rattle.cmd_table.specs.Table.{Table, names_of}
use Rattle.cmd_table.specs.Slots.{Slots, present}
use Rattle.cmd_table.proofs.Changes.{shown, passed, nothing_present}
use Rattle.cmd_table.proofs.slots.present_names.Goals as goal

pub names-preserved-in-Continue-1 : goal.names-preserved-in-Continue-1
names-preserved-in-Continue-1 c =
    let some : is_some c.in-Some.cmd.now ≡ true = sym c.is_some.ensures ∙ c.if-is_some.true in
    ap (λ (t : List (List ℕ)). t ++ names_of (present c.next.new.self)) c.in_ok-push_name.ensures
    ∙ (shown c.names.names c.in-Some.name.now c.in-Some.cmd.now c.next.new.self some
    ∙ (ap (λ (s : Slots). c.names.names ++ names_of (present s)) (sym c.in-Some.ensures.steps) ∙ c.names.invariant))

pub names-preserved : goal.names-preserved
names-preserved c =
    let none : is_some c.in-Some.cmd.now ≡ false = sym c.is_some.ensures ∙ c.if-is_some.false in
    ap (λ (t : Table). c.names.names ++ names_of t) (passed c.in-Some.name.now c.in-Some.cmd.now c.next.new.self none)
    ∙ (ap (λ (s : Slots). c.names.names ++ names_of (present s)) (sym c.in-Some.ensures.steps) ∙ c.names.invariant)

pub returns : goal.returns
returns c =
    sym (append-nil c.names.names)
    ∙ (ap (λ (t : List (List ℕ)). c.names.names ++ t) (sym nothing_present)
    ∙ (ap (λ (s : Slots). c.names.names ++ names_of (present s)) (sym c.in-None.ensures.steps.0) ∙ c.names.invariant))
