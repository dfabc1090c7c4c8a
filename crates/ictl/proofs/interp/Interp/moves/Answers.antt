use Rattle.std.proofs.Common.{ℕ, sym, ap, ◌∙◌, ◌+◌, [], subst}
use Rattle.natives.specs.Names.{names_of}
use Rattle.ictl.specs.Interps.{gives, move_gives, IsWithin, interp_written}
use Rattle.ictl.specs.declared.task.Move.{Move}
use Rattle.ictl.proofs.Interpreters.{goes_moved, ok_same}
use Rattle.ictl.proofs.Settlings.{none_taken}
use Rattle.ictl.proofs.Withins.{err_same}
use Rattle.ictl.proofs.interp.Interp.moves.Goals as goal

pub go_on-requires-clause-at : goal.go_on-requires-clause-at
go_on-requires-clause-at g c = let stands = rw c.in-Goes.is at c.requires in stands.0

pub go_on-requires-clause-script : goal.go_on-requires-clause-script
go_on-requires-clause-script g c = let stands = rw c.in-Goes.is at c.requires in stands.1

pub returns-in-Stops-clause-next : goal.returns-in-Stops-clause-next
returns-in-Stops-clause-next g c = rw c.in-Stops.is at c.requires

pub returns-in-Stops-clause-gives : goal.returns-in-Stops-clause-gives
returns-in-Stops-clause-gives g c = λ inside further.
    let names = names_of c.args.natives.now in
    ap (λ (n : ℕ). gives names c.in-Stops.next n c.args.self.now further) (none_taken inside _)
    ∙ ap (λ (m : Move). move_gives names m inside c.args.self.now further) (sym c.in-Stops.is)

pub returns-in-Goes-clause-gives : goal.returns-in-Goes-clause-gives
returns-in-Goes-clause-gives g c =
    ok_same c.go_on.result _ _
    (λ next h inside further. goes_moved (names_of c.args.natives.now) c.args.step c.in-Goes.stop inside c.args.self.now further _ c.in-Goes.is (h inside further))
    c.go_on.ensures.gives

pub returns-in-Goes-clause-most : goal.returns-in-Goes-clause-most
returns-in-Goes-clause-most g c =
    let names = names_of c.args.natives.now in
    let old = c.args.self.now in
    err_same c.go_on.result _ _
    (λ h inside. subst (IsWithin (inside + interp_written names old) c.args.steps.now c.go_on.new.steps c.go_on.new.self) (ap (λ (m : Move). move_gives names m inside old []) (sym c.in-Goes.is)) (h inside))
    c.go_on.ensures.most

pub returns-in-Goes-clause-falls : goal.returns-in-Goes-clause-falls
returns-in-Goes-clause-falls g c =
    ok_same c.go_on.result _ _ (λ next h before fell. let less = rw c.in-Goes.is at fell in h before less) c.go_on.ensures.falls
