use Rattle.std.proofs.Common.{◌≤◌, ◌++◌, List, ℕ, take, length, arith, refl, ap, sym, ◌∙◌}
use Rattle.ns_server.specs.Made.{Made}
use Rattle.ns_server.proofs.Making.{first_given}
use Rattle.ns_server.proofs.made.MadeFile.give.Goals as goal

pub returns-clause-gives : goal.returns-clause-gives
returns-clause-gives c =
    let piece : List ℕ = c.self.inside.piece in
    let count : ℕ = c.take_into.result in
    let few : count ≤ length piece = omega (arith, c.take_into.ensures.count) in
    first_given c.args.self.now.at_hand piece (take count piece) c.args.into.now c.take_into.new.self count
    (sym (ap (λ (m : Made). m.at_hand) c.self.view_is)) refl few c.take_into.ensures.left
    ∙ ap (λ (l : List ℕ). take count l ++ c.take_into.new.self) (sym c.take_into.ensures.filled)
