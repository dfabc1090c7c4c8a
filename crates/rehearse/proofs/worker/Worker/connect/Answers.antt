use Rattle.std.proofs.Common.{◌++◌, refl, sym, ◌∙◌, ap, List, ℕ, arith}
use Rattle.rehearse.specs.declared.worker.Connection.{Connection}
use Rattle.rehearse.proofs.worker.Worker.connect.Goals as goal

pub returns-clause-task : goal.returns-clause-task
returns-clause-task c =
    let connection : Connection = record { source = c.new-source.result; carry = c.new-carry.result; requests = 0; answer_bytes = 0 } in
    rw c.turn_to.ensures (
      connection,
      refl,
      record {
        input = sym (ap (λ (k : List ℕ). k ++ c.new-source.result) c.new-carry.ensures ∙ c.new-source.ensures);
        requests = refl;
        answer_bytes = omega arith;
      },
    )

pub returns-clause-rest : goal.returns-clause-rest
returns-clause-rest c = rw c.turn_to.ensures (refl, refl)
