-- Scripts that were cut off.
use Rattle.std.proofs.Common.{◌≡◌, ℕ, ◌+◌, ◌-◌, List, sym, ap, ◌∙◌, arith}
use Rattle.outside.specs.declared.question.Answer.{Answer}
use Rattle.ictl.specs.Interps.{interp_written, goes_to, move_gives}
use Rattle.ictl.specs.declared.running.Stop.{Stop}
use Rattle.ictl.specs.declared.task.Task.{Task}
use Rattle.ictl.specs.declared.task.Move.{Move}
use Rattle.ictl.specs.declared.interp.Interp.{Interp}

-- where nothing but the task changed, no step was counted
pub cut_gives : (names : List (List ℕ)) (stop last : Stop) (old new : Interp) (step : Move) (inside steps : ℕ) (further : List Answer)
    → ((task : Task) × (new ≡ record old { task = task })) → stop ≡ last
    → ((n : ℕ) (more : List Answer) → move_gives names step n new more ≡ goes_to names last n old more)
    → move_gives names step (inside + ((steps + interp_written names old) - (steps + interp_written names new))) new further ≡ goes_to names stop inside old further
cut_gives names stop last old new step inside steps further rest is gives =
    let same : interp_written names new ≡ interp_written names old = ap (λ (i : Interp). interp_written names i) rest.1 in
    let none : inside + ((steps + interp_written names old) - (steps + interp_written names new)) ≡ inside = omega (arith, same) in
    ap (λ (n : ℕ). move_gives names step n new further) none ∙ gives inside further ∙ sym (ap (λ (s : Stop). goes_to names s inside old further) is)
