-- What comes of a run that is given the answer to its question.
use Rattle.std.specs.Prelude.{◌≡◌, ℕ, ◌+◌, [], ◌∷◌}
use Rattle.txt_core.specs.Names.{Names}
use Rattle.outside.specs.declared.question.Answer.{Answer}
use Rattle.outside.specs.declared.question.Question.{Question}
use Rattle.ictl.specs.Falls.{Falls, number_of}
use Rattle.ictl.specs.Interps.{gives, taken, interp_written, Counts, GoesOn, IsSameRun, IsSound, IsWithin}
use Rattle.ictl.specs.declared.interp.Interp.{Interp}
use Rattle.ictl.specs.declared.next.Next.{Next}
use Rattle.ictl.specs.declared.next.Next.TheVariants as next
use Rattle.worker.specs.Clean.{edition_in}

-- The interpreter, given this answer at its question, gives further what it gave before with this answer in front, and stays on its
-- blueprint; what it counted is within what that comes to.
pub record Resumes (names : Names) (answer : Answer) (came : Next) (before after : ℕ) (new old : Interp) : Type 0 where
  pub step : GoesOn names came (taken names after before new old) new old answer
  pub counts : Counts names after before new old
  pub most : (question : Question) (inside : ℕ) → IsWithin (inside + interp_written names old) before after new (gives names (next.Asks question) inside old (answer ∷ []))
  pub same : IsSameRun new old
  pub blueprint : edition_in new ≡ edition_in old
  pub sound : (others : Names) → IsSound others old → IsSound others new
  pub falls : Falls came new (number_of old)
