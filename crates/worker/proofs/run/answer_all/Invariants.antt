use Rattle.std.proofs.Common.{◌≡◌, ◌≤◌, ℕ, ◌+◌, List, []}
use Rattle.natives.specs.Names.{names_of}
use Rattle.shared_state.specs.Cells.{AreOf}
use Rattle.outside.specs.declared.question.Answer.{Answer}
use Rattle.ictl.specs.Main.{Progress}
use Rattle.ictl.specs.Interps.{gives, taken, interp_written, Counts, IsSameRun, IsSound, IsWithin}
use Rattle.worker.specs.Asking.{StandsFor, StaysWithin}
use Rattle.worker.specs.Clean.{edition_in}
use Rattle.worker.proofs.Hearing.{SoFar, steps_left}
use Rattle.worker.proofs.run.answer_all.Given as goal

abbrev pub invariant-questions : goal.invariant-questions
invariant-questions g l = record {
  cells : AreOf l.shared l.passes;
  so_far : (inside : ℕ) → SoFar (names_of l.natives) l.moment (λ further. gives (names_of l.natives) l.fn.run.next inside l.fn.run.interp further) l.fn.passes (g.P.Pages.held l.fn.pages) (g.P.Pages.faults l.fn.pages) l.fn.heard.published l.fn.heard.answers l.run.next (inside + taken (names_of l.natives) l.steps l.fn.steps l.run.interp l.fn.run.interp) l.run.interp l.passes (g.P.Pages.faults l.pages) l.heard.published l.heard.answers;
  within : (run : List Answer → Progress) (inside written before : ℕ) → StandsFor (names_of l.natives) run l.fn.run.next inside l.fn.run.interp → l.fn.steps + written ≤ before + inside + interp_written (names_of l.natives) l.fn.run.interp → IsWithin written before l.fn.steps l.fn.run.interp (run []) → StaysWithin (names_of l.natives) run l.fn.heard.answers l.run.next (inside + taken (names_of l.natives) l.steps l.fn.steps l.run.interp l.fn.run.interp) l.run.interp l.heard.answers written before l.steps;
  counts : Counts (names_of l.natives) l.steps l.fn.steps l.run.interp l.fn.run.interp;
  same : IsSameRun l.run.interp l.fn.run.interp;
  blueprint : edition_in l.run.interp ≡ edition_in l.fn.run.interp;
  sound : (names : List (List ℕ)) → IsSound names l.fn.run.interp → IsSound names l.run.interp;
  held : g.P.Pages.held l.pages ≡ g.P.Pages.held l.fn.pages;
}

abbrev pub decreases-questions : goal.decreases-questions
decreases-questions g l = steps_left l.run.next l.run.interp
