-- What comes of a run that is over.
use Rattle.std.specs.Prelude.{◌≡◌, ◌≤◌, ℕ, ◌+◌, List, [], Option, None, Some}
use Rattle.txt_core.specs.Names.{Names, Moment}
use Rattle.outside.specs.Paging.{PageMap}
use Rattle.outside.specs.declared.question.Answer.{Answer}
use Rattle.cmd_table.specs.Commands.{Writes}
use Rattle.ictl.specs.Came.{Came}
use Rattle.ictl.specs.Falls.{StandsAt}
use Rattle.ictl.specs.Interps.{interp_state, interp_written, IsNew, IsSound, IsWithin, Counts, gives, taken}
use Rattle.ictl.specs.Main.{Progress}
use Rattle.ictl.specs.declared.interp.Interp.{Interp}
use Rattle.ictl.specs.declared.next.Next.{Next}
use Rattle.shared_state.specs.declared.shared.Passes.{Passes}
use Rattle.worker.specs.Asking.{Hears, StandsFor, StaysWithin}
use Rattle.worker.specs.Clean.{edition_in}

-- What the run answered last is told, at which its interpreter stood. The interpreter is as newly made on its blueprint, with the
-- mark that it had; each write of the table of commands that stood is a step.
pub record Resets (told answered : Next) (before after : ℕ) (new old : Interp) : Type 0 where
  pub next : told ≡ answered
  pub stands : StandsAt answered old
  pub is_new : (names : Names) → IsSound names old → IsNew names new
  pub steps : (names : Names) → IsSound names old → after ≡ before + Writes (interp_state old).made
  pub blueprint : edition_in new ≡ edition_in old
  pub marked : new.settling.run.engine.host.marked ≡ old.settling.run.engine.host.marked

-- A run that came to this was answered to its end, where it had counted so many steps, and its interpreter is kept, as newly made again:
-- it is told what the run answered last, what it published, and what it was answered.
pub record RunsToEnd (names : Names) (moment : Moment) (held : Option PageMap) (run : Came) (p : Passes) (faults before : ℕ)
    (told : Next) (published : Option ℕ) (answers : List Answer) (interp : Option Interp) (q : Passes) (behind after : ℕ) : Type 0 where
  pub done : Came
  pub reached : ℕ
  pub kept : Interp
  pub is_kept : interp ≡ Some kept
  pub hears : (inside : ℕ)
      → Hears names moment (λ further. gives names run.next inside run.interp further) p held faults None [] done.next
      (inside + taken names reached before done.interp run.interp) done.interp q behind published answers
  pub within : (of : List Answer → Progress) (inside written first : ℕ) → StandsFor names of run.next inside run.interp
      → before + written ≤ first + inside + interp_written names run.interp → IsWithin written first before run.interp (of [])
      → StaysWithin names of [] done.next (inside + taken names reached before done.interp run.interp) done.interp answers written first reached
  pub counts : Counts names reached before done.interp run.interp
  pub blueprint : edition_in done.interp ≡ edition_in run.interp
  pub sound : (others : Names) → IsSound others run.interp → IsSound others done.interp
  pub resets : Resets told done.next reached after kept done.interp
