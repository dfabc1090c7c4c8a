-- What a run has written, as far as it came, and what stays within that.
use Rattle.std.specs.Prelude.{◌≤◌, ℕ, ◌+◌, List, ◌∷◌}
use Rattle.txt_core.specs.Names.{Names}
use Rattle.outside.specs.declared.question.Answer.{Answer}
use Rattle.outside.specs.declared.question.Question.{Question}
use Rattle.cmd_table.specs.Commands.{Writes}
use Rattle.tcl_eval.specs.State.{Given}
use Rattle.tcl_eval.specs.Laws.{state_in}
use Rattle.ictl.specs.Settle.{Run, Settled, ended, asking, exhausted, nested, Defined, said, stands, gone, sunk}
use Rattle.ictl.specs.Main.{Progress}
use Rattle.ictl.specs.Standing.{comes_to}
use Rattle.ictl.specs.Interps.{own_written, all_written}
use Rattle.ictl.specs.declared.running.Running.{Running}
use Rattle.ictl.specs.declared.running.Stop.TheVariants.{Asks}
use Rattle.ictl.specs.declared.settling.Settling.{Settling}

-- the entries that a script, as far as it came, has written in its own command table
abbrev pub settled_own : Settled → ℕ
settled_own (ended code result state account left) = Writes state.made
settled_own (asking question state inside) = Writes state.made
settled_own (exhausted state inside left) = Writes state.made
settled_own (nested state inside left) = Writes state.made

-- the same with those that the runs inside it wrote
abbrev pub settled_all : Settled → ℕ
settled_all (ended code result state account left) = Writes state.made + account.inside
settled_all (asking question state inside) = Writes state.made + inside
settled_all (exhausted state inside left) = Writes state.made + inside
settled_all (nested state inside left) = Writes state.made + inside

-- the entries that a definition run has written
abbrev pub defined_own : Defined → ℕ
defined_own (said answer budget state left) = Writes state.made
defined_own (stands question state) = Writes state.made
defined_own (gone state left) = Writes state.made
defined_own (sunk state left) = Writes state.made

-- whatever is given to a run, it writes so much at least
abbrev pub RunWrites : ℕ → Run → Type 0
RunWrites made run = (given : Given) → made ≤ Writes (state_in (run given)).made

-- what a run has written behind an answer that used so much of the budget is no more than what it writes, with that answer, from its
-- question on
abbrev pub RunsWithin : Names → ℕ → Answer → Running → Running → Type 0
RunsWithin names used answer new old =
    (question : Question) → RunWrites (Writes new.engine.made) (λ given. comes_to names (Asks question) old ((answer, used) ∷ given))

-- a script has written so much at least in its own table, and so much beside that
pub record SettledWrites (made inside : ℕ) (x : Settled) : Type 0 where
  pub own : made ≤ settled_own x
  pub all : made + inside ≤ settled_all x

-- the same of a run
pub record HasWritten (made inside : ℕ) (run : Progress) : Type 0 where
  pub own : made ≤ own_written run
  pub all : made + inside ≤ all_written run

-- A call stays within what a script writes: the steps that it counted, with the entries that were written before it, and the
-- entries that stand in the script's own table behind it.
pub record SettledWithin (written before after : ℕ) (new : Settling) (x : Settled) : Type 0 where
  pub all : after + written ≤ before + settled_all x
  pub own : Writes new.run.engine.made ≤ settled_own x
