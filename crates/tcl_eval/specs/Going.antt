-- What comes next: a run is written by what comes after each part of it.
use Rattle.std.specs.Prelude.{Bool, true, false, ℕ, zero, suc, ◌-◌, [], ◌∷◌, ◌++◌, nat_lt, if◌then◌else◌, Option, Some, None}
use Rattle.txt_core.specs.Names.{Bytes}
use Rattle.tcl_parse.specs.Tree.{Commands}
use Rattle.cmd_table.specs.Commands.{defined}
use Rattle.cmd_table.specs.declared.definition.Def.{Def}
use Rattle.txt_core.specs.Limits.{is_long}
use Rattle.txt_core.specs.Truth.{truth}
use Rattle.tcl_frame.specs.Stack.{Stack}
use Rattle.tcl_frame.specs.Frames.{popped}
use Rattle.tcl_host.specs.Codes as code_of
use Rattle.tcl_eval.specs.declared.stack.Ended.{Ended}
use Rattle.tcl_eval.specs.Parameters.{Values}
use Rattle.tcl_eval.specs.Messages.{too_long, no_boolean}
use Rattle.tcl_eval.specs.Costs.{result_cost}
use Rattle.tcl_eval.specs.Results.{error_of, returned, read_as, stored_of, stored}
use Rattle.tcl_eval.specs.State.{State, spent, Rest, Next}

-- What is run as a script: a text, or a script that was read within another one.
pub data Source : Type 0 where
  unread : Bytes → Source
  read : Commands → Source

-- What a command may run: so many levels are left to it, and this runs it one level deeper than the command, and goes on after
-- it.
pub record Inner (H : Type 0) : Type 0 where
  pub levels : ℕ
  pub run : Source → Next H → Rest H

module _ {H : Type 0} where
  -- ---- what comes next

  -- goes on after code 0; any other code ends what is under way
  abbrev pub on_ok : (Bytes → Rest H) → Next H → Next H
  on_ok go k zero result = go result
  on_ok go k (suc code) result = k (suc code) result

  -- costs this much; where that is more than what is left, the run ends there
  abbrev pub pay : ℕ → Rest H → Rest H
  pay cost go state budget given = if nat_lt budget cost then spent state else go state (budget - cost) given

  -- hands a code and a result on
  abbrev pub give : Ended → Next H → Rest H
  give value k = k value.code value.result

  -- an error with this text
  abbrev pub fails : Bytes → Next H → Rest H
  fails message k = give (error_of message) k

  -- a result that is too long is an error instead
  abbrev pub limited : Next H → Next H
  limited k code result = if is_long result then k code_of.error too_long else k code result

  -- a result is paid for, whatever its code
  abbrev pub charged : Next H → Next H
  charged k code result = pay (result_cost result) (k code result)

  -- what comes after a command
  abbrev pub command_end : Next H → Next H
  command_end k = limited (charged k)

  -- a word that is complete, which may be too long
  abbrev pub word_end : (Bytes → Rest H) → Next H → Next H
  word_end go k = on_ok (λ value. if is_long value then k code_of.error too_long else go value) k

  -- ---- the state

  abbrev pub with_host : State H → H → State H
  with_host state host = record state { host = host }

  abbrev pub with_frames : State H → Stack → State H
  with_frames state frames = record state { frames = frames }

  -- with one definition more that was made
  abbrev pub with_made : State H → Def → State H
  with_made state def = record state { made = state.made ++ def ∷ [] }

  -- with a definition that changes the commands and is listed as made
  abbrev pub with_def : State H → Def → State H
  with_def state def = with_made (record state { commands = defined state.commands def }) def

  -- ---- variables

  -- reads a variable; a refusal is an error
  abbrev pub read_variable : Bytes → Next H → Rest H
  read_variable name k state = give (read_as state.frames name) k state

  -- writes a variable, and then this is the result; a value that is too long, or a refusal, is an error
  abbrev pub write_variable : Bytes → Bytes → Bytes → Next H → Rest H
  write_variable name value result k state =
      give (stored_of state.frames name value result) k (with_frames state (stored state.frames name value))

  -- a procedure ends, and its frame of variables goes
  abbrev pub proc_end : Next H → Next H
  proc_end k code result state = give (returned code result) k (with_frames state (popped state.frames))

  -- these values are written to these variables, and then this goes on; the first refusal is what all comes to
  abbrev pub write_all : Values → Rest H → Next H → Rest H
  write_all [] go k = go
  write_all (value ∷ values) go k = write_variable value.0 value.1 [] (on_ok (λ _. write_all values go k) k)

  -- ---- truth

  abbrev pub decided : Option Bool → Bytes → Rest H → Rest H → Next H → Rest H
  decided None value when_true when_false k = give (error_of (no_boolean value)) k
  decided (Some true) value when_true when_false k = when_true
  decided (Some false) value when_true when_false k = when_false

  -- goes on by the truth of a value, which must have one
  abbrev pub by_truth : Bytes → Rest H → Rest H → Next H → Rest H
  by_truth value when_true when_false k = decided (truth value) value when_true when_false k
