-- The built-ins that make, name and call procedures, and those that run one script.
use Rattle.std.specs.Prelude.{List, [], length, drop, ◌==◌, nat_lt, if◌then◌else◌, decimal, Option, Some, None, Result, Ok, Err}
use Rattle.txt_core.specs.Names.{Bytes, Words}
use Rattle.cmd_table.specs.declared.definition.Def.{Def}
use Rattle.cmd_table.specs.declared.definition.Def.TheVariants as definitions
use Rattle.cmd_table.specs.Renaming.{rename_answer}
use Rattle.cmd_table.specs.declared.renaming.Renamed.{Renamed}
use Rattle.cmd_table.specs.declared.renaming.Renamed.TheVariants.{Done as Renamed_done, NoOld, NewExists}
use Rattle.tcl_varcmd.specs.Answers.{Came, gives as gives_text, fails as fails_with}
use Rattle.tcl_frame.specs.Frames.{pushed}
use Rattle.tcl_host.specs.Codes as code_of
use Rattle.tcl_eval.specs.declared.parameter.Parameter.{Parameter}
use Rattle.tcl_eval.specs.Parameters.{parameters, Values, bound}
use Rattle.tcl_eval.specs.Words.{arg, joined}
use Rattle.tcl_eval.specs.Messages.{command_exists, no_command}
use Rattle.tcl_eval.specs.Results.{wrong_words_end}
use Rattle.tcl_eval.specs.Going.{Inner, unread, give, fails, with_frames, with_def, write_variable, write_all, proc_end}
use Rattle.tcl_eval.specs.State.{Rest, Next}

-- the definition that `rename` makes, and what it answers: first that the old name is no command, then that the new one is
abbrev pub rename_of : Words → Def
rename_of words = definitions.Rename (arg words 1) (arg words 2)

-- the definition that `proc` makes
abbrev pub proc_of : Words → Def
proc_of words = definitions.Proc (arg words 1) (arg words 2) (arg words 3)

module _ {H : Type 0} where
  abbrev pub call_bound : Inner H → Result Values Bytes → Bytes → Next H → Rest H
  call_bound inner (Err message) body k = fails message k
  call_bound inner (Ok values) body k = λ state.
      write_all values (inner.run (unread body) (proc_end k)) (proc_end k) (with_frames state (pushed state.frames))

  -- A procedure is called: in a frame of its own its parameters get their values, and its body is run as a script.
  abbrev pub call_proc : Inner H → Bytes → Bytes → Words → Next H → Rest H
  call_proc inner params body words k = call_bound inner (bound params (arg words 0) (drop 1 words)) body k

  -- ---- built-ins

  abbrev pub define_proc : Result (List Parameter) Bytes → Words → Next H → Rest H
  define_proc (Err message) words k = fails message k
  define_proc (Ok all) words k = λ state.
      k code_of.ok [] (with_def state (proc_of words))

  -- `proc name params body`: its name is from now on that of a procedure, and the definition is listed as made
  abbrev pub do_proc : Words → Next H → Rest H
  do_proc words k =
      if length words == 4 then define_proc (parameters (arg words 2)) words k else give (wrong_words_end words) k

  abbrev pub renamed_as : Renamed → Words → Next H → Rest H
  renamed_as Renamed_done words k = λ state. k code_of.ok [] (with_def state (rename_of words))
  renamed_as NoOld words k = fails (no_command (arg words 1)) k
  renamed_as NewExists words k = fails (command_exists (arg words 2)) k

  -- `rename old new`: the command has its new name, or goes where that is empty, and the definition is listed as made
  abbrev pub do_rename : Words → Next H → Rest H
  do_rename words k =
      if length words == 3 then (λ state. renamed_as (rename_answer state.commands (arg words 1) (arg words 2)) words k state)
      else give (wrong_words_end words) k

  -- `eval word word*`: the words are joined by a space, and run as a script
  abbrev pub do_eval : Inner H → Words → Next H → Rest H
  do_eval inner words k =
      if nat_lt (length words) 2 then give (wrong_words_end words) k else inner.run (unread (joined (drop 1 words))) k

  -- the script of a `catch` ended: its code is the result, and its result goes to the variable, where one is named
  abbrev pub catch_end : Option Bytes → Next H → Next H
  catch_end None k code result = k code_of.ok (decimal code)
  catch_end (Some name) k code result = write_variable name result (decimal code) k

  -- `catch script ?name?`
  abbrev pub do_catch : Inner H → Words → Next H → Rest H
  do_catch inner words k =
      if length words == 2 then inner.run (unread (arg words 1)) (catch_end None k)
      else if length words == 3 then inner.run (unread (arg words 1)) (catch_end (Some (arg words 2)) k)
      else give (wrong_words_end words) k

  -- a command on variables came to this
  abbrev pub came_next : Came → Next H → Rest H
  came_next (gives_text result frames) k state = k code_of.ok result (with_frames state frames)
  came_next (fails_with message frames) k state = k code_of.error message (with_frames state frames)
