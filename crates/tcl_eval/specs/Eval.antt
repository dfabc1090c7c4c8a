-- What a script does: it is replayed from its text, with the list of all answers that are given. Each definition takes what
-- comes after it as an argument. Codes are 0 for a good end, 1 for an error, 2 for a return, 3 for a break, 4 for a continue, and
-- 5, 6 and 7 leave a page.
use Rattle.std.specs.Prelude.{Bool, true, false, not, ℕ, zero, suc, ◌+◌, ◌-◌, [], ◌∷◌, ◌++◌, length, drop, nat_lt, if◌then◌else◌, bytes_eq, codes, decimal, Option, Some, None}
use Rattle.txt_core.specs.Names.{Bytes, Words, Names}
use Rattle.txt_core.specs.Limits.{is_long, most_nested}
use Rattle.outside.specs.declared.question.Question.{Question}
use Rattle.outside.specs.declared.question.Service.{Service}
use Rattle.outside.specs.declared.question.Service.TheVariants.{Page as Pages, Nsv, Schedule, Publish, Save, Inner as Inner_run}
use Rattle.tcl_parse.specs.Tree.{Words as TreeWords, no_words, word, Commands, no_commands, Script}
use Rattle.tcl_parse.specs.Tree as tree
use Rattle.tcl_parse.specs.Outcome as parsed
use Rattle.tcl_parse.specs.Reading.{reading}
use Rattle.cmd_table.specs.Table.{command_of}
use Rattle.cmd_table.specs.declared.definition.Def.{Def}
use Rattle.cmd_table.specs.declared.definition.Def.TheVariants as defs
use Rattle.cmd_table.specs.declared.command.Cmd.{Cmd}
use Rattle.cmd_table.specs.declared.command.Cmd.TheVariants as commands
use Rattle.cmd_table.specs.declared.command.Cmd.TheVariants.{Built}
use Rattle.natives.specs.Names.{has_name}
use Rattle.tcl_frame.specs.declared.fault.VarFault.{VarFault}
use Rattle.tcl_frame.specs.Names.{named, is_element}
use Rattle.tcl_frame.specs.Frames.{global_fault, globally_written}
use Rattle.tcl_varcmd.specs.Commands.{begins_var_command, var_came}
use Rattle.tcl_host.specs.Codes as code_of
use Rattle.tcl_eval.specs.declared.verb.Verb.{Verb}
use Rattle.tcl_eval.specs.declared.verb.Verb.TheVariants.{Proc, Return, Error, Break, Continue, Rename, Eval, Catch, Expr, If, While, For, Foreach, Switch, Info, Other}
use Rattle.tcl_eval.specs.declared.outcome.Work.{Work}
use Rattle.tcl_eval.specs.declared.outcome.Work.TheVariants.{Script as script_work, Call, Page as page_work}
pub use Rattle.tcl_eval.specs.Words.{arg, joined}
use Rattle.tcl_eval.specs.Messages.{unknown_command, script_fault, variable_fault, too_long}
pub use Rattle.tcl_eval.specs.Costs.{bytes_for_one, bytes_cost, words_cost, command_cost, result_cost, answer_cost, turn_cost, evaluation_cost}
pub use Rattle.tcl_eval.specs.Results.{element_name, ended, shortened, error_of, wrong_words_end, return_of, raised_of, break_of, continue_of, returned, result_or_fault, read_as, stored_of, written_or_same, stored}
pub use Rattle.tcl_eval.specs.Going.{Source, unread, read, Inner, on_ok, pay, give, fails, limited, charged, command_end, word_end, with_host, with_frames, with_made, with_def, read_variable, write_variable, proc_end, write_all, by_truth}
pub use Rattle.tcl_eval.specs.Pieces.{run_part, run_parts}
pub use Rattle.tcl_eval.specs.Commands.{rename_of, proc_of, call_bound, call_proc, define_proc, do_proc, renamed_as, do_rename, do_eval, catch_end, do_catch, came_next}
pub use Rattle.tcl_eval.specs.Expressions.{do_expr}
pub use Rattle.tcl_eval.specs.Branches.{do_if}
pub use Rattle.tcl_eval.specs.Loops.{do_while, do_for, do_foreach}
pub use Rattle.tcl_eval.specs.Switch.{do_switch}
pub use Rattle.tcl_eval.specs.Info.{do_info}
pub use Rattle.tcl_eval.specs.Natives.{call_native}
pub use Rattle.tcl_eval.specs.Pages.{run_page}
use Rattle.tcl_eval.specs.State.{Leaf, says, wants, defines, stores, not_mine, Onward, goes, enters, LeafTable, Out, done, asks, spent, too_deep, Rest, Next}

-- the built-ins that are done here; any other name is the host's
abbrev pub verb_of : Bytes → Verb
verb_of name =
    if bytes_eq name (codes "proc") then Proc else
    (if bytes_eq name (codes "return") then Return else
    (if bytes_eq name (codes "error") then Error else
    (if bytes_eq name (codes "break") then Break else
    (if bytes_eq name (codes "continue") then Continue else
    (if bytes_eq name (codes "rename") then Rename else
    (if bytes_eq name (codes "eval") then Eval else
    (if bytes_eq name (codes "catch") then Catch else
    (if bytes_eq name (codes "expr") then Expr else
    (if bytes_eq name (codes "if") then If else
    (if bytes_eq name (codes "while") then While else
    (if bytes_eq name (codes "for") then For else
    (if bytes_eq name (codes "foreach") then Foreach else
    (if bytes_eq name (codes "switch") then Switch else
    (if bytes_eq name (codes "info") then Info else Other))))))))))))))

-- a question for a run inside this one has, behind its words, the depth at which that stands
abbrev pub addressed_to : Service → ℕ → Question → Question
addressed_to Inner_run levels question =
    record question { words = question.words ++ decimal (most_nested + 1 - levels) ∷ [] }
addressed_to Pages levels question = question
addressed_to Nsv levels question = question
addressed_to Schedule levels question = question
addressed_to Publish levels question = question
addressed_to Save levels question = question

-- a question as it is handed out
abbrev pub addressed : ℕ → Question → Question
addressed levels question = addressed_to question.service levels question

-- Whether a definition is a host's to make: procedures and renames aren't, nor is a global scalar whose name has the form of an
-- element's.
abbrev pub is_for_host : Def → Bool
is_for_host (defs.Proc name params body) = false
is_for_host (defs.Rename old new) = false
is_for_host (defs.Route method url inherit words) = true
is_for_host (defs.Filter when method pattern words) = true
is_for_host (defs.Cleanup script) = true
is_for_host (defs.Set name value) = not (is_element (named name))

module _ {H : Type 0} where
  abbrev pub set_or_fails : Option VarFault → Bytes → Bytes → Next H → Rest H
  set_or_fails None name value k = λ state.
      k code_of.ok value (with_made (with_frames state (globally_written state.frames name value)) (defs.Set name value))
  set_or_fails (Some why) name value k = fails (variable_fault why name) k

  -- A global scalar is written, which is listed as made, and its value is the result. A value that is too long, or a refusal, is an
  -- error, and nothing is listed.
  abbrev pub set_global : Bytes → Bytes → Next H → Rest H
  set_global name value k =
      if is_long value then k code_of.error too_long
      else (λ state. set_or_fails (global_fault state.frames name) name value k state)

  -- a definition of the host's is listed as made
  abbrev pub make : Def → Next H → Rest H
  make (defs.Proc name params body) k = λ state. k code_of.ok [] (with_made state (defs.Proc name params body))
  make (defs.Rename old new) k = λ state. k code_of.ok [] (with_made state (defs.Rename old new))
  make (defs.Route method url inherit words) k = λ state. k code_of.ok [] (with_made state (defs.Route method url inherit words))
  make (defs.Filter when method pattern words) k = λ state. k code_of.ok [] (with_made state (defs.Filter when method pattern words))
  make (defs.Cleanup script) k = λ state. k code_of.ok [] (with_made state (defs.Cleanup script))
  make (defs.Set name value) k = set_global name value k

  -- A definition that the host says is made. A command that says one which isn't the host's to make is unknown.
  abbrev pub define : Def → Words → Next H → Rest H
  define def words k = if is_for_host def then make def k else fails (unknown_command (arg words 0)) k

module _ {H : Type 0} (table : LeafTable H) where
  -- ---- the host's commands

  -- What the host says of an answer is what it may say of a command, from which this goes on; or a page is entered, whose blocks are
  -- run as what the command may run.
  abbrev pub resumed : Inner H → Onward H → (Leaf H → Out H) → Next H → Rest H
  resumed inner (goes said) go k state budget given = go said
  resumed inner (enters pieces host) go k state budget given = run_page table inner pieces k (with_host state host) budget given

  -- What the host says of a command's words, with the questions that it asks and the answers that it is given. This is what the
  -- command may run.
  abbrev pub leaf : Inner H → Words → Leaf H → Next H → Rest H
  leaf inner words (says code result host) k state budget given = k code result (with_host state host) budget given
  leaf inner words (defines def host) k state budget given = define def words k (with_host state host) budget given
  leaf inner words (stores name value result host) k state budget given =
      write_variable name value result k (with_host state host) budget given
  leaf inner words (not_mine host) k state budget given =
      fails (unknown_command (arg words 0)) k (with_host state host) budget given
  leaf inner words (wants question host) k state budget [] = asks (addressed inner.levels question) (with_host state host) budget
  leaf inner words (wants question host) k state budget (answer ∷ given) =
      if nat_lt budget (answer.1 + answer_cost answer.0) then spent (with_host state host)
      else resumed inner (table.answers words answer.0 host)
      (λ said. leaf inner words said k (with_host state host) (budget - (answer.1 + answer_cost answer.0)) given)
      k (with_host state host) (budget - (answer.1 + answer_cost answer.0)) given

  -- the same of what it says of an answer
  abbrev pub onward : Inner H → Words → Onward H → Next H → Rest H
  onward inner words said k state budget given =
      resumed inner said (λ leaf_said. leaf inner words leaf_said k state budget given) k state budget given

  -- A run stands at a question that was handed out: with no answer it asks this, and else it goes on with the first answer.
  abbrev pub standing : Inner H → Words → Question → Next H → Rest H
  standing inner words question k state budget [] = asks question state budget
  standing inner words question k state budget (answer ∷ given) =
      if nat_lt budget (answer.1 + answer_cost answer.0) then spent state
      else onward inner words (table.answers words answer.0 state.host) k state (budget - (answer.1 + answer_cost answer.0)) given

module _ {H : Type 0} (natives : Names) (table : LeafTable H) where
  -- ---- commands

  -- a built-in of this kind, with its own name as its first word
  abbrev pub built_in : Inner H → Verb → Words → Next H → Rest H
  built_in inner Proc words k = do_proc words k
  built_in inner Return words k = give (return_of words) k
  built_in inner Error words k = give (raised_of words) k
  built_in inner Break words k = give (break_of words) k
  built_in inner Continue words k = give (continue_of words) k
  built_in inner Rename words k = do_rename words k
  built_in inner Eval words k = do_eval inner words k
  built_in inner Catch words k = do_catch inner words k
  built_in inner Expr words k = do_expr inner words k
  built_in inner If words k = do_if inner words k
  built_in inner While words k = do_while inner words k
  built_in inner For words k = do_for inner words k
  built_in inner Foreach words k = do_foreach inner words k
  built_in inner Switch words k = do_switch inner words k
  built_in inner Info words k = do_info words k
  built_in inner Other words k = λ state. leaf table inner words (table.calls words state.host) k state

  -- A built-in, with its own name as its first word: a native looks at its words alone, a command on variables at these and the
  -- variables, and the others are those that run scripts or change the commands, and the host's.
  abbrev pub built : Inner H → Words → Next H → Rest H
  built inner words k =
      if has_name natives (arg words 0) then call_native words k
      else if begins_var_command words then (λ state. came_next (var_came state.frames words) k state)
      else built_in inner (verb_of (arg words 0)) words k

  -- What a name stands for: a built-in, which gets its own name in place of the word by which it was called; a procedure; or
  -- nothing.
  abbrev pub run_command : Inner H → Option Cmd → Words → Next H → Rest H
  run_command inner None words k = fails (unknown_command (arg words 0)) k
  run_command inner (Some (Built name)) words k = built inner (name ∷ drop 1 words) k
  run_command inner (Some (commands.Proc params body)) words k = call_proc inner params body words k

  abbrev pub act : Inner H → Words → Next H → Rest H
  act inner words k state = run_command inner (command_of state.commands (arg words 0)) words k state

  -- a command is paid for, done, and its result is paid for
  abbrev pub command : Inner H → Words → Next H → Rest H
  command inner words k = pay (command_cost words) (act inner words (command_end k))

  -- the words of a command, from left to right, and then the command
  abbrev pub run_words : Inner H → TreeWords → Words → Next H → Rest H
  run_words inner no_words values k = command inner values k
  run_words inner (word first words) values k =
      run_parts inner first [] (word_end (λ value. run_words inner words (values ++ value ∷ []) k) k)

  -- ---- scripts

  -- the commands in order; the result is that of the last one, or empty
  abbrev pub run_commands : Inner H → Commands → Bytes → Next H → Rest H
  run_commands inner no_commands result k = k code_of.ok result
  run_commands inner (tree.command first commands) result k =
      run_words inner first [] (on_ok (λ value. run_commands inner commands value k) k)

  -- a text that has a fault is an error, and nothing of it runs
  abbrev pub run_reading : Inner H → Bytes → parsed.Outcome Script → Next H → Rest H
  run_reading inner bytes (parsed.done script rest) k = run_commands inner (tree.commands script) [] k
  run_reading inner bytes (parsed.fault kind left) k = fails (script_fault kind (length bytes - left)) k

  -- a script, where so many levels are left; the depth is looked at before a text is read
  abbrev pub run_script : ℕ → Source → Next H → Rest H
  run_script zero source k = λ state budget given. too_deep state
  run_script (suc levels) (read script) k = run_commands (record { levels = levels; run = run_script levels }) script [] k
  run_script (suc levels) (unread bytes) k = run_reading (record { levels = levels; run = run_script levels }) bytes (reading bytes) k

  -- what a command may run, where so many levels are left to it
  abbrev pub nested : ℕ → Inner H
  nested levels = record { levels = levels; run = run_script levels }

  -- What a script, the words of a call or a page comes to that stands at this depth, of which there are 200. A page's blocks stand at
  -- it too, and a call's own scripts one deeper.
  abbrev pub run_work : ℕ → Work → Next H → Rest H
  run_work depth (script_work bytes) k = run_script (most_nested + 1 - depth) (unread bytes) k
  run_work depth (Call words) k = command (nested (most_nested - depth)) words k
  run_work depth (page_work pieces) k = run_page table (nested (most_nested + 1 - depth)) pieces k

  -- the run of it alone
  abbrev pub eval : ℕ → Work → Rest H
  eval depth work = run_work depth work done
