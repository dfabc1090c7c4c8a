-- What is kept of words under way, and what the rest of them comes to then.
use Rattle.std.specs.Prelude.{[], ◌++◌, if◌then◌else◌}
use Rattle.txt_core.specs.Names.{Bytes}
use Rattle.txt_core.specs.Limits.{is_long}
use Rattle.tcl_parse.specs.Tree.{Parts, no_parts, part, Words, no_words, word}
use Rattle.tcl_host.specs.Codes as code_of
use Rattle.tcl_eval.specs.State.{spent, Rest, Next}
use Rattle.tcl_eval.specs.Messages.{too_long}
use Rattle.tcl_eval.specs.Results.{ended}
use Rattle.tcl_eval.specs.Going.{Inner, on_ok, word_end}
use Rattle.tcl_eval.specs.Pieces.{run_part, run_parts}
use Rattle.tcl_eval.specs.declared.gather.SoFar.{SoFar}
use Rattle.tcl_eval.specs.declared.gather.SoFar.TheVariants.{Kept, TooLong}
use Rattle.tcl_eval.specs.declared.stack.Ended.{Ended}

-- of a word that is too long only this is kept
abbrev pub kept_word : Bytes → SoFar
kept_word text = if is_long text then TooLong else Kept text

-- what is kept behind one more piece of this value
abbrev pub grown : SoFar → Bytes → SoFar
grown (Kept text) piece = kept_word (text ++ piece)
grown TooLong piece = TooLong

-- the value, or the error, where no piece is left
abbrev pub kept_value : SoFar → Ended
kept_value (Kept text) = if is_long text then ended code_of.error too_long else ended code_of.ok text
kept_value TooLong = ended code_of.error too_long

module _ {H : Type 0} where
  -- what a word comes to is judged by its length
  abbrev pub judged : Next H → Next H
  judged k = word_end (λ value. k code_of.ok value) k

  -- The parts that are left of a word that is too long: from left to right, for what they do, and then the error. Where one of them
  -- ends otherwise than well, that is what the word comes to.
  abbrev pub run_too_long : Inner H → Parts → Next H → Rest H
  run_too_long inner no_parts k = k code_of.error too_long
  run_too_long inner (part first parts) k = run_part inner first (on_ok (λ value. run_too_long inner parts k) k)

  -- the parts that are left behind what is kept
  abbrev pub run_kept : Inner H → Parts → SoFar → Next H → Rest H
  run_kept inner parts (Kept text) k = run_parts inner parts text (judged k)
  run_kept inner parts TooLong k = run_too_long inner parts k

  -- The words that are left of a command whose first words cost more than is left of the budget: from left to right, for what they
  -- do, and then the cost ends the run. Where one of them ends otherwise than well, that is what the command comes to.
  abbrev pub run_costly : Inner H → Words → Next H → Rest H
  run_costly inner no_words k = λ state budget given. spent state
  run_costly inner (word first words) k = run_parts inner first [] (word_end (λ value. run_costly inner words k) k)
