-- Words that are one bracket of one command.
use Rattle.std.specs.Prelude.{◌≡◌, ◌<◌, ◌≤◌, ◌+◌, ℕ, zero, suc, []}
use Rattle.txt_core.specs.Names.{Bytes, Words, Names}
use Rattle.tcl_parse.specs.Tree.{Parts, Words as TreeWords, no_words, word}
use Rattle.tcl_eval.specs.State.{LeafTable, Rest, Next, spent}
use Rattle.tcl_eval.specs.Results.{ended}
use Rattle.tcl_eval.specs.Going.{Inner, give}
use Rattle.tcl_eval.specs.Eval.{run_parts, run_words}
use Rattle.tcl_eval.specs.Kept.{kept_value, judged, run_costly}
use Rattle.tcl_eval.specs.Places.{words_from, words_size}
use Rattle.tcl_eval.specs.declared.gather.SoFar.TheVariants.{Kept}
use Rattle.tcl_eval.specs.declared.stack.Ended.{Ended}
use Rattle.tcl_eval.specs.declared.stack.Once.{Once}
use Rattle.tcl_eval.specs.declared.stack.Once.TheVariants as once
use Rattle.tcl_eval.specs.declared.bracket.Passed.{Passed}
use Rattle.tcl_eval.specs.declared.bracket.Passed.TheVariants as passed

-- what a word comes to that is a bracket which came to this
abbrev pub bracket_value : ℕ → Bytes → Ended
bracket_value zero result = kept_value (Kept result)
bracket_value (suc code) result = ended (suc code) result

-- the word at this place of a command has these parts
abbrev pub IsWordAt : Parts → ℕ → TreeWords → Type 0
IsWordAt first at words = words_from at words ≡ word first (words_from (at + 1) words)

-- Behind what was done of a command, as many of its words are left as it says: fewer, none, or no more. Of an end it says nothing.
abbrev pub LeavesAsSaid : Passed → TreeWords → TreeWords → Type 0
LeavesAsSaid passed.On left before = words_size left < words_size before
LeavesAsSaid passed.All left before = left ≡ no_words
LeavesAsSaid (passed.Ends value) left before = Unit {0}
LeavesAsSaid passed.Spent left before = Unit {0}
LeavesAsSaid passed.Costly left before = words_size left ≤ words_size before
LeavesAsSaid passed.Left left before = words_size left ≤ words_size before

module _ {H : Type 0} where
  -- how a word of these parts goes on from what was done of it
  abbrev pub bracketed_next : Inner H → Parts → Once → Next H → Rest H
  bracketed_next inner parts (once.Gives value) k = give value k
  bracketed_next inner parts once.Spent k = λ state budget given. spent state
  bracketed_next inner parts once.Left k = run_parts inner parts [] (judged k)

module _ {H : Type 0} (names : Names) (table : LeafTable H) where
  -- how a command goes on from where it stands: these words are left, and these values are there
  abbrev pub passed_next : Inner H → Passed → TreeWords → Words → Next H → Rest H
  passed_next inner passed.On left values k = run_words names table inner left values k
  passed_next inner passed.All left values k = run_words names table inner left values k
  passed_next inner (passed.Ends value) left values k = give value k
  passed_next inner passed.Spent left values k = λ state budget given. spent state
  passed_next inner passed.Costly left values k = run_costly inner left k
  passed_next inner passed.Left left values k = run_words names table inner left values k
