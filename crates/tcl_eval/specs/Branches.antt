-- `if`: its words are read as conditions with their bodies before anything of it runs.
use Rattle.std.specs.Prelude.{[], ◌∷◌, drop, bytes_eq, codes, if◌then◌else◌, Option, Some, None}
use Rattle.txt_core.specs.Names.{Bytes, Words, Pairs}
use Rattle.tcl_host.specs.Codes as code_of
use Rattle.tcl_eval.specs.declared.branch.Branches.{Branches}
use Rattle.tcl_eval.specs.Results.{wrong_words_end}
use Rattle.tcl_eval.specs.Going.{Inner, unread, give}
use Rattle.tcl_eval.specs.Expressions.{test}
use Rattle.tcl_eval.specs.State.{Rest, Next}

-- conditions with their bodies, and the body for where none of them holds, if there is one
abbrev pub branches : Pairs → Option Bytes → Branches
branches clauses last = record { clauses = clauses; last = last }

abbrev pub with_clause : Bytes → Bytes → Option Branches → Option Branches
with_clause condition body None = None
with_clause condition body (Some rest) = Some (branches ((condition, body) ∷ rest.clauses) rest.last)

-- the body behind `else` or in its place, behind which no word stands
abbrev pub last_body : Words → Option Branches
last_body [] = None
last_body (body ∷ []) = Some (branches [] (Some body))
last_body (body ∷ word ∷ words) = None

-- The words of an `if` behind its name: a condition, `then` or not, and its body; behind each body `elseif` and the same again,
-- or `else` or not and a last body, or nothing. `then`, `elseif` and `else` are what they say wherever they may stand.
abbrev mutual
  pub from_condition : Words → Option Branches
  from_condition [] = None
  from_condition (condition ∷ words) = from_then condition words

  pub from_then : Bytes → Words → Option Branches
  from_then condition [] = None
  from_then condition (word ∷ words) =
      if bytes_eq word (codes "then") then from_body condition words else with_clause condition word (behind_body words)

  pub from_body : Bytes → Words → Option Branches
  from_body condition [] = None
  from_body condition (body ∷ words) = with_clause condition body (behind_body words)

  pub behind_body : Words → Option Branches
  behind_body [] = Some (branches [] None)
  behind_body (word ∷ words) =
      if bytes_eq word (codes "elseif") then from_condition words
      else if bytes_eq word (codes "else") then last_body words
      else last_body (word ∷ words)

module _ {H : Type 0} where
  -- a body is run where there is one, and else the result is empty
  abbrev pub run_body : Inner H → Option Bytes → Next H → Rest H
  run_body inner None k = k code_of.ok []
  run_body inner (Some body) k = inner.run (unread body) k

  -- the body of the first condition that holds is run, or else the last body
  abbrev pub choose : Inner H → Pairs → Option Bytes → Next H → Rest H
  choose inner [] last k = run_body inner last k
  choose inner (clause ∷ clauses) last k =
      test inner clause.0 (inner.run (unread clause.1) k) (choose inner clauses last k) k

  abbrev pub choose_of : Inner H → Option Branches → Words → Next H → Rest H
  choose_of inner None words k = give (wrong_words_end words) k
  choose_of inner (Some found) words k = choose inner found.clauses found.last k

  -- `if c ?then? body`, any `elseif c ?then? body`, `?else? body`
  abbrev pub do_if : Inner H → Words → Next H → Rest H
  do_if inner words k = choose_of inner (from_condition (drop 1 words)) words k
