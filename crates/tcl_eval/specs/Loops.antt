-- Loops. Each turn costs 1, before its body. A loop has as many turns as the budget that is left when it begins, and so is never
-- ended by their number: where no turn is left, no budget is.
use Rattle.std.specs.Prelude.{ℕ, zero, suc, [], ◌∷◌, length, drop, ◌==◌, if◌then◌else◌, ◌||◌, codes, Option, Some, None}
use Rattle.std.specs.Int.{div_ceil}
use Rattle.txt_core.specs.Names.{Bytes, Words, Names}
use Rattle.txt_core.specs.Lists.{Listing, elements, bad_at}
use Rattle.txt_core.specs.Listing.{listing}
use Rattle.tcl_host.specs.Codes as code_of
use Rattle.tcl_eval.specs.declared.branch.Turning.{Turning}
use Rattle.tcl_eval.specs.declared.loops.Flow.{Flow}
use Rattle.tcl_eval.specs.declared.loops.Flow.TheVariants.{On, Ends}
use Rattle.tcl_eval.specs.Parameters.{Values}
use Rattle.tcl_eval.specs.Words.{arg}
use Rattle.tcl_eval.specs.Messages.{no_list, bad_value}
use Rattle.tcl_eval.specs.Costs.{turn_cost}
use Rattle.tcl_eval.specs.Results.{ended, wrong_words_end}
use Rattle.tcl_eval.specs.Going.{Inner, unread, on_ok, pay, give, fails, write_all}
use Rattle.tcl_eval.specs.Expressions.{test}
use Rattle.tcl_eval.specs.State.{spent, Rest, Next}

-- in turn the names with the values; where no value is left, the empty text
abbrev pub assigned : Names → Words → Values
assigned [] values = []
assigned (name ∷ names) [] = (name, []) ∷ assigned names []
assigned (name ∷ names) (value ∷ values) = (name, value) ∷ assigned names values

-- How a loop goes on where a part of it ended with this code and result: behind a good end and a continue it goes on, a break ends it
-- well, and any other code is handed on.
abbrev pub flow_of : ℕ → Bytes → Flow
flow_of code result =
    if (code == code_of.ok) || (code == code_of.continue) then On
    else if code == code_of.break then Ends (ended code_of.ok [])
    else Ends (ended code result)

module _ {H : Type 0} where
  -- goes on as a loop does
  abbrev pub by_flow : Flow → Rest H → Next H → Rest H
  by_flow On go k = go
  by_flow (Ends value) go k = give value k

  -- a part of a loop ended, behind which the loop goes on, or ends
  abbrev pub in_loop : Rest H → Next H → Next H
  in_loop go k code result = by_flow (flow_of code result) go k

  -- the script between two turns, where there is one, whose codes 3 and 4 are the loop's too
  abbrev pub between : Inner H → Option Bytes → Rest H → Next H → Rest H
  between inner None go k = go
  between inner (Some next) go k = inner.run (unread next) (in_loop go k)

  -- the body of a turn, and then what goes on
  abbrev pub turn_body : Inner H → Turning → Rest H → Next H → Rest H
  turn_body inner turning go k = pay turn_cost (inner.run (unread turning.body) (in_loop (between inner turning.next go k) k))

  -- at most so many turns, each while the condition holds; a code of the condition is handed on
  abbrev pub turns : Inner H → Turning → ℕ → Next H → Rest H
  turns inner turning zero k = λ state budget given. spent state
  turns inner turning (suc n) k = test inner turning.condition (turn_body inner turning (turns inner turning n k) k) (k code_of.ok []) k

  -- a loop, from where it begins
  abbrev pub turn_on : Inner H → Turning → Next H → Rest H
  turn_on inner turning k = λ state budget given. turns inner turning budget k state budget given

  -- `while c body`
  abbrev pub do_while : Inner H → Words → Next H → Rest H
  do_while inner words k =
      if length words == 3
      then turn_on inner (record { condition = arg words 1; next = None; body = arg words 2 }) k
      else give (wrong_words_end words) k

  -- `for start c next body`; a code of the start is handed on
  abbrev pub do_for : Inner H → Words → Next H → Rest H
  do_for inner words k =
      if length words == 5
      then inner.run (unread (arg words 1)) (on_ok (λ _. turn_on inner (record { condition = arg words 2; next = Some (arg words 3); body = arg words 4 }) k) k)
      else give (wrong_words_end words) k

  -- so many turns over values, as many of them in each as there are names, which are written after the turn was paid for
  abbrev pub walk_on : Inner H → Names → Bytes → ℕ → Words → Next H → Rest H
  walk_on inner names body zero values k = k code_of.ok []
  walk_on inner names body (suc n) values k =
      pay turn_cost (write_all (assigned names values) (inner.run (unread body) (in_loop (walk_on inner names body n (drop (length names) values) k) k)) k)

  -- as many turns as it takes for all values
  abbrev pub walk_all : Inner H → Names → Words → Bytes → Next H → Rest H
  walk_all inner names values body k = walk_on inner names body (div_ceil (length values) (length names)) values k

  abbrev pub over_values : Inner H → Names → Listing → Bytes → Next H → Rest H
  over_values inner names (bad_at place) body k = fails (no_list place) k
  over_values inner names (elements values) body k = walk_all inner names values body k

  -- the names are a list, which isn't empty, and then the values are one
  abbrev pub over_names : Inner H → Listing → Words → Next H → Rest H
  over_names inner (bad_at place) words k = fails (no_list place) k
  over_names inner (elements []) words k = fails (bad_value (arg words 1) (codes "foreach")) k
  over_names inner (elements (name ∷ names)) words k = over_values inner (name ∷ names) (listing (arg words 2)) (arg words 3) k

  -- `foreach names list body`
  abbrev pub do_foreach : Inner H → Words → Next H → Rest H
  do_foreach inner words k =
      if length words == 4 then over_names inner (listing (arg words 1)) words k else give (wrong_words_end words) k
