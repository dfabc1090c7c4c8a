-- What an `if` comes to, as far as nothing is run for its conditions.
use Rattle.std.specs.Prelude.{◌≡◌, Some, drop, slice_get}
use Rattle.tcl_eval.specs.State.{Rest, Next, spent}
use Rattle.tcl_eval.specs.Going.{Inner, give, unread}
use Rattle.tcl_eval.specs.Branches.{choose}
use Rattle.tcl_eval.specs.declared.branch.Branches.{Branches}
use Rattle.tcl_eval.specs.declared.condition.Chosen.{Chosen}
use Rattle.tcl_eval.specs.declared.condition.Chosen.TheVariants as chosen

-- the condition for which something may be run stands at its place, with its body
abbrev pub IsClause : Branches → Chosen → Type 0
IsClause all (chosen.Ends value) = Unit {0}
IsClause all chosen.Spent = Unit {0}
IsClause all (chosen.Body text) = Unit {0}
IsClause all (chosen.Waits at condition body) = slice_get all.clauses at ≡ Some (condition.value, body.now)

module _ {H : Type 0} where
  -- how an `if` goes on
  abbrev pub chosen_next : Inner H → Branches → Chosen → Next H → Rest H
  chosen_next inner all (chosen.Ends value) k = give value k
  chosen_next inner all chosen.Spent k = λ state budget given. spent state
  chosen_next inner all (chosen.Body text) k = inner.run (unread text.now) k
  chosen_next inner all (chosen.Waits at condition body) k = choose inner (drop at all.clauses) all.last k
