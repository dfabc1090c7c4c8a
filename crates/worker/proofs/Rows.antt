-- Rows of costs.
use Rattle.std.proofs.Common.{◌≡◌, ℕ, ◌+◌, ◌*◌, Bool, true, false, List, [], ◌∷◌, ◌++◌, length, codes, Some, None, refl, sym, ap, ◌∙◌, arith}
use Rattle.cmd_table.specs.Commands.{Writes, built_ins}
use Rattle.cmd_table.specs.declared.definition.Def.{Def}
use Rattle.blueprint.specs.States as blueprints
use Rattle.blueprint.specs.Looking.{since}
use Rattle.ictl.specs.Main.{Progress}
use Rattle.worker.specs.Runs.{edition_of, inside_of, is_marked}
use Rattle.worker.specs.Clean.{Standing}
use Rattle.worker.specs.Cost.{Build, renewal_of, run_cost}
use Rattle.worker.specs.Laws.{procedure, route_to, first_edition, second_edition, Made, names_count, changes, CostRows}

cost_of : (defs : List Def) (marked : Bool) (run : Progress) → Made defs marked run → run_cost run ≡ 2 * Writes defs + 0
cost_of defs marked run m = λ i. 2 * Writes (m.made i) + m.inside i

-- an interpreter behind a run, of this blueprint
abbrev behind : blueprints.State → Progress → Standing
behind state run = record { edition = edition_of state; marked = is_marked run }

-- at the same epoch it costs nothing, and everything where it is marked
kept : (names : List (List ℕ)) (state : blueprints.State) (defs : List Def) (marked : Bool) (run : Progress) → Made defs marked run → renewal_of names state (behind state run) (is_marked run) ≡ renewal_of names state (behind state run) marked
kept names state defs marked run m = ap (λ (b : Bool). renewal_of names state (behind state run) b) m.mark

-- what was published in the first epoch isn't told to one who knows it
since_old : (defs : List Def) (rest : List blueprints.Row) → since 1 (blueprints.rows_of 1 defs ++ rest) ≡ since 1 rest
since_old [] rest = refl
since_old (def ∷ defs) rest = since_old defs rest

pub rows : (names : List (List ℕ)) → CostRows names
rows names = record {
  three = λ run m.
      let bp = first_edition names (procedure (codes "hi") ∷ route_to (codes "hi") ∷ []) in
      let c = cost_of [] false run m in let k = kept names bp [] false run m in
      (λ i. (Build names bp + c i) + ((k i + c i) + ((k i + c i) + 0))) ∙ omega arith;
  changing = λ first other m n.
      let bp = first_edition names (procedure (codes "a") ∷ procedure (codes "b") ∷ route_to (codes "a") ∷ route_to (codes "b") ∷ []) in
      let c = cost_of changes false first m in let k = kept names bp changes false first m in
      let d = cost_of [] false other n in let l = kept names bp [] false other n in
      (λ i. (Build names bp + c i) + ((k i + d i) + ((l i + d i) + 0))) ∙ omega arith;
  marking = λ first other m n.
      let bp = first_edition names (procedure (codes "hi") ∷ route_to (codes "hi") ∷ []) in
      let c = cost_of [] true first m in let k = kept names bp [] true first m in
      let d = cost_of [] false other n in
      (λ i. (Build names bp + c i) + ((k i + d i) + 0)) ∙ omega arith;
  added = λ defs. ap Writes (since_old defs (blueprints.rows_of 2 (procedure (codes "x") ∷ [])));
  saved = λ defs. refl;
}
