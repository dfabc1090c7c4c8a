-- What holds of what is promised.
use Rattle.std.specs.Prelude.{◌≡◌, ◌≢◌, ℕ, ◌+◌, ◌*◌, List, [], ◌∷◌, ◌++◌, length, codes, Bool, true, false, None, Some}
use Rattle.txt_core.specs.Names.{Bytes, Names}
use Rattle.cmd_table.specs.Commands.{built_ins}
use Rattle.cmd_table.specs.declared.definition.Def.{Def}
use Rattle.cmd_table.specs.declared.definition.Def.TheVariants.{Proc, Rename, Route}
use Rattle.blueprint.specs.States as blueprints
use Rattle.ictl.specs.Main.{Progress}
use Rattle.worker.specs.Runs.{edition_of, progress_state, inside_of, is_marked}
use Rattle.worker.specs.Cost.{renewal}
use Rattle.worker.specs.Items.{Item, Replied}
use Rattle.worker.specs.Ends.{Nothing}
use Rattle.worker.specs.Claims.{Bill, Cost}
use Rattle.worker.specs.declared.served.Served.{Served}
use Rattle.worker.specs.declared.served.ServedOutcome.TheVariants.{NoMemory}

-- so much is told of an item that met no want of memory, and no fault of its sink: its reply was written whole
abbrev pub MetNothing : Served → Item → Type 0
MetNothing x item = (x.outcome ≢ NoMemory) × (x.wrote ≡ length item.reply)

-- Two items, of one session or of two, on whatever threads, with the natives in one order: where they agree in their requests, in the
-- epoch and the definitions of the blueprints that their looks found, in their moments and answers, and in what their replies say of the
-- connection, and neither met a fault of its sink or want of memory, they have the same bytes, and ended alike.
abbrev pub ItemsAreIsolated : Type 0
ItemsAreIsolated =
    (names : Names) (count answered other_count other_answered : ℕ) (x y : Served) (item other : Item)
    → Replied names count answered x item → Replied names other_count other_answered y other
    → MetNothing x item → MetNothing y other
    → item.request ≡ other.request → edition_of item.look.before ≡ edition_of other.look.before
    → x.moment ≡ y.moment → x.answers ≡ y.answers → item.close ≡ other.close
    → (item.reply ≡ other.reply) × (x.wrote ≡ y.wrote) × (x.outcome ≡ y.outcome)

-- ---- rows of costs

abbrev pub procedure : Bytes → Def
procedure name = Proc name [] []

abbrev pub route_to : Bytes → Def
route_to name = Route (codes "GET") (codes "/" ++ name) true (name ∷ [])

-- a blueprint of one epoch, of these definitions, and one more whose definitions were added
abbrev pub first_edition : Names → List Def → blueprints.State
first_edition names defs = record { natives = names; base = 0; epoch = 1; rows = blueprints.rows_of 1 defs }

abbrev pub second_edition : Names → List Def → List Def → blueprints.State
second_edition names defs more =
    record { natives = names; base = 0; epoch = 2; rows = blueprints.rows_of 1 defs ++ blueprints.rows_of 2 more }

-- one that was saved in the second epoch
abbrev pub saved_edition : Names → List Def → blueprints.State
saved_edition names defs = record { natives = names; base = 2; epoch = 2; rows = blueprints.rows_of 2 defs }

abbrev pub bill_for : blueprints.State → Progress → Bill
bill_for blueprint run = record { blueprint = blueprint; run = run }

-- a run that made these definitions, ran nothing inside, and ended with the mark set or not
pub record Made (defs : List Def) (marked : Bool) (run : Progress) : Type 0 where
  pub made : (progress_state run).made ≡ defs
  pub inside : inside_of run ≡ 0
  pub mark : is_marked run ≡ marked

-- how many names of built-ins there are, those of the natives among them
abbrev pub names_count : Names → ℕ
names_count names = length built_ins + length names

-- the definitions of a request that renames two commands and makes a procedure: five entries
abbrev pub changes : List Def
changes = Rename (codes "set") (codes "gone") ∷ Rename (codes "ns_return") (codes "nr") ∷ procedure (codes "ns_return") ∷ []

pub record CostRows (names : Names) : Type 0 where
  -- three requests to one procedure, on a new worker
  pub three : (run : Progress) → Made [] false run →
      (let b = bill_for (first_edition names (procedure (codes "hi") ∷ route_to (codes "hi") ∷ [])) run in
      Cost names None (b ∷ b ∷ b ∷ []) Nothing ≡ names_count names + 1)
  -- the first of three changes commands of its own, which are taken back
  pub changing : (first other : Progress) → Made changes false first → Made [] false other →
      (let bp = first_edition names (procedure (codes "a") ∷ procedure (codes "b") ∷ route_to (codes "a") ∷ route_to (codes "b") ∷ []) in
      Cost names None (bill_for bp first ∷ bill_for bp other ∷ bill_for bp other ∷ []) Nothing ≡ names_count names + 12)
  -- the first of two marks the interpreter, which is built anew
  pub marking : (first other : Progress) → Made [] true first → Made [] false other →
      (let bp = first_edition names (procedure (codes "hi") ∷ route_to (codes "hi") ∷ []) in
      Cost names None (bill_for bp first ∷ bill_for bp other ∷ []) Nothing ≡ 2 * names_count names + 2)
  -- one definition was added, or a script of two was saved
  pub added : (defs : List Def) → renewal names (Some (record { edition = record { epoch = 1; defs = defs }; marked = false })) (second_edition names defs (procedure (codes "x") ∷ [])) ≡ 1
  pub saved : (defs : List Def) → renewal names (Some (record { edition = record { epoch = 1; defs = defs }; marked = false })) (saved_edition names (procedure (codes "x") ∷ procedure (codes "y") ∷ [])) ≡ names_count names + 2
