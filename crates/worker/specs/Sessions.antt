-- A session, step by step: requests that are served one after the other, and how it ends.
use Rattle.std.specs.Prelude.{◌≡◌, ◌⊎◌, ◌≤◌, ℕ, ◌+◌, Bool, List, [], ◌∷◌, ◌++◌, length, take, sum_by, Option, None, Some}
use Rattle.txt_core.specs.Names.{Bytes, Names}
use Rattle.outside.specs.Clocks.{Dial}
use Rattle.outside.specs.Paging.{PageMap}
use Rattle.outside.specs.Writing.{Gains}
use Rattle.blueprint.specs.declared.reply.BlueReply.{BlueReply}
use Rattle.blueprint.specs.declared.reply.BlueReply.TheVariants as blue_reply
use Rattle.blueprint.specs.declared.reply.Look.TheVariants as looks
use Rattle.shared_state.specs.declared.shared.Passes.{Passes}
use Rattle.worker.specs.Turns.{GainsTurns, GainsLook}
use Rattle.worker.specs.Runs.{Course, Finished, CutShort, WantsBefore, WantsBehind, edition_of, is_marked}
use Rattle.worker.specs.Clean.{Standing, standing_of}
use Rattle.worker.specs.Outside.{Ticks, AreHeld, page_faults, RoseBy, Reads}
use Rattle.worker.specs.Cost.{renewal, vain_cost, run_cost}
use Rattle.worker.specs.Items.{Item, all_turns, run_of, bytes_of, Replied, Backs}
use Rattle.worker.specs.Ends.{Finish, Nothing, Refuses, Wants, GoesOnBehind, EndsWith, EndsBehind, end_bytes, LeavesInput}
use Rattle.worker.specs.declared.worker.Worker.{Worker}
use Rattle.worker.specs.declared.served.Served.{Served}
use Rattle.worker.specs.declared.served.End.{End as SessionEnd}

-- ---- where a worker stands

-- What a worker goes on from: what its passes know, where its interpreter stands, and what is outside: the clock and the output, where
-- told, the count of the faults of its pages, and the counter of steps.
pub record At : Type 0 where
  pub passes : Passes
  pub standing : Option Standing
  pub clock : Option Dial
  pub output : Option Bytes
  pub faults : ℕ
  pub steps : ℕ

abbrev pub at : Passes → Worker → Option Dial → Option Bytes → ℕ → ℕ → At
at passes worker clock output faults steps =
    record { passes = passes; standing = standing_of worker; clock = clock; output = output; faults = faults; steps = steps }

-- how many bytes the answers of requests have together
abbrev pub answered_by : List Served → ℕ
answered_by served = sum_by (λ x. bytes_of x.answers) served

-- nothing but the clock and the output may have changed
abbrev pub StaysInside : At → At → Type 0
StaysInside a b = (b.passes ≡ a.passes) × (b.standing ≡ a.standing) × (b.faults ≡ a.faults) × (b.steps ≡ a.steps)

module _ (names : Names) where
  -- ---- the interpreter behind an item

  -- it is of the blueprint that the look found, and marked or not
  abbrev pub stands_at : Item → Bool → Standing
  stands_at item marked = record { edition = edition_of item.look.before; marked = marked }

  -- It is marked where the run ended so; of a run that wanted memory nothing is said of the mark.
  abbrev pub StandsBehind : Course → Served → Item → Option Standing → Type 0
  StandsBehind Finished x item standing = standing ≡ Some (stands_at item (is_marked (run_of names item x.moment x.answers)))
  StandsBehind CutShort x item standing = standing ≡ Some (stands_at item (is_marked (run_of names item x.moment x.answers)))
  StandsBehind WantsBefore x item standing = (marked : Bool) × (standing ≡ Some (stands_at item marked))
  StandsBehind WantsBehind x item standing = (marked : Bool) × (standing ≡ Some (stands_at item marked))

  -- ---- behind all items

  -- Behind a look that was refused the interpreter is what it was; behind any other it may have been let go.
  abbrev pub MayBeLetGo : BlueReply → Option Standing → Option Standing → Type 0
  MayBeLetGo (blue_reply.Look looks.NoMemory) before after = after ≡ before
  MayBeLetGo reply before after = (after ≡ before) ⊎ (after ≡ None)

  -- what was done behind the items, but for what was written: at most one look, which brought no run about
  abbrev pub Finishes : Finish → At → At → Type 0
  Finishes Nothing a b = StaysInside a b × (b.clock ≡ a.clock)
  Finishes (Refuses status moment) a b = StaysInside a b × Ticks a.clock moment b.clock
  Finishes (Wants moment None) a b = StaysInside a b × Ticks a.clock moment b.clock
  Finishes (Wants moment (Some look)) a b =
      GainsLook a.passes look b.passes × MayBeLetGo look.reply a.standing b.standing × (b.faults ≡ a.faults)
      × (b.steps ≤ a.steps + vain_cost names a.standing look) × Ticks a.clock moment b.clock

module _ (names : Names) (held : Option PageMap) where
  -- ---- one item

  -- One request was served on a connection that had so many before it, with answers of so many bytes: one turn, a look at the blueprint;
  -- then one reading of the clock; then the turns that answered its questions, one after the other, and the pages; the reply, whole or in
  -- part; and the interpreter is reset, at a cost.
  pub record Serves (count answered : ℕ) (item : Item) (a : At) (x : Served) (b : At) : Type 0 where
    pub mid : Passes
    pub looks : GainsLook a.passes item.look mid
    pub ticks : Ticks a.clock x.moment b.clock
    pub gains : GainsTurns mid (all_turns item) b.passes
    pub backs : Backs names x item
    pub pages : AreHeld held (all_turns item)
    pub page_counts : RoseBy (page_faults (all_turns item)) a.faults b.faults
    pub replied : Replied names count answered x item
    pub writes : Gains a.output (take x.wrote item.reply) b.output
    pub stands : StandsBehind names item.course x item b.standing
    pub steps : b.steps ≤ a.steps + renewal names a.standing item.look.before + run_cost (run_of names item x.moment x.answers)

module _ (names : Names) (held : Option PageMap) (peer : Bytes) where
  -- ---- all items

  -- Requests were read from the front of the input and served, one after the other, and the session went on behind each. So many were
  -- served before them, with answers of so many bytes.
  abbrev pub ServesAll : Option Bytes → (count answered : ℕ) → At → List Served → Option Bytes → At → Type 0
  ServesAll i count answered a [] j b = (i ≡ j) × (a ≡ b)
  ServesAll i count answered a (x ∷ xs) j b =
      (item : Item) × (k : Option Bytes) × (m : At)
      × Reads peer i item.request k × Serves names held count answered item a x m × GoesOnBehind count answered x item
      × ServesAll k (count + 1) (answered + bytes_of x.answers) m xs j b

  -- The end of a session that has served so many requests, with answers of so many bytes: with a last item, or behind them. The source
  -- has this still to give.
  pub data Last (i unread : Option Bytes) (count answered : ℕ) (a : At) (end : SessionEnd) (tail : List Served) (b : At) : Type 0 where
    with_item : (x : Served) (item : Item) (j : Option Bytes) → tail ≡ x ∷ [] → Reads peer i item.request j
        → Serves names held count answered item a x b → EndsWith end count answered x item
        → Last i unread count answered a end tail b
    behind_all : (finish : Finish) → tail ≡ [] → EndsBehind end finish
        → ((input : Bytes) → i ≡ Some input → LeavesInput peer end finish unread input)
        → Finishes names finish a b → Gains a.output (end_bytes end finish) b.output
        → Last i unread count answered a end tail b

  -- A session over an input, from its first request to its end.
  pub record IsSession (i unread : Option Bytes) (a : At) (end : SessionEnd) (served : List Served) (b : At) : Type 0 where
    pub front : List Served
    pub tail : List Served
    pub left : Option Bytes
    pub mid : At
    pub parts : served ≡ front ++ tail
    pub serves : ServesAll i 0 0 a front left mid
    pub last : Last left unread (length front) (answered_by front) mid end tail b
