-- What is promised of a session as a whole: its bytes, the entries of its passes, its moments and its steps, all of one list of what stands
-- behind its items.
use Rattle.std.specs.Prelude.{◌≡◌, ◌≢◌, ◌⊎◌, ◌≤◌, ℕ, ◌+◌, List, [], ◌∷◌, ◌++◌, length, take, drop, map, Option, Some}
use Rattle.txt_core.specs.Names.{Bytes, Names, Moment}
use Rattle.outside.specs.Faults.{Rose}
use Rattle.outside.specs.Paging.{PageMap}
use Rattle.outside.specs.Writing.{Gains}
use Rattle.http_req.specs.Outcomes.{Gets, Whole}
use Rattle.blueprint.specs.States as blueprints
use Rattle.ictl.specs.Main.{Progress}
use Rattle.serving.specs.Connections.{most_served}
use Rattle.shared_state.specs.declared.shared.Passes.{Passes}
use Rattle.worker.specs.Turns.{Turn, OnBlueprint, IsLook, GainsTurns}
use Rattle.worker.specs.Runs.{Finished, edition_of, is_marked}
use Rattle.worker.specs.Clean.{Standing}
use Rattle.worker.specs.Outside.{AreReadings, AreHeld, page_faults, RoseBy}
use Rattle.worker.specs.Cost.{renewal, vain_cost, run_cost}
use Rattle.worker.specs.Items.{Item, all_turns, run_of, bytes_of, Replied, Backs}
use Rattle.worker.specs.Ends.{Finish, Nothing, Wants, finish_moments, GoesOnBehind, EndsWith, EndsBehind, end_bytes, LeavesInput}
use Rattle.worker.specs.Sessions.{At}
use Rattle.worker.specs.declared.served.Served.{Served}
use Rattle.worker.specs.declared.served.ServedOutcome.TheVariants as ways
use Rattle.worker.specs.declared.served.End.{End as SessionEnd}
use Rattle.worker.specs.declared.served.End.TheVariants as ends

-- ---- input and output

-- the bytes of a session: of each reply what was written, and those of the end
abbrev pub session_bytes : SessionEnd → List Served → List Item → Finish → Bytes
session_bytes end (x ∷ xs) (item ∷ items) finish = take x.wrote item.reply ++ session_bytes end xs items finish
session_bytes end _ _ finish = end_bytes end finish

module _ (names : Names) where
  -- Each item is told of truly; the session goes on behind each but the last; and it ends with that, or behind it. So many requests were
  -- served before them, with answers of so many bytes.
  abbrev pub AreReplied : (count answered : ℕ) → SessionEnd → List Served → List Item → Finish → Type 0
  AreReplied count answered end [] [] finish = EndsBehind end finish
  AreReplied count answered end (x ∷ xs) (item ∷ items) finish =
      Replied names count answered x item
      × ((GoesOnBehind count answered x item × AreReplied (count + 1) (answered + bytes_of x.answers) end xs items finish)
      ⊎ (EndsWith end count answered x item × (xs ≡ []) × (items ≡ []) × (finish ≡ Nothing)))
  AreReplied count answered end _ _ finish = ⊥

module _ (names : Names) (peer : Bytes) where
  -- The requests stand at the front of the input, one after the other from its first byte on, and behind them is what the end says.
  abbrev pub AreRead : SessionEnd → List Item → Finish → Option Bytes → Bytes → Type 0
  AreRead end [] finish unread input = LeavesInput peer end finish unread input
  AreRead end (item ∷ items) finish unread input =
      (used : ℕ) × Gets input peer (Whole item.request used) × AreRead end items finish unread (drop used input)

  -- Each item is told of truly. Where the source is told, the items are the requests of its input, in order; where the sink is told, what
  -- it took is their replies, in order, and the bytes of the end.
  pub record Replies (end : SessionEnd) (served : List Served) (items : List Item) (finish : Finish)
      (input unread taken taken_after : Option Bytes) : Type 0 where
    pub replied : AreReplied names 0 0 end served items finish
    pub reads : (bytes : Bytes) → input ≡ Some bytes → AreRead end items finish unread bytes
    pub writes : Gains taken (session_bytes end served items finish) taken_after

-- ---- the entries of the passes

-- a look behind the items, where there was one
abbrev pub finish_turns : Finish → List Turn
finish_turns (Wants moment (Some look)) = OnBlueprint look ∷ []
finish_turns finish = []

-- The turns of a session: of each item its look, and then those that answered its questions; and those of the end.
abbrev pub session_turns : List Item → Finish → List Turn
session_turns [] finish = finish_turns finish
session_turns (item ∷ items) finish = OnBlueprint item.look ∷ (all_turns item ++ session_turns items finish)

-- what is done behind the items is a look, where it is a turn
abbrev pub IsVainLook : Finish → Type 0
IsVainLook (Wants moment (Some look)) = IsLook look.call
IsVainLook finish = Unit {0}

module _ (names : Names) where
  -- Each item's look is one, and its turns are those that its replay asks for; no other turn was taken but a look behind the items.
  abbrev pub AreBacked : List Served → List Item → Finish → Type 0
  AreBacked [] [] finish = IsVainLook finish
  AreBacked (x ∷ xs) (item ∷ items) finish = Backs names x item × AreBacked xs items finish
  AreBacked _ _ finish = ⊥

  -- What the passes gained in the session are these turns, cell by cell, each entry legal, at a place not seen before and in a state that
  -- is no older than any that the pass knew. What the pages replied is theirs, and their faults were counted.
  pub record Backed (held : Option PageMap) (served : List Served) (items : List Item) (finish : Finish) (p q : Passes) (before after : ℕ)
      : Type 0 where
    pub gains : GainsTurns p (session_turns items finish) q
    pub backed : AreBacked served items finish
    pub pages : AreHeld held (session_turns items finish)
    pub counts : RoseBy (page_faults (session_turns items finish)) before after

-- ---- steps

-- what an item is charged for: the blueprint that it found, and its run as far as its answers reach
pub record Bill : Type 0 where
  pub blueprint : blueprints.State
  pub run : Progress

module _ (names : Names) where
  abbrev pub bill_of : Served → Item → Bill
  bill_of x item = record { blueprint = item.look.before; run = run_of names item x.moment x.answers }

  abbrev pub bills_of : List Served → List Item → List Bill
  bills_of (x ∷ xs) (item ∷ items) = bill_of x item ∷ bills_of xs items
  bills_of _ _ = []

  -- the interpreter behind an item is of its blueprint, and marked where its run ended so
  abbrev pub standing_behind : Bill → Option Standing
  standing_behind bill = Some (record { edition = edition_of bill.blueprint; marked = is_marked bill.run })

  -- what a renewal behind the items may cost, where a look was taken there
  abbrev pub finish_cost : Option Standing → Finish → ℕ
  finish_cost standing (Wants moment (Some look)) = vain_cost names standing look
  finish_cost standing finish = 0

  -- Each item costs its renewal and its run, and the end what it may.
  abbrev pub Cost : Option Standing → List Bill → Finish → ℕ
  Cost standing [] finish = finish_cost standing finish
  Cost standing (bill ∷ bills) finish = renewal names standing bill.blueprint + run_cost bill.run + Cost (standing_behind bill) bills finish

-- ---- moments

-- the moments of the items, and that of a reply behind them
abbrev pub session_moments : List Served → Finish → List Moment
session_moments served finish = map (λ x. x.moment) served ++ finish_moments finish

-- ---- causes

-- A fault of the source or the sink is told only where its count rose; no count falls.
abbrev pub Causes : SessionEnd → (source_before source_after sink_before sink_after : ℕ) → Type 0
Causes (ends.WriteFault sent) f g h k = (f ≤ g) × (h ≤ k) × Rose h k
Causes ends.ReadFault f g h k = (f ≤ g) × (h ≤ k) × Rose f g
Causes end f g h k = (f ≤ g) × (h ≤ k)

-- at most so many requests are served on one connection
abbrev pub AreFew : List Served → Type 0
AreFew served = length served ≤ most_served

-- ---- completeness

-- the ends that no fault and no want of memory made
abbrev pub IsGoodEnd : SessionEnd → Type 0
IsGoodEnd (ends.WriteFault sent) = ⊥
IsGoodEnd ends.ReadFault = ⊥
IsGoodEnd ends.NoMemory = ⊥
IsGoodEnd end = Unit {0}

-- an item met want of memory
abbrev pub SomeWants : List Served → Type 0
SomeWants [] = ⊥
SomeWants (x ∷ xs) = (x.outcome ≡ ways.NoMemory) ⊎ SomeWants xs

-- each reply is that of a run that was finished, and was written whole
abbrev pub AreWhole : List Served → List Item → Type 0
AreWhole [] [] = Unit {0}
AreWhole (x ∷ xs) (item ∷ items) = (item.course ≡ Finished) × (x.wrote ≡ length item.reply) × AreWhole xs items
AreWhole _ _ = ⊥

-- Where no count rose and memory sufficed, each reply was written whole, and the session went on to the end of the input, to a request that
-- closed it, to a refusal, to a rest that is less than a request, or until it was spent.
abbrev pub IsComplete : SessionEnd → List Served → List Item → (source_before source_after sink_before sink_after : ℕ) → Type 0
IsComplete end served items f g h k =
    (Rose f g → ⊥) → (Rose h k → ⊥) → end ≢ ends.NoMemory → (SomeWants served → ⊥) → IsGoodEnd end × AreWhole served items

-- ---- the whole promise

-- A session over an input, of which the source has this still to give, from where the worker stood to where it stands: there is a list of
-- what stands behind its items, and what was done behind them, of which all of this holds.
pub record Promised (names : Names) (held : Option PageMap) (peer : Bytes) (input unread : Option Bytes) (a : At)
    (end : SessionEnd) (served : List Served) (b : At) (f g h k : ℕ) : Type 0 where
  pub items : List Item
  pub finish : Finish
  -- The bytes are the replies of fresh interpreters, each on the blueprint that its own look found, at its moment and with its answers.
  pub replies : Replies names peer end served items finish input unread a.output b.output
  -- The answers are those of turns on the cells, which the replays ask for, and of the pages; no blueprint is older than any seen before.
  pub backed : Backed names held served items finish a.passes b.passes a.faults b.faults
  -- Where the clock is told, the moments are its readings in this session, one for each item and then one for a reply behind them.
  pub moments : AreReadings a.clock (session_moments served finish)
  -- The steps rise by no more than the cost.
  pub paid : b.steps ≤ a.steps + Cost names a.standing (bills_of names served items) finish
  pub complete : IsComplete end served items f g h k
