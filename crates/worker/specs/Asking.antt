-- How questions are answered, one and all of a stretch of a run.
use Rattle.std.specs.Prelude.{◌≡◌, ℕ, List, [], ◌∷◌, ◌++◌, Option, None, Some, Result, Ok, Err}
use Rattle.txt_core.specs.Names.{Names, Moment}
use Rattle.outside.specs.Paging.{PageMap}
use Rattle.outside.specs.declared.question.Answer.{Answer}
use Rattle.outside.specs.declared.question.Question.{Question}
use Rattle.blueprint.specs.declared.reply.BlueCall.{BlueCall}
use Rattle.blueprint.specs.declared.reply.BlueCall.TheVariants as blue_call
use Rattle.blueprint.specs.declared.reply.BlueReply.{BlueReply}
use Rattle.blueprint.specs.declared.reply.BlueReply.TheVariants as blue_reply
use Rattle.blueprint.specs.declared.reply.Published.TheVariants as published
use Rattle.ictl.specs.Main.{Progress}
use Rattle.ictl.specs.Interps.{gives, UnlessNoMemory, Stands, IsWithin}
use Rattle.ictl.specs.declared.interp.Interp.{Interp}
use Rattle.ictl.specs.declared.next.Next.{Next}
use Rattle.ictl.specs.declared.next.Next.TheVariants as next
use Rattle.shared_state.specs.declared.shared.Passes.{Passes}
use Rattle.worker.specs.Turns.{Turn, OnBlueprint, OnArrays, OnSchedule, OnPages, AtOnce, IsTurnOf, answer_of, AreAsked, AtMostOneMore, GainsTurns}
use Rattle.worker.specs.Outside.{AreHeld, page_faults, RoseBy}

-- ---- one question

-- the epoch of a publication that was done
abbrev pub published_by : BlueCall → BlueReply → Option ℕ
published_by (blue_call.Publish defs) (blue_reply.Published (published.Done epoch)) = Some epoch
published_by call reply = None

abbrev pub published_at : Turn → Option ℕ
published_at (OnBlueprint e) = published_by e.call e.reply
published_at (OnArrays bucket e) = None
published_at (OnSchedule e) = None
published_at (OnPages path reply) = None
published_at AtOnce = None

-- what the last turn published, or what was known before, where there was none
abbrev pub published_after : Option ℕ → List Turn → Option ℕ
published_after known [] = known
published_after known (turn ∷ turns) = published_after (published_at turn) turns

-- one turn was taken, the question's, and the answer is its; or memory wanted, before a turn or behind it
abbrev pub CameByTurns : {E : Type 0} → ℕ → Question → List Turn → Result Answer E → Type 0
CameByTurns moment question (turn ∷ []) (Ok answer) =
    IsTurnOf moment question.service question.words turn × (answer_of question turn ≡ Some answer)
CameByTurns moment question [] (Err e) = Unit {0}
CameByTurns moment question (turn ∷ []) (Err e) = IsTurnOf moment question.service question.words turn
CameByTurns moment question _ _ = ⊥

-- what is known of a publication behind an answer
abbrev pub KnowsPublished : {E : Type 0} → List Turn → Result Answer E → Option ℕ → Type 0
KnowsPublished turns (Ok answer) now = now ≡ published_after None turns
KnowsPublished turns (Err e) now = Unit {0}

-- A question was put to what answers it.
pub record AsksOne {E : Type 0} (moment : Moment) (question : Question) (p : Passes) (held : Option PageMap) (before : ℕ)
    (result : Result Answer E) (q : Passes) (after : ℕ) (now : Option ℕ) : Type 0 where
  pub turns : List Turn
  pub gains : GainsTurns p turns q
  pub came : CameByTurns moment question turns result
  pub pages : AreHeld held turns
  pub counts : RoseBy (page_faults turns) before after
  pub published : KnowsPublished turns result now

-- ---- all questions of a stretch of a run

-- where memory wants, one turn more may stand
abbrev pub MayStand : Moment → (List Answer → Progress) → List Answer → List Turn → Next → Type 0
MayStand moment f given more next.NoMemory = AtMostOneMore moment f given more
MayStand moment f given more (next.Asks question) = ⊥
MayStand moment f given more (next.Write response) = more ≡ []
MayStand moment f given more (next.Ended outcome) = more ≡ []

-- From what the interpreter gives with further answers (f) its questions were answered until something else came of it; what it gives
-- then on further answers is what it gave before on those that it was given and the further ones.
pub record Hears (names : Names) (moment : Moment) (f : List Answer → Progress) (p : Passes) (held : Option PageMap)
    (before : ℕ) (known : Option ℕ) (answers : List Answer) (result : Next) (inside : ℕ) (interp : Interp)
    (q : Passes) (after : ℕ) (now : Option ℕ) (all : List Answer) : Type 0 where
  pub turns : List Turn
  pub given : List Answer
  pub more : List Turn
  pub all_are : all ≡ answers ++ given
  pub gains : GainsTurns p (turns ++ more) q
  pub asked : AreAsked moment f turns given
  pub behind : MayStand moment f given more result
  pub pages : AreHeld held (turns ++ more)
  pub counts : RoseBy (page_faults (turns ++ more)) before after
  pub published : UnlessNoMemory result (now ≡ published_after known turns)
  pub goes : UnlessNoMemory result ((further : List Answer) → f (given ++ further) ≡ gives names result inside interp further)

-- an interpreter that answered this stands for this run, to which nothing was given yet
pub record StandsFor (names : Names) (run : List Answer → Progress) (first : Next) (inside : ℕ) (interp : Interp) : Type 0 where
  pub stands : Stands names run first inside interp []

-- What was written stays within what a run writes, also where memory wanted: the steps so far, with those that were written before, are
-- no more than the run writes as far as its answers reach. An interpreter that answered this goes on as that run.
pub record StaysWithin (names : Names) (run : List Answer → Progress) (answers : List Answer) (now : Next) (inside : ℕ) (interp : Interp)
    (all : List Answer) (written before steps : ℕ) : Type 0 where
  pub given : List Answer
  pub all_are : all ≡ answers ++ given
  pub within : IsWithin written before steps interp (run given)
  pub goes : Stands names run now inside interp given
