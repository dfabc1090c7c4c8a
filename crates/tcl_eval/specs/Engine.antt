-- What an engine stands for.
use Rattle.std.specs.Prelude.{◌≡◌, ◌<◌, ◌≤◌, ◌⊎◌, ℕ, ◌+◌, ◌*◌, ◌-◌, Bool, true, false, ◌++◌, [], ◌∷◌, Option, Some, None}
use Rattle.txt_core.specs.Names.{Words, Names}
use Rattle.outside.specs.declared.question.Answer.{Answer}
use Rattle.outside.specs.declared.question.Question.{Question}
use Rattle.outside.specs.declared.question.Service.{Service}
use Rattle.tcl_eval.specs.State.{State, LeafTable, wants, goes, Given, Out, done, spent, too_deep, Rest, Next}
use Rattle.tcl_eval.specs.Eval.{give, nested, standing, eval}
use Rattle.cmd_table.specs.Commands.{Writes}
use Rattle.cmd_table.specs.Table.{mark_of, Keeps as KeepsMarks}
use Rattle.cmd_table.specs.declared.definition.Def.{Def}
use Rattle.cmd_table.specs.declared.definition.Def.TheVariants as defs
use Rattle.tcl_frame.specs.Stack.{Stack}
use Rattle.tcl_frame.specs.Base.{IsAtBase, kept}
use Rattle.tcl_eval.specs.Stack.{stack_next, stack_free, step_next, step_free}
use Rattle.tcl_eval.specs.declared.engine.Engine.{Engine}
use Rattle.tcl_eval.specs.declared.engine.OpenQuestion.{OpenQuestion}
use Rattle.tcl_eval.specs.declared.stack.AtRest.{AtRest}
use Rattle.tcl_eval.specs.declared.stack.AtRest.TheVariants as settled
use Rattle.tcl_eval.specs.declared.stack.Step.{Step}
use Rattle.tcl_eval.specs.declared.stack.Step.TheVariants as step
use Rattle.tcl_eval.specs.declared.stack.Gone.{Gone}
use Rattle.tcl_eval.specs.declared.stack.Gone.TheVariants as gone
use Rattle.tcl_eval.specs.declared.stack.Acted.{Acted}
use Rattle.tcl_eval.specs.declared.stack.Acted.TheVariants as acted
use Rattle.tcl_host.specs.declared.host.HostReply.{HostReply}
use Rattle.tcl_host.specs.declared.host.HostReply.TheVariants as replies
use Rattle.tcl_eval.specs.declared.stack.Ended.{Ended}
use Rattle.tcl_eval.specs.declared.outcome.Work.{Work}
use Rattle.tcl_eval.specs.declared.outcome.Outcome.{Outcome}
use Rattle.tcl_eval.specs.declared.outcome.Outcome.TheVariants.{Done, Asks, Spent, TooDeep, NoMemory}

-- the words of the command whose question is open
abbrev pub words_of : Option OpenQuestion → Words
words_of None = []
words_of (Some now) = now.words

-- the levels that are left to what that command may run
abbrev pub levels_of : Option OpenQuestion → ℕ
levels_of None = 0
levels_of (Some now) = now.levels

-- a question to this service is open
abbrev pub IsOpenTo : Service → Option OpenQuestion → Type 0
IsOpenTo service None = ⊥
IsOpenTo service (Some now) = now.service ≡ service

-- Where memory didn't want, this holds.
abbrev pub IfRan : Outcome → Type 0 → Type 0
IfRan (Done code result) fact = fact
IfRan (Asks question) fact = fact
IfRan Spent fact = fact
IfRan TooDeep fact = fact
IfRan NoMemory fact = Unit {0}

-- where a text is run, or a value is there, this holds; no question is asked
abbrev pub Enters : Acted → Type 0 → Type 0
Enters (acted.Gives value) fact = fact
Enters (acted.Asks question) fact = ⊥
Enters acted.TooDeep fact = Unit {0}
Enters acted.Spent fact = Unit {0}

-- how a run goes on behind what asked nothing
abbrev pub gone_of : Acted → Gone
gone_of (acted.Gives value) = gone.Goes (step.Value value)
gone_of (acted.Asks question) = gone.Spent
gone_of acted.TooDeep = gone.TooDeep
gone_of acted.Spent = gone.Spent

module _ {H : Type 0} where
  -- what comes after the values of parameters were written, or one was refused
  abbrev pub after_writes : Option Ended → (Next H → Rest H) → Next H → Rest H
  after_writes None go k = go k
  after_writes (Some refused) go k = give refused k

  -- the state that an engine holds
  abbrev pub state_of : Engine H → State H
  state_of engine = record {
    commands = engine.table.table;
    frames = engine.frames;
    host = engine.host;
    made = engine.made;
  }

  -- the words of the command whose question is open
  abbrev pub open_words : Engine H → Words
  open_words engine = words_of engine.question

  -- the state with the global frame alone
  abbrev pub at_global : State H → State H
  at_global state = record state { frames = record state.frames { above = [] } }

  -- nothing is suspended
  abbrev pub IsIdle : Engine H → Type 0
  IsIdle engine = (engine.stack.items ≡ []) × (engine.question ≡ None)

module _ {H : Type 0} (names : Names) (table : LeafTable H) where
  -- what a run makes of answers that stands at a question, which is open so
  abbrev pub asking : Option OpenQuestion → Question → Next H → Rest H
  asking opened question k = standing table (nested names table (levels_of opened)) (words_of opened) question k

  -- what comes after a command that was done
  abbrev pub acted_next : Acted → Option OpenQuestion → Next H → Rest H
  acted_next (acted.Gives value) opened k = k value.code value.result
  acted_next (acted.Asks question) opened k = asking opened question k
  acted_next acted.TooDeep opened k = λ state budget given. too_deep state
  acted_next acted.Spent opened k = λ state budget given. spent state

  -- what comes after a choice, a loop, a page or a call of a procedure
  abbrev pub gone_next : Gone → Next H → Rest H
  gone_next (gone.Goes what) k = step_next names table what k
  gone_next gone.TooDeep k = λ state budget given. too_deep state
  gone_next gone.Spent k = λ state budget given. spent state

  -- what comes after an outcome
  abbrev pub outcome_next : Outcome → Option OpenQuestion → Next H → Rest H
  outcome_next (Done code result) opened k = done code result
  outcome_next (Asks question) opened k = asking opened question k
  outcome_next Spent opened k = λ state budget given. spent state
  outcome_next TooDeep opened k = λ state budget given. too_deep state
  outcome_next NoMemory opened k = λ state budget given. spent state

  -- what a way to go on comes to from an engine, with these answers
  abbrev pub gives : (Next H → Rest H) → Engine H → Given → Out H
  gives way engine = way (stack_next names table engine.stack.items) (state_of engine) engine.budget

  -- one way to go on from the new engine comes to the same as another one from the old engine
  abbrev pub Same : Engine H → Engine H → (Next H → Rest H) → (Next H → Rest H) → Type 0
  Same new old new_way old_way = (given : Given) → gives new_way new given ≡ gives old_way old given

  -- What comes of an engine that came to this outcome, with these answers. Want of memory has no meaning: no clause looks at what
  -- stands for it here.
  abbrev pub comes_to : Outcome → Engine H → Given → Out H
  comes_to outcome engine = gives (outcome_next outcome engine.question) engine

-- A base scalar is kept where the variables are exactly the base scalars.
abbrev pub IsKeepable : Def → Stack → Type 0
IsKeepable (defs.Set name value) frames = IsAtBase frames
IsKeepable (defs.Proc name params body) frames = Unit {0}
IsKeepable (defs.Rename old new) frames = Unit {0}
IsKeepable (defs.Route method url inherit words) frames = Unit {0}
IsKeepable (defs.Filter when method pattern words) frames = Unit {0}
IsKeepable (defs.Cleanup script) frames = Unit {0}

-- the variables behind a definition that is put into the table: a `Set` is kept
abbrev pub kept_by : Def → Stack → Stack
kept_by (defs.Set name value) frames = kept frames name value
kept_by (defs.Proc name params body) frames = frames
kept_by (defs.Rename old new) frames = frames
kept_by (defs.Route method url inherit words) frames = frames
kept_by (defs.Filter when method pattern words) frames = frames
kept_by (defs.Cleanup script) frames = frames

-- a host's reply enters no page
abbrev pub IsNoPage : HostReply → Type 0
IsNoPage (replies.Done code result) = Unit {0}
IsNoPage (replies.Ask question) = Unit {0}
IsNoPage (replies.Enter pieces) = ⊥
IsNoPage (replies.Define def) = Unit {0}
IsNoPage (replies.Store name value result) = Unit {0}
IsNoPage replies.NotMine = Unit {0}
IsNoPage replies.NoMemory = Unit {0}

module _ {H : Type 0} where
  -- an engine with this host
  abbrev pub hosted_by : Engine H → H → Engine H
  hosted_by engine host = record engine { host = host }

  -- an engine with so much more budget
  abbrev pub with_more : Engine H → ℕ → Engine H
  with_more engine more = record engine { budget = engine.budget + more }

  -- What an outcome leaves: after a good end nothing is suspended, at a question this question is open, and where the run was cut
  -- off no question is open.
  abbrev pub Leaves : Outcome → Engine H → Type 0
  Leaves (Done code result) engine = IsIdle engine
  Leaves (Asks question) engine = IsOpenTo question.service engine.question
  Leaves Spent engine = engine.question ≡ None
  Leaves TooDeep engine = engine.question ≡ None
  Leaves NoMemory engine = Unit {0}

  -- the table is as it was, no definition was made, and the base scalars are kept
  abbrev pub Holds : Engine H → Engine H → Type 0
  Holds new old = (new.table ≡ old.table) × (new.made ≡ old.made) × (new.frames.keeps ≡ old.frames.keeps)

  -- the same, but definitions may have been made that write no entry of the table
  abbrev pub HoldsTable : Engine H → Engine H → Type 0
  HoldsTable new old = (new.table ≡ old.table) × (Writes new.made ≡ Writes old.made) × (new.frames.keeps ≡ old.frames.keeps)

  -- What no run changes, also where memory wants: each mark of the table is one still, and of the same state; the table's mark is
  -- as much higher as there are more entries that the definitions made write; and the base scalars are those that were kept.
  abbrev pub Lasts : Engine H → Engine H → Type 0
  Lasts new old =
      KeepsMarks old.table new.table
      × (mark_of new.table + Writes old.made ≡ mark_of old.table + Writes new.made)
      × (new.frames.keeps ≡ old.frames.keeps)

  -- the same, and so many steps were counted as the definitions that were made meanwhile write entries
  abbrev pub Counts : ℕ → ℕ → Engine H → Engine H → Type 0
  Counts after before new old = Lasts new old × (after + Writes old.made ≡ before + Writes new.made)

  -- the budget didn't rise, nor did the number of texts that may be run for nothing, and the same question is open, or none
  abbrev pub Keeps : Engine H → Engine H → Type 0
  Keeps new old =
      (new.budget ≤ old.budget) × (new.question ≡ old.question) × (stack_free new.stack.items ≤ stack_free old.stack.items)

  -- the same after a step
  abbrev pub Stays : Step → Engine H → Engine H → Type 0
  Stays step new old =
      (new.budget ≤ old.budget) × (new.question ≡ old.question) × (stack_free new.stack.items + step_free step ≤ stack_free old.stack.items)

  -- the same without that number
  abbrev pub Remains : Engine H → Engine H → Type 0
  Remains new old = (new.budget ≤ old.budget) × (new.question ≡ old.question)

  -- What falls from one text that is run to the next: what is paid for counts twice, since each payment may put a text on the stack
  -- that is run for nothing.
  abbrev pub credit : Engine H → ℕ
  credit engine = 2 * engine.budget + stack_free engine.stack.items

  -- the budget didn't rise, and what falls rose by so much at most
  abbrev pub Lower : Engine H → Engine H → ℕ → Type 0
  Lower new old more = (new.budget ≤ old.budget) × (credit new ≤ credit old + more)

  -- where a run goes on, less falls from one text that is run to the next than this
  abbrev pub Nears : Gone → Engine H → ℕ → Type 0
  Nears (gone.Goes what) engine most = credit engine + step_free what < most
  Nears gone.TooDeep engine most = Unit {0}
  Nears gone.Spent engine most = Unit {0}

  -- where all has ended, nothing is suspended
  abbrev pub Emptied : AtRest → Engine H → Type 0
  Emptied (settled.Ended value) engine = engine.stack.items ≡ []
  Emptied (settled.Ready what) engine = Unit {0}

  -- what a command that asks leaves: its question is open, and else the same one as before
  abbrev pub Opens : Acted → Engine H → Engine H → Type 0
  Opens (acted.Gives value) new old = new.question ≡ old.question
  Opens (acted.Asks question) new old = IsOpenTo question.service new.question
  Opens acted.TooDeep new old = new.question ≡ old.question
  Opens acted.Spent new old = new.question ≡ old.question

  -- what a command costs falls off the budget, wherever the run goes on
  abbrev pub PaidFor : Acted → Engine H → Engine H → Type 0
  PaidFor (acted.Gives value) new old = (new.budget < old.budget) × (credit new < credit old)
  PaidFor (acted.Asks question) new old = new.budget < old.budget
  PaidFor acted.TooDeep new old = new.budget ≤ old.budget
  PaidFor acted.Spent new old = new.budget ≤ old.budget

  -- The budget didn't rise, and where the run goes on, what falls fell, with so many texts that may be run for nothing. Where a
  -- question is asked, the budget fell.
  abbrev pub Moves : Acted → ℕ → Engine H → Engine H → Type 0
  Moves (acted.Gives value) free new old = (new.budget ≤ old.budget) × (credit new < credit old + free)
  Moves (acted.Asks question) free new old = new.budget < old.budget
  Moves acted.TooDeep free new old = new.budget ≤ old.budget
  Moves acted.Spent free new old = new.budget ≤ old.budget

  -- the question that is open where a run goes on from here
  abbrev pub Begins : Acted → Engine H → Type 0
  Begins (acted.Gives value) engine = engine.question ≡ None
  Begins (acted.Asks question) engine = IsOpenTo question.service engine.question
  Begins acted.TooDeep engine = engine.question ≡ None
  Begins acted.Spent engine = engine.question ≡ None

  -- the budget isn't more than so much, and less where a question is asked
  abbrev pub FellTo : Outcome → Engine H → ℕ → Type 0
  FellTo (Done code result) engine budget = engine.budget ≤ budget
  FellTo (Asks question) engine budget = engine.budget < budget
  FellTo Spent engine budget = engine.budget ≤ budget
  FellTo TooDeep engine budget = engine.budget ≤ budget
  FellTo NoMemory engine budget = engine.budget ≤ budget

  -- the same of what a run begins with
  abbrev pub Fell : Acted → Engine H → ℕ → Type 0
  Fell (acted.Gives value) engine budget = engine.budget ≤ budget
  Fell (acted.Asks question) engine budget = engine.budget < budget
  Fell acted.TooDeep engine budget = engine.budget ≤ budget
  Fell acted.Spent engine budget = engine.budget ≤ budget

  -- the same of a run that goes on from here; a question that is asked at once changes nothing
  abbrev pub FellFrom : Acted → Outcome → Engine H → Engine H → Type 0
  FellFrom (acted.Gives value) outcome new old = FellTo outcome new old.budget
  FellFrom (acted.Asks question) outcome new old = (outcome ≡ Asks question) × (new ≡ old)
  FellFrom acted.TooDeep outcome new old = (outcome ≡ TooDeep) × (new ≡ old)
  FellFrom acted.Spent outcome new old = (outcome ≡ Spent) × (new ≡ old)

  -- what a command asks is what its host asks
  abbrev pub AskedBy : Acted → HostReply → Words → Engine H → Engine H → Type 0
  AskedBy (acted.Gives value) reply words new old = Unit {0}
  AskedBy (acted.Asks question) reply words new old =
      ((raw : Question) × (reply ≡ replies.Ask raw)) × (open_words new ≡ words) × (new.host ≡ old.host)
  AskedBy acted.TooDeep reply words new old = Unit {0}
  AskedBy acted.Spent reply words new old = Unit {0}

  -- the budget was lowered by this cost, or it is less than that and nothing changed
  abbrev pub Pays : Bool → ℕ → Engine H → Engine H → Type 0
  Pays true cost old new = (cost ≤ old.budget) × (new ≡ record old { budget = old.budget - cost })
  Pays false cost old new = (old.budget < cost) × (new ≡ old)

-- how a run began
pub record Start (H : Type 0) : Type 0 where
  pub work : Work
  pub depth : ℕ
  pub budget : ℕ
  pub state : State H

module _ {H : Type 0} (names : Names) (table : LeafTable H) where
  -- the run that began so, with these answers
  abbrev pub run_of : Start H → Given → Out H
  run_of start = eval names table start.depth start.work start.state start.budget

  -- An engine that came to this outcome stands for a start and a list that was given: whatever is given further, the
  -- evaluation of the whole list is what the engine's own stack gives on the further one.
  abbrev pub Stands : Outcome → Engine H → Start H → Given → Type 0
  Stands outcome engine start given = (further : Given) → run_of start (given ++ further) ≡ comes_to names table outcome engine further

  -- What comes of an answer: with its charge, by which the budget was lowered since its question, it is the first of the
  -- answers that the old engine is given, and the new engine, which came to this outcome, is given those behind it.
  abbrev pub Answered : Outcome → Engine H → Engine H → Answer → Type 0
  Answered outcome new old answer =
      (question : Question) (charge : ℕ) (further : Given)
      → comes_to names table outcome new further ≡ comes_to names table (Asks question) (with_more old charge) ((answer, charge) ∷ further)

  -- the same, where nothing was charged since the question
  abbrev pub AnsweredAt : Outcome → Engine H → Engine H → Answer → Type 0
  AnsweredAt outcome new old answer =
      (question : Question) (further : Given)
      → comes_to names table outcome new further ≡ comes_to names table (Asks question) old ((answer, 0) ∷ further)

  -- The same of all that was given since the start: where the old engine, at its question, stood for a start and a list, the new
  -- one stands for that start and the list followed by the answer.
  abbrev pub StandsOn : Outcome → Engine H → Engine H → Answer → Type 0
  StandsOn outcome new old answer =
      (question : Question) (start : Start H) (given : Given) (charge : ℕ)
      → Stands (Asks question) (with_more old charge) start given → Stands outcome new start (given ++ (answer, charge) ∷ [])

module _ {H : Type 0} (table : LeafTable H) where
  -- What falls from one question to the next: the budget; or else the same command asks again, as the host says of its words,
  -- the answer and its state.
  abbrev pub Falls : Outcome → Engine H → Engine H → Answer → Type 0
  Falls (Done code result) new old answer = new.budget ≤ old.budget
  Falls (Asks question) new old answer =
      (new.budget < old.budget)
      ⊎ ((new.budget ≤ old.budget) × (open_words new ≡ open_words old) × ((raw : Question) × (table.answers (open_words old) answer old.host ≡ goes (wants raw new.host))))
  Falls Spent new old answer = new.budget ≤ old.budget
  Falls TooDeep new old answer = new.budget ≤ old.budget
  Falls NoMemory new old answer = Unit {0}
