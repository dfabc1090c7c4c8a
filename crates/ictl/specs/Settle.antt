-- A run whose questions get their answers from a list. A question for a run inside this one is answered by that run, whose own
-- questions get theirs from the same list.
use Rattle.std.specs.Prelude.{ℕ, zero, suc, ◌+◌, ◌-◌, List, [], ◌∷◌}
use Rattle.txt_core.specs.Names.{Bytes, Words}
use Rattle.outside.specs.declared.question.Answer.{Answer}
use Rattle.outside.specs.declared.question.Question.{Question}
use Rattle.outside.specs.declared.question.Service.{Service}
use Rattle.outside.specs.declared.question.Service.TheVariants.{Page, Nsv, Schedule, Publish, Save, Inner}
use Rattle.cmd_table.specs.Commands.{Writes}
use Rattle.server_host.specs.Hosts.{HostState}
use Rattle.tcl_eval.specs.State.{State, Given, Out, done, asks, spent, too_deep}

-- what a run comes to with what is given to it: answers, each with what it cost elsewhere
abbrev pub Run : Type 0
Run = Given → Out HostState

-- What goes through the scripts of a run, one after the other.
pub record Account : Type 0 where
  -- what is left of the budget
  pub budget : ℕ
  -- How many questions may still be asked. This never ends a run of the program: each command that asks is paid for, and none
  -- asks more than eight times.
  pub questions : ℕ
  -- how many entries of their command tables the runs inside have written so far, from their making on
  pub inside : ℕ

-- What a script comes to, with the answers that it didn't take.
pub data Settled : Type 0 where
  -- it ended with this code and result
  ended : (code : ℕ) (result : Bytes) (state : State HostState) (account : Account) (left : List Answer) → Settled
  -- it stands at this question, and there is no answer for it
  asking : (question : Question) (state : State HostState) (inside : ℕ) → Settled
  -- it ended where a cost was more than what was left of the budget
  exhausted : (state : State HostState) (inside : ℕ) (left : List Answer) → Settled
  -- it ended where a script stood too deep
  nested : (state : State HostState) (inside : ℕ) (left : List Answer) → Settled

-- What a definition run comes to: an answer, with what is left of its budget; a question, for which there is no answer; or it was
-- spent, or too deep.
pub data Defined : Type 0 where
  said : (answer : Answer) (budget : ℕ) (state : State HostState) (left : List Answer) → Defined
  stands : (question : Question) (state : State HostState) → Defined
  gone : (state : State HostState) (left : List Answer) → Defined
  sunk : (state : State HostState) (left : List Answer) → Defined

-- How a question for a run inside is answered.
pub record Handler : Type 0 where
  -- by the words of the question, the budget that is left, how many questions may be asked, and the answers
  pub runs : Words → ℕ → ℕ → List Answer → Defined
  -- how many entries of a command table are written where an interpreter is made for that run
  pub build : ℕ

-- how a script goes on with an answer and its charge, where the runs inside have written so much, and with the answers behind it
abbrev pub Onward : Type 0
Onward = Answer × ℕ → ℕ → List Answer → Settled

-- with what a run inside wrote, which has come to this state
abbrev pub with_inside : ℕ → Account → State HostState → ℕ
with_inside build account state = account.inside + (build + Writes state.made)

-- The answer of a run inside is charged what that run used. Where that run is spent or too deep, so is this one.
abbrev pub behind_inner : ℕ → Defined → State HostState → Account → Onward → Settled
behind_inner build (said answer budget inner left) state account go =
    go (answer, account.budget - budget) (with_inside build account inner) left
behind_inner build (stands question inner) state account go = asking question state (with_inside build account inner)
behind_inner build (gone inner left) state account go = exhausted state (with_inside build account inner) left
behind_inner build (sunk inner left) state account go = nested state (with_inside build account inner) left

-- any other question gets the next answer of the list, at no charge beside it
abbrev pub behind_other : Question → State HostState → ℕ → List Answer → Onward → Settled
behind_other question state inside [] go = asking question state inside
behind_other question state inside (answer ∷ left) go = go (answer, 0) inside left

abbrev pub by_service : Handler → Question → Service → State HostState → Account → List Answer → Onward → Settled
by_service inner question Inner state account answers go =
    behind_inner inner.build (inner.runs question.words account.budget account.questions answers) state account go
by_service inner question Page state account answers go = behind_other question state account.inside answers go
by_service inner question Nsv state account answers go = behind_other question state account.inside answers go
by_service inner question Schedule state account answers go = behind_other question state account.inside answers go
by_service inner question Publish state account answers go = behind_other question state account.inside answers go
by_service inner question Save state account answers go = behind_other question state account.inside answers go

-- what is left of an account with this budget, these questions and so much inside
abbrev pub account_of : ℕ → ℕ → ℕ → Account
account_of budget questions inside = record { budget = budget; questions = questions; inside = inside }

-- a run that came to this goes on so behind a question, of which one less may be asked then
abbrev pub come_to : Handler → Out HostState → ℕ → ℕ → List Answer → Onward → Settled
come_to inner (done code result state budget given) questions inside answers go =
    ended code result state (account_of budget (suc questions) inside) answers
come_to inner (asks question state budget) questions inside answers go =
    by_service inner question question.service state (account_of budget questions inside) answers go
come_to inner (spent state) questions inside answers go = exhausted state inside answers
come_to inner (too_deep state) questions inside answers go = nested state inside answers

-- where no question may be asked any more
abbrev pub cut : Out HostState → ℕ → List Answer → Settled
cut (done code result state budget given) inside answers = ended code result state (account_of budget 0 inside) answers
cut (asks question state budget) inside answers = exhausted state inside answers
cut (spent state) inside answers = exhausted state inside answers
cut (too_deep state) inside answers = nested state inside answers

-- The run with the answers of a list. It may ask so many questions, and the runs inside have written so much before.
abbrev pub settle : Handler → ℕ → ℕ → Run → List Answer → Settled
settle inner zero inside run answers = cut (run []) inside answers
settle inner (suc questions) inside run answers =
    come_to inner (run []) questions inside answers
    (λ answer inside' left. settle inner questions inside' (λ given. run (answer ∷ given)) left)
