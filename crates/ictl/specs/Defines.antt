-- A definition run: a script without a connection, whose definitions are published where it ends well. A question for a run inside
-- is answered by one on the same blueprint.
use Rattle.std.specs.Prelude.{ℕ, ℤ, pos, negsuc, zero, suc, ◌&&◌, nat_le, List, [], ◌∷◌, if◌then◌else◌, Option, Some, None}
use Rattle.txt_core.specs.Names.{Bytes, Words, Names, Moment}
use Rattle.txt_core.specs.Number.{number}
use Rattle.txt_core.specs.Limits.{most_nested}
use Rattle.natives.specs.Words.{arg}
use Rattle.outside.specs.declared.question.Answer.{Answer}
use Rattle.outside.specs.declared.question.Answer.TheVariants.{Said, Failed, Page, NoPage, PageFault}
use Rattle.outside.specs.declared.question.Question.{Question}
use Rattle.outside.specs.declared.question.Service.TheVariants as service
use Rattle.cmd_table.specs.declared.definition.Def.{Def}
use Rattle.blueprint.specs.Scripts.{script_of}
use Rattle.server_host.specs.declared.edition.Edition.{Edition}
use Rattle.server_host.specs.Hosts.{HostState}
use Rattle.server_host.specs.Leaf.{host_table}
use Rattle.tcl_eval.specs.State.{State}
use Rattle.tcl_eval.specs.Eval.{eval, returned}
use Rattle.tcl_eval.specs.declared.stack.Ended.{Ended}
use Rattle.tcl_eval.specs.declared.outcome.Work.TheVariants as works
use Rattle.ictl.specs.Fresh.{define_state, build_steps}
use Rattle.ictl.specs.Settle.{Settled, ended, asking, exhausted, nested, Defined, said, stands, gone, sunk, Handler, settle}

-- the question whether what was made is published: its one word is the script of that
abbrev pub publish : List Def → Question
publish made = record { service = service.Publish; words = script_of made ∷ [] }

-- What comes of the answer: where it was published, the script's result, and else an error with the reason. An answer that
-- speaks of a page counts as a refusal without a reason.
abbrev pub published : Bytes → Answer → Answer
published result (Said text) = Said result
published result (Failed why) = Failed why
published result (Page page) = Failed []
published result NoPage = Failed []
published result PageFault = Failed []

-- the run stands at this question whether to publish, and its script's result is this
abbrev pub publishing : Question → Bytes → ℕ → State HostState → List Answer → Defined
publishing question result budget state [] = stands question state
publishing question result budget state (answer ∷ left) = said (published result answer) budget state left

-- after a good end what was made is published, where anything was
abbrev pub good_end : List Def → Bytes → ℕ → State HostState → List Answer → Defined
good_end [] result budget state left = said (Said result) budget state left
good_end (def ∷ defs) result budget state left = publishing (publish (def ∷ defs)) result budget state left

-- another code is an error, and nothing is published
abbrev pub by_code : ℕ → Bytes → ℕ → State HostState → List Answer → Defined
by_code zero result budget state left = good_end state.made result budget state left
by_code (suc code) result budget state left = said (Failed result) budget state left

-- a script ends as a procedure does: code 2 is a good end too, and codes 3 and 4 are errors of their own
abbrev pub script_end : Ended → ℕ → State HostState → List Answer → Defined
script_end value budget state left = by_code value.code value.result budget state left

abbrev pub define_end : Settled → Defined
define_end (ended code result state account left) = script_end (returned code result) account.budget state left
define_end (asking question state inside) = stands question state
define_end (exhausted state inside left) = gone state left
define_end (nested state inside left) = sunk state left

-- There is no run inside a definition run: its host answers the command that would ask for one by itself. What would ask is spent.
abbrev pub no_inner : Names → Edition → Moment → Handler
no_inner names blueprint moment =
    record { runs = (λ words budget questions answers. gone (define_state names blueprint moment) answers); build = 0 }

-- the depths at which a run may stand
abbrev pub depth_in : ℤ → Option ℕ
depth_in (pos n) = if nat_le 1 n && nat_le n most_nested then Some n else None
depth_in (negsuc n) = None

abbrev pub depth_of : Option ℤ → Option ℕ
depth_of None = None
depth_of (Some n) = depth_in n

module _ (names : Names) (blueprint : Edition) (moment : Moment) where
  -- The definition run of a script on natives of these names and a blueprint, at a moment: with so much budget, so many
  -- questions, at such a depth, and with these answers.
  abbrev pub Define : Bytes → ℕ → ℕ → ℕ → List Answer → Defined
  Define script budget questions depth answers =
      define_end (settle (no_inner names blueprint moment) questions 0
      (eval names host_table depth (works.Script script) (define_state names blueprint moment) budget) answers)

  -- at any other depth a run is too deep
  abbrev pub at_depth : Option ℕ → Bytes → ℕ → ℕ → List Answer → Defined
  at_depth None script budget questions answers = sunk (define_state names blueprint moment) answers
  at_depth (Some depth) script budget questions answers = Define script budget questions depth answers

  -- A question for a run inside has the script and the depth at which that stands, in decimal.
  abbrev pub inner_run : Words → ℕ → ℕ → List Answer → Defined
  inner_run words budget questions answers = at_depth (depth_of (number (arg words 1))) (arg words 0) budget questions answers

  -- such a question is answered by a definition run in an interpreter made for it, on the same blueprint
  abbrev pub inner_runs : Handler
  inner_runs = record { runs = inner_run; build = build_steps names blueprint.defs }
