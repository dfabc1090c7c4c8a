-- Definition runs: a block of a rehearsal is run as a start script, and its questions are answered at once.
use Rattle.std.specs.Prelude.{◌≡◌, ℕ, zero, suc, List, [], ◌∷◌, ◌++◌}
use Rattle.txt_core.specs.Names.{Bytes, Names, Moment}
use Rattle.outside.specs.declared.question.Answer.{Answer}
use Rattle.outside.specs.declared.question.Question.{Question}
use Rattle.outside.specs.declared.question.Service.{Service}
use Rattle.outside.specs.declared.question.Service.TheVariants.{Page, Nsv, Schedule, Publish, Save, Inner}
use Rattle.server_host.specs.declared.edition.Edition.{Edition}
use Rattle.tcl_eval.specs.declared.outcome.Outcome.{Outcome}
use Rattle.tcl_eval.specs.declared.outcome.Outcome.TheVariants as outcomes
use Rattle.ictl.specs.Falls.{IsEnd}
use Rattle.ictl.specs.Main.{Progress, Define}
use Rattle.rehearse.specs.Lines.{Line, defined, define_error, define_spent, define_deep}
use Rattle.rehearse.specs.Objects.{Setting, Answers, published_now}
use Rattle.rehearse.specs.declared.objects.Objects.{Objects}
use Rattle.rehearse.specs.Runs.{asking, over, stand_of}

-- A run under way.
pub record Defining : Type 0 where
  pub block : Bytes
  -- the blueprint and the moment on which it runs: those of its beginning
  pub blueprint : Edition
  pub moment : Moment
  -- what its questions were answered so far, in order
  pub answers : List Answer
  -- The epoch that is told where it ends well: the one behind its publication, or, where nothing was published, that of the
  -- blueprint on which it runs. A save is no publication.
  pub epoch : ℕ

abbrev pub begun_block : Setting → Objects → Bytes → Defining
begun_block setting objects block =
    record { block = block; blueprint = published_now objects; moment = setting.moment; answers = []; epoch = objects.blueprint.epoch }

-- how far a run comes with these answers: it is replayed from the start
abbrev pub define_progress : Names → Defining → List Answer → Progress
define_progress natives run answers = Define natives run.blueprint run.block run.moment answers

-- the epoch that is told behind a question to this service, with which the blueprint has that epoch
abbrev pub epoch_behind_question : Service → ℕ → Moment → ℕ
epoch_behind_question Publish before now = now
epoch_behind_question Page before now = before
epoch_behind_question Nsv before now = before
epoch_behind_question Schedule before now = before
epoch_behind_question Save before now = before
epoch_behind_question Inner before now = before

abbrev pub with_reply : Defining → Service → Answer → Objects → Defining
with_reply run service answer after =
    record run { answers = run.answers ++ answer ∷ []; epoch = epoch_behind_question service run.epoch after.blueprint.epoch }

-- What is told of a run that has ended so. Neither a question nor want of memory is an end: the last two lines are told of nothing.
abbrev pub define_line : ℕ → Outcome → Line
define_line epoch (outcomes.Done zero result) = defined epoch
define_line epoch (outcomes.Done (suc code) result) = define_error result
define_line epoch outcomes.Spent = define_spent
define_line epoch outcomes.TooDeep = define_deep
define_line epoch (outcomes.Asks question) = define_spent
define_line epoch outcomes.NoMemory = define_spent

-- A run goes on to its end, and this is told of it: each question is answered by the objects as they are. Want of memory is no end.
pub data Settles (setting : Setting) : Defining → Objects → Line → Objects → Type 0 where
  answered : {run : Defining} {before between after : Objects} {line : Line} (question : Question) (answer : Answer)
      → stand_of (define_progress setting.natives run run.answers) ≡ asking question
      → Answers setting run.moment question before answer between
      → Settles setting (with_reply run question.service answer between) between line after
      → Settles setting run before line after
  ended : {run : Defining} {objects : Objects} {line : Line} (outcome : Outcome)
      → stand_of (define_progress setting.natives run run.answers) ≡ over outcome
      → IsEnd outcome
      → line ≡ define_line run.epoch outcome
      → Settles setting run objects line objects
