-- What definition runs of the program do.
use Rattle.std.proofs.Common.{◌≡◌, ◌≢◌, ℕ, ◌+◌, ◌<◌, List, [], ◌++◌, refl, sym, subst, ap, ◌∙◌, arith}
use Rattle.outside.specs.declared.question.Answer.{Answer}
use Rattle.outside.specs.declared.question.Question.{Question}
use Rattle.outside.specs.declared.question.Service.{Service}
use Rattle.outside.specs.declared.question.Service.TheVariants.{Page, Nsv, Schedule, Publish, Save, Inner}
use Rattle.http_resp.specs.declared.response.Response.{Response}
use Rattle.blueprint.specs.Objects.{Reaches}
use Rattle.blueprint.specs.Order.{reaches_self, reaches_later}
use Rattle.blueprint.specs.States.{State, Allowed}
use Rattle.server_host.specs.declared.edition.Edition.{Edition}
use Rattle.tcl_eval.specs.declared.outcome.Outcome.{Outcome}
use Rattle.ictl.specs.Falls.{StandsAt, Falls, number_of}
use Rattle.ictl.specs.Interps.{Stands}
use Rattle.ictl.specs.Laws.{OneResponse, IsSilent}
use Rattle.ictl.specs.Main.{Define}
use Rattle.ictl.specs.declared.interp.Interp.{Interp}
use Rattle.ictl.specs.declared.next.Next.{Next}
use Rattle.ictl.specs.declared.next.Next.TheVariants.{Asks, Write, Ended, NoMemory}
use Rattle.rehearse.specs.declared.defining.Run.{Run}
use Rattle.rehearse.specs.declared.objects.Objects.{Objects}
use Rattle.rehearse.specs.Defining.{Defining, begun_block, define_progress, epoch_behind_question, with_reply, define_line, answered, ended}
use Rattle.rehearse.specs.Objects.{Setting, Answers, published_now}
use Rattle.rehearse.specs.Playing.{DefineBegan, Resumed, IsUnderWay, RunsFor, DefinesAs, Continues, WentOn, Finished}
use Rattle.rehearse.proofs.Standing.{stands_asking, stands_over, runs_on, on_later, on_same, answers_reach}

-- ---- a run begins

pub begun_defines : (names : List (List ℕ)) (setting : Setting) (objects : Objects) (block : List ℕ) (run : Run) (made : Interp)
    → made.blueprint.value ≡ published_now objects → DefineBegan names block setting.moment run.run.next run.run.interp made
    → run.moment ≡ setting.moment → run.epoch ≡ made.blueprint.value.epoch
    → DefinesAs names run (begun_block setting objects block)
begun_defines names setting objects block run made is begun moment epoch = record {
  blueprint = sym (begun.blueprint ∙ is);
  moment = sym moment;
  epoch = sym (epoch ∙ ap (λ (b : Edition). b.epoch) is);
  runs = (begun.runs.0, subst (λ (b : Edition). Stands names (Define names b block setting.moment) run.run.next begun.runs.0 run.run.interp []) is begun.runs.1);
}

-- ---- a question is answered

-- the epoch that is told is that of the blueprint behind a publication, and else stays
abbrev pub EpochIs : Service → ℕ → ℕ → ℕ → Type 0
EpochIs service before now told = told ≡ epoch_behind_question service before now

pub epoch_published : (service : Service) (before now told : ℕ) → service ≡ Publish → told ≡ now → EpochIs service before now told
epoch_published Publish before now told is e = e
epoch_published Page before now told is e = absurd (cc)
epoch_published Nsv before now told is e = absurd (cc)
epoch_published Schedule before now told is e = absurd (cc)
epoch_published Save before now told is e = absurd (cc)
epoch_published Inner before now told is e = absurd (cc)

pub epoch_stays : (service : Service) (before now told : ℕ) → service ≢ Publish → told ≡ before → EpochIs service before now told
epoch_stays Publish before now told other e = absurd (other refl)
epoch_stays Page before now told other e = e
epoch_stays Nsv before now told other e = e
epoch_stays Schedule before now told other e = e
epoch_stays Save before now told other e = e
epoch_stays Inner before now told other e = e

-- what it stands for, where it came to this
runs_at : (natives : List (List ℕ)) (seen : Defining) (run : Run) (next : Next) → run.run.next ≡ next → DefinesAs natives run seen
    → RunsFor natives (define_progress natives seen) next run.run.interp seen.answers
runs_at natives seen run next at s = subst (λ (n : Next). RunsFor natives (define_progress natives seen) n run.run.interp seen.answers) at s.runs

defines_on : (natives : List (List ℕ)) (run after : Run) (question : Question) (answer : Answer) (objects_after : Objects) (seen : Defining)
    → run.run.next ≡ Asks question → Resumed natives answer after.run.next after.run.interp run.run.interp
    → after.moment ≡ run.moment → EpochIs question.service run.epoch objects_after.blueprint.epoch after.epoch
    → DefinesAs natives run seen → DefinesAs natives after (with_reply seen question.service answer objects_after)
defines_on natives run after question answer objects_after seen at on moment epoch s = record {
  blueprint = s.blueprint ∙ sym on.blueprint;
  moment = s.moment ∙ sym moment;
  epoch = ap (λ (e : ℕ). epoch_behind_question question.service e objects_after.blueprint.epoch) s.epoch ∙ sym epoch;
  runs = runs_on natives (define_progress natives seen) question answer after.run.next on.runs.0 after.run.interp run.run.interp seen.answers on.runs.1 (runs_at natives seen run (Asks question) at s);
}

pub went_on : (setting : Setting) (question : Question) (run after : Run) (objects objects_after : Objects) (answer : Answer)
    → run.run.next ≡ Asks question → Allowed objects.blueprint → IsUnderWay setting.natives objects.blueprint run.run.interp
    → Answers setting run.moment question objects answer objects_after
    → Resumed setting.natives answer after.run.next after.run.interp run.run.interp
    → after.moment ≡ run.moment → EpochIs question.service run.epoch objects_after.blueprint.epoch after.epoch
    → WentOn setting run objects after objects_after
went_on setting question run after objects objects_after answer at ok way given on moment epoch =
    let reaches : Reaches objects.blueprint objects_after.blueprint = answers_reach setting run.moment question objects objects_after answer ok given in
    record {
      goes = λ seen s. (
        with_reply seen question.service answer objects_after,
        defines_on setting.natives run after question answer objects_after seen at on moment epoch s,
        λ line end settles.
            answered {run = seen} {before = objects} {between = objects_after} {after = end} {line = line} question answer
            (stands_asking setting.natives (define_progress setting.natives seen) question run.run.interp seen.answers (runs_at setting.natives seen run (Asks question) at s))
            (subst (λ (m : ℕ). Answers setting m question objects answer objects_after) (sym s.moment) given)
            settles,
      );
      ready = record {
        sound = on.sound way.sound;
        on =
            on_same setting.natives objects_after.blueprint after.run.interp run.run.interp on.blueprint
            (on_later setting.natives objects.blueprint objects_after.blueprint run.run.interp reaches way.on);
      };
      reaches = reaches;
      falls = on.falls;
    }

-- ---- answer after answer

-- how many questions may go out from here on
abbrev pub questions_of : Next → Interp → ℕ
questions_of (Asks question) interp = number_of interp + 1
questions_of (Write response) interp = 0
questions_of (Ended outcome) interp = 0
questions_of NoMemory interp = 0

fewer_questions : (before : ℕ) (next : Next) (after : Interp) → Falls next after before → questions_of next after < before + 1
fewer_questions before (Asks question) after falls = omega (arith, falls)
fewer_questions before (Write response) after falls = omega arith
fewer_questions before (Ended outcome) after falls = omega arith
fewer_questions before NoMemory after falls = omega arith

pub questions_fall : (first next : Next) (question : Question) (before after : Interp) → first ≡ Asks question → Falls next after (number_of before)
    → questions_of next after < questions_of first before
questions_fall first next question before after is falls =
    subst (λ (n : Next). questions_of next after < questions_of n before) (sym is) (fewer_questions (number_of before) next after falls)

-- The run so far: whatever it stood for at first, it stands for one now that goes on from there.
pub record SoFarDefined (setting : Setting) (start : Run) (before : Objects) (run : Run) (objects : Objects) : Type 0 where
  pub goes : (seen : Defining) → DefinesAs setting.natives start seen
      → (later : Defining) × DefinesAs setting.natives run later × Continues setting seen before later objects
  pub ready : IsUnderWay setting.natives objects.blueprint run.run.interp
  pub reaches : Reaches before.blueprint objects.blueprint

pub defined_first : (setting : Setting) (start : Run) (before : Objects) → IsUnderWay setting.natives before.blueprint start.run.interp
    → SoFarDefined setting start before start before
defined_first setting start before way = record {
  goes = λ seen s. (seen, s, λ line end settles. settles);
  ready = way;
  reaches = reaches_self before.blueprint;
}

pub defined_more : (setting : Setting) (start : Run) (before : Objects) (run after : Run) (objects objects_after : Objects)
    → SoFarDefined setting start before run objects → WentOn setting run objects after objects_after
    → SoFarDefined setting start before after objects_after
defined_more setting start before run after objects objects_after so went = record {
  goes = λ seen s.
      let w = so.goes seen s in
      let x = went.goes w.0 w.1 in
      (x.0, x.1, λ line end settles. w.2 line end (x.2 line end settles));
  ready = went.ready;
  reaches = reaches_later before.blueprint objects.blueprint objects_after.blueprint so.reaches went.reaches;
}

pub defined_last : (setting : Setting) (start : Run) (before : Objects) (outcome : Outcome) (run : Run) (objects : Objects)
    → run.run.next ≡ Ended outcome → StandsAt run.run.next run.run.interp
    → SoFarDefined setting start before run objects → Finished setting start before outcome run objects
defined_last setting start before outcome run objects at stands so =
    let end : StandsAt (Ended outcome) run.run.interp = subst (λ (n : Next). StandsAt n run.run.interp) at stands in
    record {
      settles = λ seen s.
          let w = so.goes seen s in
          w.2 (define_line run.epoch outcome) objects
          (ended {run = w.0} {objects = objects} {line = define_line run.epoch outcome} outcome
          (stands_over setting.natives (define_progress setting.natives w.0) outcome run.run.interp w.0.answers (runs_at setting.natives w.0 run (Ended outcome) at w.1))
          end.0
          (ap (λ (e : ℕ). define_line e outcome) (sym w.1.epoch)));
      end_is = at;
      is_end = end.0;
      ready = so.ready;
      reaches = so.reaches;
    }

-- a definition run comes to no response
pub writes_nothing : OneResponse → (setting : Setting) (start : Run) (before : Objects) (reply : Response) (run : Run) (objects : Objects)
    → run.run.next ≡ Write reply → SoFarDefined setting start before run objects → ((seen : Defining) × DefinesAs setting.natives start seen) → ⊥
writes_nothing one setting start before reply run objects at so stood =
    let w = so.goes stood.0 stood.1 in
    let runs = runs_at setting.natives w.0 run (Write reply) at w.1 in
    subst IsSilent (runs.1 []) (one.define setting.natives w.0.blueprint w.0.block w.0.moment (w.0.answers ++ []))

-- what is told of the end that it came to
pub told_end : (setting : Setting) (start : Run) (before : Objects) (outcome other : Outcome) (run : Run) (objects : Objects)
    → run.run.next ≡ Ended other → Finished setting start before outcome run objects → Finished setting start before other run objects
told_end setting start before outcome other run objects at done =
    let both : Ended outcome ≡ Ended other = sym done.end_is ∙ at in
    let same : outcome ≡ other = cc in
    subst (λ (o : Outcome). Finished setting start before o run objects) same done
