-- What a definition run on the opening objects is, of which a worker told.
use Rattle.std.proofs.Common.{◌≡◌, ℕ, zero, suc, List, [], Option, refl, sym, subst, arith}
use Rattle.std.proofs.lemmas.Bool.{ne_eqb}
use Rattle.outside.specs.Paging.{PageMap}
use Rattle.blueprint.specs.States as blueprints
use Rattle.tcl_eval.specs.declared.outcome.Outcome.{Outcome}
use Rattle.tcl_eval.specs.declared.outcome.Outcome.TheVariants as outcomes
use Rattle.ictl.specs.Main.{ends}
use Rattle.shared_state.specs.Cells.{AreOpening}
use Rattle.worker.specs.Turns.{Turn, AreAsked}
use Rattle.worker.specs.Runs.{define_run}
use Rattle.worker.specs.Sessions.{At}
use Rattle.worker.specs.Scripts.{RunsWhole, Evaluates, whole, lost, unbegun, evaluated, epoch_behind}
use Rattle.worker.specs.declared.scripts.Evaled.{Evaled}
use Rattle.worker.specs.declared.scripts.EvalEnd.TheVariants as evals
use Rattle.serve_run.specs.Starting.{AreAlone, DefinesAlone}
use Rattle.serve_run.specs.Stages.{EndsRun}
use Rattle.serve_run.proofs.Alone.{alone}

module _ (names : List (List ℕ)) (held : Option PageMap) (script : List ℕ) (moment : ℕ) where
  defines : (a b : At) (e : Evaled) (outcome : Outcome) (turns : List Turn) → AreOpening names a.passes
      → RunsWhole names held (λ look. define_run names look.before script moment) moment e.turn e.epoch e.answers outcome turns a b
      → DefinesAlone names held script moment a.faults b.faults outcome
  defines a b e outcome turns opens r =
      let is_alone : AreAlone names r.first.look turns = alone names a.passes r.first.mid b.passes r.first.look turns opens r.first.looks r.gains in
      let fresh : r.first.look.before ≡ blueprints.fresh names = is_alone.blueprint.0.1 in
      record {
        look = r.first.look;
        turns = turns;
        answers = e.answers;
        is_look = (r.first.looks.0, r.first.is_told);
        alone = is_alone;
        asked = subst (λ (s : blueprints.State). AreAsked moment (define_run names s script moment) turns e.answers) fresh r.asked;
        pages = r.pages;
        counts = r.page_counts;
        last = r.last;
        inside = r.inside;
        ended = subst (λ (s : blueprints.State). define_run names s script moment e.answers ≡ ends outcome r.last r.inside []) fresh r.ended;
      }

  -- another code than that of a good end is that of an error
  error_told : (code epoch : ℕ) (result : List ℕ) → evaluated (outcomes.Done (suc code) result) epoch ≡ evals.Error result
  error_told code epoch result = rw (ne_eqb (suc code) 0 (λ e. omega (arith, e))) refl

  told : (before after epoch : ℕ) (outcome : Outcome) → DefinesAlone names held script moment before after outcome
      → EndsRun names held script moment before after (evaluated outcome epoch)
  told before after epoch (outcomes.Done zero result) d = (outcomes.Done zero result, d, (result, refl))
  told before after epoch (outcomes.Done (suc code) result) d =
      subst (EndsRun names held script moment before after) (sym (error_told code epoch result)) (outcomes.Done (suc code) result, d, (code, refl))
  told before after epoch (outcomes.Asks question) d = tt
  told before after epoch outcomes.Spent d = d
  told before after epoch outcomes.TooDeep d = d
  told before after epoch outcomes.NoMemory d = tt

  pub ends_run : (a b : At) (e : Evaled) → Evaluates names held script moment a e b → AreOpening names a.passes
      → EndsRun names held script moment a.faults b.faults e.outcome
  ends_run a b e (whole outcome turns r is) opens =
      subst (EndsRun names held script moment a.faults b.faults) (sym is) (told a.faults b.faults (epoch_behind e.epoch turns) outcome (defines a b e outcome turns opens r))
  ends_run a b e (lost r is) opens = subst (EndsRun names held script moment a.faults b.faults) (sym is) tt
  ends_run a b e (unbegun r is) opens = subst (EndsRun names held script moment a.faults b.faults) (sym is) tt
