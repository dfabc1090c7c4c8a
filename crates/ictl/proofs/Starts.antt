-- What a start, and a response that was written, say of the run behind them.
use Rattle.std.proofs.Common.{◌≡◌, ℕ, ◌+◌, ◌-◌, ◌≤◌, List, [], sym, subst, ap, ◌∙◌, arith, true, None, Option, Result}
use Rattle.std.specs.Prelude.{IfOk, OnErr, MatchResult}
use Rattle.txt_core.specs.Names.{Names}
use Rattle.outside.specs.declared.question.Answer.{Answer}
use Rattle.http_req.specs.declared.request.Request.{Request}
use Rattle.cmd_table.specs.Commands.{Writes}
use Rattle.server_host.specs.declared.edition.Edition.{Edition}
use Rattle.ictl.specs.Main.{Progress, answered, behind, both, cleanups_from, ends, full, traces_from}
use Rattle.ictl.specs.Visits.{visit_of}
use Rattle.ictl.specs.Standing.{inner_written}
use Rattle.ictl.specs.Interps.{Stands, GoesBehind, BehindWithin, behind_of, gives, taken, interp_state, interp_written, ending_of, IsSound, IsWithin}
use Rattle.ictl.specs.Falls.{GoesOut}
use Rattle.ictl.specs.declared.inner.InnerRun.{InnerRun}
use Rattle.ictl.specs.declared.next.Next.{Next}
use Rattle.ictl.specs.declared.next.Next.TheVariants.{Ended, NoMemory}
use Rattle.ictl.specs.declared.task.Task.TheVariants.{Over}
use Rattle.ictl.specs.declared.interp.Interp.{Interp}
use Rattle.ictl.proofs.Beginnings.{behind_begins}
use Rattle.ictl.proofs.Interpreters.{answered_so, ok_both, stands_out}
use Rattle.ictl.proofs.Overs.{over_gives}
use Rattle.ictl.proofs.Resets.{run_from, defined_from}
use Rattle.ictl.proofs.Settlings.{none_taken}
use Rattle.ictl.proofs.Withins.{either, err_same, defined_within, within_from, out_within}

-- a run that was begun with a spare blueprint, by what its start answered
pub started : {E : Type 0} (names : Names) (came : Result Next E) (next : Next) (run : Edition → List Answer → Progress) (new with_spare old : Interp) (after before : ℕ)
    → with_spare ≡ record old { spare = with_spare.spare } → MatchResult came (λ n. next ≡ n) (λ e. next ≡ NoMemory)
    → IfOk came (λ n. (further : List Answer) → run with_spare.blueprint.value further ≡ gives names n (taken names after before new with_spare) new further)
    → Stands names (run old.blueprint.value) next (taken names after before new old) new []
started names came next run new with_spare old after before rest same stands =
    run_from names next run new with_spare old after before rest
    (answered_so came next (λ (n : Next). (further : List Answer) → run with_spare.blueprint.value further ≡ gives names n (taken names after before new with_spare) new further) same stands)

-- the same of a definition run
pub defined : {E : Type 0} (names : Names) (came : Result Next E) (next : Next) (run : Edition → List Answer → Progress) (new with_spare old : Interp)
    → with_spare ≡ record old { spare = with_spare.spare } → MatchResult came (λ n. next ≡ n) (λ e. next ≡ NoMemory)
    → IfOk came (λ n. (further : List Answer) → run with_spare.blueprint.value further ≡ gives names n 0 new further)
    → Stands names (run old.blueprint.value) next 0 new []
defined names came next run new with_spare old rest same stands =
    defined_from names next run new with_spare old rest
    (answered_so came next (λ (n : Next). (further : List Answer) → run with_spare.blueprint.value further ≡ gives names n 0 new further) same stands)

-- and it is within its run
pub defined_most : {E : Type 0} (names : Names) (came : Result Next E) (run : Edition → List Answer → Progress) (new with_spare old : Interp) (first last : ℕ)
    → with_spare ≡ record old { spare = with_spare.spare } → last + Writes with_spare.settling.run.engine.made ≡ first + Writes new.settling.run.engine.made
    → OnErr came (IsWithin 0 first last new (run with_spare.blueprint.value []))
    → IfOk came (λ n. (further : List Answer) → run with_spare.blueprint.value further ≡ gives names n 0 new further) → IfOk came (λ n. GoesOut n new)
    → IsWithin 0 first last new (run old.blueprint.value [])
defined_most names came run new with_spare old first last rest counted most stands out =
    subst (λ (i : Interp). IsWithin 0 first last new (run i.blueprint.value [])) rest
    (either came (IsWithin 0 first last new (run with_spare.blueprint.value [])) most
    (ok_both came (λ (n : Next). (further : List Answer) → run with_spare.blueprint.value further ≡ gives names n 0 new further) (λ (n : Next). GoesOut n new) (λ n. IsWithin 0 first last new (run with_spare.blueprint.value []))
    (λ n is goes. defined_within names n with_spare new first last (run with_spare.blueprint.value []) counted goes (is [])) stands out))

-- what runs behind a response that was written whole is within its run
pub written_most : {E : Type 0} (names : Names) (came : Result Next E) (old new : Interp) (first last : ℕ)
    → old.settling.inner ≡ None → first + interp_written names new ≤ last + interp_written names old
    → OnErr came (BehindWithin names true last first new old)
    → IfOk came (λ n. GoesBehind names true n last first new old)
    → IfOk came (λ n. GoesOut n new)
    → BehindWithin names true last first new old
written_most names came old new first last none counted most stands out = λ request sound visit inside.
    let run : Progress = behind names old.blueprint.value old.moment true request (ending_of old.task) (interp_state old) inside [] in
    let empty : inner_written names old.blueprint.value old.settling.inner ≡ 0 = ap (λ (i : Option InnerRun). inner_written names old.blueprint.value i) none in
    either came (IsWithin (inside + Writes (interp_state old).made) first last new run) (err_same came _ _ (λ h. h request sound visit inside) most)
    (ok_both came _ _ (λ n. IsWithin (inside + Writes (interp_state old).made) first last new run)
    (λ n is goes. within_from (inside + Writes (interp_state old).made) (inside + interp_written names old) first first last new run (omega (arith, empty))
    (out_within names n old new inside first last run counted goes (sym (stands_out names n (behind_of names old true request inside) (inside + taken names last first new old) new goes (is request sound visit inside) []))))
    stands out)

-- where nothing comes behind a response that was written whole, the run ends as it did up to it
pub nothing_behind : (names : Names) (next : Next) (old new : Interp) (request : Request) (inside steps : ℕ) (further : List Answer)
    → next ≡ Ended (both (ending_of old.task) answered) → new ≡ record old { task = Over }
    → IsSound names old → old.visit ≡ visit_of names old.blueprint.value request → old.visit.trace ≡ [] → old.cleanups ≡ []
    → behind names old.blueprint.value old.moment true request (ending_of old.task) (interp_state old) inside further
    ≡ gives names next (inside + taken names steps steps new old) new further
nothing_behind names next old new request inside steps further is now sound visit trace cleanups =
    sym (behind_begins names old request (ending_of old.task) inside further sound visit)
    ∙ ap (λ (l : List (List (List ℕ))). traces_from names old.blueprint.value old.moment l old.cleanups (ending_of old.task) (interp_state old) (full inside) further) trace
    ∙ ap (λ (l : List (List ℕ)). cleanups_from names old.blueprint.value old.moment l (ending_of old.task) (interp_state old) (full inside) further) cleanups
    ∙ sym (over_gives names next (both (ending_of old.task) answered) old new (inside + taken names steps steps new old) further is now
    ∙ ap (λ (i : Interp). ends (both (ending_of old.task) answered) (interp_state old) (inside + ((steps + interp_written names old) - (steps + interp_written names i))) further) now
    ∙ ap (λ (n : ℕ). ends (both (ending_of old.task) answered) (interp_state old) n further) (none_taken inside (steps + interp_written names old)))
