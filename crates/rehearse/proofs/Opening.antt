-- The machine before the first event, and a worker that was given a connection.
use Rattle.std.proofs.Common.{◌≡◌, ℕ, zero, suc, ◌≤◌, List, [], ◌∷◌, ◌++◌, length, length-append, drop, set, true, false, slice_get, Option, Some, None, refl, sym, subst, ap, ◌∙◌, ◌+◌, arith}
use Rattle.std.proofs.Math.ListN.{length-set}
use Rattle.std.specs.Prelude.{MatchOption}
use Rattle.blueprint.specs.States.{State}
use Rattle.ictl.specs.declared.interp.Interp.{Interp}
use Rattle.rehearse.specs.declared.keeper.Keeper.{Keeper}
use Rattle.rehearse.specs.declared.listing.Listing.{Listing}
use Rattle.rehearse.specs.declared.machine.Machine.{Machine}
use Rattle.rehearse.specs.declared.objects.Objects.{Objects}
use Rattle.rehearse.specs.declared.scheduler.Running.{Running}
use Rattle.rehearse.specs.declared.scheduler.Scheduler as code_scheduler
use Rattle.rehearse.specs.declared.worker.Task.{Task}
use Rattle.rehearse.specs.declared.worker.Task.TheVariants as tasks
use Rattle.rehearse.specs.declared.worker.Worker as code_worker
use Rattle.rehearse.specs.Events.{workers}
use Rattle.txt_core.specs.Limits.{most_workers}
use Rattle.rehearse.specs.Objects.{new_objects}
use Rattle.rehearse.specs.World.{resting, all_idle}
use Rattle.rehearse.specs.Playing.{KeepsOn, IsTaskReady, IsReady, AreReady, HasNew, IsResting, ShowsRunning, ShowsWorkers, ShowsScheduler, IsScriptReady, IsMachineReady, Did}
use Rattle.rehearse.proofs.Moving.{AreIdle, idle_more, opens, ready_same, ready_set}

-- ---- the machine before the first event

drop_all : {A : Type 0} (n : ℕ) (xs : List A) → length xs ≤ n → [] ≡ drop n xs
drop_all zero [] le = refl
drop_all zero (x ∷ xs) le = absurd (omega (arith, le))
drop_all (suc n) [] le = refl
drop_all (suc n) (x ∷ xs) le = drop_all n xs (omega (arith, le))

pub resting_shown : (natives : List (List ℕ)) (code : code_scheduler.Scheduler) → IsResting code → ShowsScheduler natives code resting
resting_shown natives code rest = record {
  waiting = drop_all code.begun code.due rest.1;
  running = subst (λ (r : Option Running). ShowsRunning natives r None) (sym rest.0) tt;
}

-- nothing is kept, and the blueprint has these names
none_kept : (natives : List (List ℕ)) (now : State) (keeper : Keeper) → now.natives ≡ natives → keeper.interp ≡ None → KeepsOn natives now keeper
none_kept natives now keeper same none = subst (λ (o : Option Interp). KeepsOn natives now (record { interp = o })) (sym none) (same, tt)

pub ready_opening : (natives : List (List ℕ)) (machine : Machine) → machine.objects ≡ new_objects natives → machine.definer.keeper.interp ≡ None
    → IsResting machine.scheduler → machine.scheduler.keeper.interp ≡ None
    → AreReady natives machine.objects.blueprint machine.workers.items → length machine.workers.items ≤ most_workers → IsMachineReady natives machine
ready_opening natives machine objects definer rest kept idle few =
    let same : machine.objects.blueprint.natives ≡ natives = ap (λ (o : Objects). o.blueprint.natives) objects in
    record {
      definer = none_kept natives machine.objects.blueprint machine.definer.keeper same definer;
      scheduler = (
        none_kept natives machine.objects.blueprint machine.scheduler.keeper same kept,
        subst (λ (r : Option Running). MatchOption r (Unit {0}) (IsScriptReady natives machine.objects.blueprint)) (sym rest.0) tt,
      );
      workers = idle;
      few = few;
    }

-- ---- a connection

-- a worker that was given a connection is ready as it was
pub ready_new : (natives : List (List ℕ)) (now : State) (taken given : code_worker.Worker) (input : List ℕ) → IsReady natives now taken → HasNew given input → given.keeper ≡ taken.keeper
    → IsReady natives now given
ready_new natives now taken given input ready new kept =
    let none : 0 ≡ new.0.requests = new.2.requests in
    let begun : IsTaskReady natives now given.task = subst (λ (t : Task). IsTaskReady natives now t) (sym new.1) (omega (arith, none)) in
    (subst (λ (k : Keeper). KeepsOn natives now k) (sym kept) ready.0, begun)

pub ready_connected : (natives : List (List ℕ)) (machine after : Machine) (number : ℕ) (given : code_worker.Worker) → IsMachineReady natives machine
    → after.objects ≡ machine.objects → after.definer ≡ machine.definer → after.scheduler ≡ machine.scheduler
    → after.workers.items ≡ set machine.workers.items number given → IsReady natives machine.objects.blueprint given → IsMachineReady natives after
ready_connected natives machine after number given h objects definer scheduler items ready =
    ready_same natives machine after h objects definer scheduler
    (subst (λ (xs : List code_worker.Worker). AreReady natives machine.objects.blueprint xs) (sym items) (ready_set natives machine.objects.blueprint machine.workers.items number given h.workers ready))
    (subst (λ (xs : List code_worker.Worker). length xs ≤ most_workers) (sym items) (subst (λ (n : ℕ). n ≤ most_workers) (sym (length-set machine.workers.items number given)) h.few))

-- where two are found, they are one
pub same_found : (xs : List code_worker.Worker) (i : ℕ) (x y : code_worker.Worker) → slice_get xs i ≡ Some x → slice_get xs i ≡ Some y → x ≡ y
same_found xs i x y found again = let both : Some x ≡ Some y = sym found ∙ again in cc

-- ---- the workers before the first event

pub idle_pushed : (number : ℕ) (xs ys : List code_worker.Worker) (x : code_worker.Worker) → AreIdle 0 xs × (length xs ≡ number)
    → (x.task ≡ tasks.Idle) × (x.keeper.interp ≡ None) × (x.number ≡ number) → ys ≡ xs ++ x ∷ [] → AreIdle 0 ys × (length ys ≡ number + 1)
idle_pushed number xs ys x are is more =
    let here : x.number ≡ number = is.2 in
    subst (λ (zs : List code_worker.Worker). AreIdle 0 zs × (length zs ≡ number + 1)) (sym more)
    (idle_more 0 xs x are.0 is.0 is.1 (omega (arith, are.1, here)), omega (arith, are.1, length-append xs (x ∷ [])))

pub opens_with : (natives : List (List ℕ)) (machine with_these after : Machine) (count : ℕ) (listing : Listing) → machine.started ≡ false → 1 ≤ count → count ≤ 16
    → after ≡ with_these → with_these.started ≡ machine.started → with_these.setting ≡ machine.setting → with_these.objects ≡ machine.objects → with_these.scheduler ≡ machine.scheduler
    → ShowsWorkers natives 0 with_these.workers.items (all_idle count)
    → Did natives true (workers count) machine listing after listing
opens_with natives machine with_these after count listing first some few is started setting objects scheduler shown =
    subst (λ (m : Machine). Did natives true (workers count) machine listing m listing) (sym is)
    (opens natives machine with_these count listing first some few started setting objects scheduler shown)

pub ready_with : (natives : List (List ℕ)) (machine with_these after : Machine) → IsMachineReady natives machine → after ≡ with_these
    → with_these.objects ≡ machine.objects → with_these.definer ≡ machine.definer → with_these.scheduler ≡ machine.scheduler
    → AreReady natives machine.objects.blueprint with_these.workers.items → length with_these.workers.items ≤ most_workers → IsMachineReady natives after
ready_with natives machine with_these after h is objects definer scheduler ready few =
    subst (λ (m : Machine). IsMachineReady natives m) (sym is) (ready_same natives machine with_these h objects definer scheduler ready few)
