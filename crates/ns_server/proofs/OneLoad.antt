-- The file of a load holds the events of a load, and nothing else.
use Rattle.std.proofs.Common.{◌≡◌, ◌<◌, ◌≤◌, ℕ, zero, suc, ◌+◌, ◌*◌, ◌%◌, List, [], ◌∷◌, ◌++◌, Bool, true, false, length, decimal, codes, Option, Some, None, refl, sym, ap, ◌∙◌, subst, arith, append_assoc, append-nil, length-append, length-set, zero-add}
use Rattle.std.specs.Prelude.{slice_get, slice_set}
use Rattle.std.proofs.lemmas.Fmt.{decimal_digit}
use Rattle.std.proofs.lemmas.List.{get_or-set_same}
use Rattle.std.proofs.lemmas.Option.{slice_get-get_or}
use Rattle.load_gen.specs.Load.{next, choice, target_of, get_of, block, round_of, round, rounds, load_file, most_requests}
use Rattle.load_gen.specs.Load as load
use Rattle.load_gen.proofs.Rounds.{get_short, target_short, file_short}
use Rattle.rehearse.specs.Events.{Actor, worker, scheduler, Event, workers, clock, page, define, connect, step, run, line_end, line_of, words_of, block_of, block_end, spelled, file_of, most_file, most_block, most_input}
use Rattle.txt_core.specs.Limits.{most_workers}
use Rattle.rehearse.specs.Files.{ComesNext, End, whole, bad, EndsAs, Opens, Holds}
use Rattle.rehearse.specs.Lines.{Line}
use Rattle.rehearse.specs.Objects.{Setting}
use Rattle.rehearse.specs.Plays.{MayCome, Does, Plays, Moves, Lists, no_event, one_event}
use Rattle.rehearse.specs.Steps.{Position, Step, RunsUntilIdle, last, more}
use Rattle.rehearse.specs.World.{World, Worker, idle, connected, new_connection, opening, as_started}
use Rattle.ns_server.specs.Loads.{each, round_events, rounds_events, load_events}
use Rattle.ns_server.proofs.EventSpelling.{IsOfLoad, is_small, same_event}

-- ---- the file as text

file_of_both : (d e : List Event) → file_of (d ++ e) ≡ file_of d ++ file_of e
file_of_both [] e = refl
file_of_both (x ∷ d) e = ap (λ (t : List ℕ). spelled x ++ t) (file_of_both d e) ∙ sym (append_assoc (spelled x) (file_of d) (file_of e))

front_parts : (w d n b rest : List ℕ) → (w ++ d ++ n ++ b ++ n) ++ rest ≡ w ++ (d ++ (n ++ (b ++ (n ++ rest))))
front_parts w d n b rest = simp append_assoc

define_parts : (w d n b rest : List ℕ) → (((w ++ d) ++ n) ++ (b ++ n)) ++ rest ≡ w ++ (d ++ (n ++ (b ++ (n ++ rest))))
define_parts w d n b rest = simp append_assoc

front_text : (d b rest : List ℕ) → (codes "workers 4\ndefine " ++ d ++ codes "\n" ++ b ++ codes "\n") ++ rest
    ≡ codes "workers 4\n" ++ ((((codes "define" ++ (32 ∷ d)) ++ line_end) ++ (b ++ line_end)) ++ rest)
front_text d b rest =
    front_parts (codes "workers 4\ndefine ") d line_end b rest
    ∙ ap (λ (t : List ℕ). codes "workers 4\n" ++ t) (sym (define_parts (codes "define ") d line_end b rest))

workers_text : spelled (workers 4) ≡ codes "workers 4\n"
workers_text = ap (λ (d : List ℕ). ((codes "workers" ++ (32 ∷ d)) ++ line_end) ++ []) (decimal_digit 4 (omega arith))

step_text : (n : ℕ) → n < 10 → spelled (step (worker n)) ≡ codes "step " ++ ((48 + n) ∷ line_end)
step_text n h = ap (λ (d : List ℕ). ((codes "step" ++ (32 ∷ d)) ++ line_end) ++ []) (decimal_digit n h)

run_text : (n : ℕ) → n < 10 → spelled (run (worker n)) ≡ codes "run " ++ ((48 + n) ∷ line_end)
run_text n h = ap (λ (d : List ℕ). ((codes "run" ++ (32 ∷ d)) ++ line_end) ++ []) (decimal_digit n h)

each_text : (does : ℕ → Event) (text : ℕ → List ℕ) → ((n : ℕ) → n < 10 → spelled (does n) ≡ text n) → file_of (each does) ≡ text 0 ++ (text 1 ++ (text 2 ++ (text 3 ++ [])))
each_text does text h =
    ap (λ (t : List ℕ). t ++ (spelled (does 1) ++ (spelled (does 2) ++ (spelled (does 3) ++ [])))) (h 0 (omega arith))
    ∙ ap (λ (t : List ℕ). text 0 ++ (t ++ (spelled (does 2) ++ (spelled (does 3) ++ [])))) (h 1 (omega arith))
    ∙ ap (λ (t : List ℕ). text 0 ++ (text 1 ++ (t ++ (spelled (does 3) ++ [])))) (h 2 (omega arith))
    ∙ ap (λ (t : List ℕ). text 0 ++ (text 1 ++ (text 2 ++ (t ++ [])))) (h 3 (omega arith))

steps_text : file_of (each (λ n. step (worker n))) ≡ codes "step 0\nstep 1\nstep 2\nstep 3\n"
steps_text = each_text (λ n. step (worker n)) (λ n. codes "step " ++ ((48 + n) ∷ line_end)) step_text

back_text : file_of (each (λ n. run (worker n))) ≡ load.back
back_text = each_text (λ n. run (worker n)) (λ n. codes "run " ++ ((48 + n) ∷ line_end)) run_text

lines_parts : (r d n c s l input steps : List ℕ) → r ++ d ++ n ++ c ++ d ++ s ++ l ++ n ++ input ++ n ++ steps
    ≡ r ++ (d ++ (n ++ (c ++ (d ++ (s ++ (l ++ (n ++ (input ++ (n ++ steps)))))))))
lines_parts r d n c s l input steps = simp append_assoc

events_parts : (r d n c s l input steps : List ℕ) → (((r ++ d) ++ n) ++ []) ++ ((((c ++ (d ++ (s ++ l))) ++ n) ++ (input ++ n)) ++ steps)
    ≡ r ++ (d ++ (n ++ (c ++ (d ++ (s ++ (l ++ (n ++ (input ++ (n ++ steps)))))))))
events_parts r d n c s l input steps = simp append_assoc

-- the lines of a connection, by the digits of its worker and of its length
connection_text : (d l input steps : List ℕ) →
    codes "run " ++ d ++ codes "\n" ++ codes "connect " ++ d ++ codes " " ++ l ++ codes "\n" ++ input ++ codes "\n" ++ steps
    ≡ (((codes "run" ++ (32 ∷ d)) ++ line_end) ++ []) ++ ((((codes "connect" ++ (32 ∷ (d ++ (32 ∷ l)))) ++ line_end) ++ (input ++ line_end)) ++ steps)
connection_text d l input steps =
    lines_parts (codes "run ") d line_end (codes "connect ") (codes " ") l input steps
    ∙ sym (events_parts (codes "run ") d line_end (codes "connect ") (codes " ") l input steps)

round_text : (x k : ℕ) → round x k ≡ file_of (round_events x k)
round_text x k =
    let input : List ℕ = get_of (target_of (choice x) k) in
    connection_text (decimal (load.worker x)) (decimal (length input)) input (codes "step 0\nstep 1\nstep 2\nstep 3\n")
    ∙ ap (λ (t : List ℕ). spelled (run (worker (load.worker x))) ++ (spelled (connect (load.worker x) input) ++ t)) (sym steps_text)

rounds_text : (m k x : ℕ) → rounds m k x ≡ file_of (rounds_events m k x)
rounds_text zero k x = refl
rounds_text (suc m) k x =
    ap (λ (t : List ℕ). round (next x) k ++ t) (rounds_text m (k + 1) (next x))
    ∙ ap (λ (t : List ℕ). t ++ file_of (rounds_events m (k + 1) (next x))) (round_text (next x) k)
    ∙ sym (file_of_both (round_events (next x) k) (rounds_events m (k + 1) (next x)))

load_text : (n : ℕ) → load_file n ≡ file_of (load_events n)
load_text n =
    let rest : List ℕ = rounds n 1 n ++ load.back in
    let others : rest ≡ file_of (rounds_events n 1 n ++ each (λ n. run (worker n))) =
    ap (λ (t : List ℕ). t ++ load.back) (rounds_text n 1 n)
    ∙ ap (λ (t : List ℕ). file_of (rounds_events n 1 n) ++ t) (sym back_text)
    ∙ sym (file_of_both (rounds_events n 1 n) (each (λ n. run (worker n))))
    in
    append_assoc load.front (rounds n 1 n) load.back
    ∙ front_text (decimal (length block)) block rest
    ∙ ap (λ (t : List ℕ). t ++ (spelled (define block) ++ rest)) (sym workers_text)
    ∙ ap (λ (t : List ℕ). spelled (workers 4) ++ (spelled (define block) ++ t)) others

-- ---- what may come

-- Each of these events is one of a load and may come, whatever comes of those before it.
abbrev Follows : World → List Event → Type 0
Follows world [] = Unit {0}
Follows world (e ∷ events) =
    (length world.workers ≤ most_workers) × IsOfLoad e × MayCome world e
    × ((lines : List Line) (after : World) → Plays world e lines after → Follows after events)

-- there are four workers
abbrev HasFour : World → Type 0
HasFour world = length world.workers ≡ 4

abbrev IsIdle : World → ℕ → Type 0
IsIdle world number = slice_get world.workers number ≡ Some idle

abbrev Onward : List Event → Type 0
Onward events = (world : World) → HasFour world → Follows world events

started_four : (done after : World) → after ≡ as_started done → HasFour done → HasFour after
started_four done after is four = ap (λ (w : World). length w.workers) is ∙ four

moves_four : (Goes : ℕ → Setting → Position → List Line → Position → Type 0) (world done : World) (number : ℕ) (lines : List Line) → Moves Goes world number lines done → HasFour world → HasFour done
moves_four Goes world done number lines moves four =
    ap (λ (w : World). length w.workers) moves.after_is ∙ length-set world.workers number moves.place.worker ∙ four

set_there : {A : Type 0} (xs : List A) (i : ℕ) (x : A) → i < length xs → slice_get (slice_set xs i x) i ≡ Some x
set_there {A = A} xs i x h =
    let there : i < length (slice_set xs i x) = omega (arith, length-set xs i x) in
    slice_get-get_or (slice_set xs i x) i x there ∙ ap (λ (y : A). Some y) (get_or-set_same xs i x x h)

runs_idle : {number : ℕ} {setting : Setting} {before after : Position} {lines : List Line} → RunsUntilIdle number setting before lines after → after.worker ≡ idle
runs_idle (last one idles) = idles
runs_idle (more lines others one busy runs) = runs_idle runs

run_idles : (world done after : World) (number : ℕ) (lines : List Line) → number < length world.workers → Moves RunsUntilIdle world number lines done → after ≡ as_started done → IsIdle after number
run_idles world done after number lines there moves is =
    ap (λ (w : World). slice_get w.workers number) is
    ∙ ap (λ (w : World). slice_get w.workers number) moves.after_is
    ∙ set_there world.workers number moves.place.worker there
    ∙ ap (λ (w : Worker). Some w) (runs_idle moves.goes)

step_follows : (number : ℕ) (events : List Event) → number < 4 → Onward events → Onward (step (worker number) ∷ events)
step_follows number events small onward world four = (
  omega (arith, four),
  omega (arith, small),
  omega (arith, four, small),
  λ lines after plays. onward after (started_four plays.done after plays.after_is (moves_four Step world plays.done number lines plays.does four)),
)

run_follows : (number : ℕ) (events : List Event) → number < 4 → ((world : World) → HasFour world → IsIdle world number → Follows world events) → Onward (run (worker number) ∷ events)
run_follows number events small onward world four = (
  omega (arith, four),
  omega (arith, small),
  omega (arith, four, small),
  λ lines after plays. onward after
      (started_four plays.done after plays.after_is (moves_four RunsUntilIdle world plays.done number lines plays.does four))
      (run_idles world plays.done after number lines (omega (arith, four, small)) plays.does plays.after_is),
)

connect_follows : (number : ℕ) (input : List ℕ) (events : List Event) → number < 4 → length input ≤ 44 → Onward events
    → (world : World) → HasFour world → IsIdle world number → Follows world (connect number input ∷ events)
connect_follows number input events small short onward world four rests = (
  omega (arith, four),
  (omega (arith, small), omega (arith, short)),
  (rests, omega (arith, short)),
  λ lines after plays. onward after
      (started_four plays.done after plays.after_is (ap (λ (w : World). length w.workers) plays.does.1 ∙ length-set world.workers number (connected (new_connection input)) ∙ four)),
)

define_follows : (text : List ℕ) (events : List Event) → length text ≤ most_block → Onward events → Onward (define text ∷ events)
define_follows text events short onward world four = (
  omega (arith, four),
  short,
  short,
  λ lines after plays. onward after (started_four plays.done after plays.after_is (ap (λ (w : World). length w.workers) plays.does.after_is ∙ four)),
)

round_follows : (x k : ℕ) (events : List Event) → k < 1000000 → Onward events → Onward (round_events x k ++ events)
round_follows x k events h onward =
    let steps_3 : List Event = step (worker 3) ∷ events in
    let steps_2 : List Event = step (worker 2) ∷ steps_3 in
    let steps_1 : List Event = step (worker 1) ∷ steps_2 in
    let steps_0 : List Event = step (worker 0) ∷ steps_1 in
    let input : List ℕ = get_of (target_of (choice x) k) in
    run_follows (x % 4) (connect (x % 4) input ∷ steps_0) (omega arith)
    (connect_follows (x % 4) input steps_0 (omega arith) (get_short (target_of (choice x) k) (target_short (choice x) k h))
    (step_follows 0 steps_1 (omega arith) (step_follows 1 steps_2 (omega arith) (step_follows 2 steps_3 (omega arith) (step_follows 3 events (omega arith) onward)))))

rounds_follow : (m k x : ℕ) (events : List Event) → k + m ≤ 1000000 → Onward events → Onward (rounds_events m k x ++ events)
rounds_follow zero k x events h onward = onward
rounds_follow (suc m) k x events h onward =
    round_follows (next x) k (rounds_events m (k + 1) (next x) ++ events) (omega (arith, h)) (rounds_follow m (k + 1) (next x) events (omega (arith, h)) onward)

end_follows : (number : ℕ) (events : List Event) → number < 4 → Onward events → Onward (run (worker number) ∷ events)
end_follows number events small onward = run_follows number events small (λ world four rests. onward world four)

ends_follow : Onward (each (λ number. run (worker number)))
ends_follow =
    let last_2 : List Event = run (worker 3) ∷ [] in
    let last_1 : List Event = run (worker 2) ∷ last_2 in
    let last_0 : List Event = run (worker 1) ∷ last_1 in
    end_follows 0 last_0 (omega arith) (end_follows 1 last_1 (omega arith) (end_follows 2 last_2 (omega arith) (end_follows 3 [] (omega arith) (λ world four. tt))))

load_follows : (natives : List (List ℕ)) (n : ℕ) → n ≤ most_requests → Follows (opening natives) (load_events n)
load_follows natives n h = (
  omega arith,
  omega arith,
  (refl, omega arith, omega arith),
  λ lines after plays. define_follows block (rounds_events n 1 n ++ each (λ number. run (worker number))) (omega arith)
      (rounds_follow n 1 n (each (λ number. run (worker number))) (omega (arith, h)) ends_follow)
      after (started_four plays.done after plays.after_is (ap (λ (w : World). length w.workers) plays.does.1)),
)

-- ---- one reading

abbrev Stops : End → World → ℕ → List ℕ → Type 0
Stops whole world place left = left ≡ []
Stops (bad event) world place left = ¬ (left ≡ []) × ((e : Event) → ¬ (ComesNext world place left e))

stops_as : (end : End) (world : World) (events : List Event) (left : List ℕ) → EndsAs end world events left → Stops end world (0 + length (file_of events)) left
stops_as whole world events left h = h
stops_as (bad event) world events left h = (h.1, subst (λ (n : ℕ). (e : Event) → ¬ (ComesNext world n left e)) (sym (zero-add (length (file_of events)))) h.2)

spelled_some : (e : Event) → 1 ≤ length (spelled e)
spelled_some e = has_newline (words_of e) (block_end (block_of e))
  where
    has_newline : (words : List (List ℕ)) (behind : List ℕ) → 1 ≤ length (line_of words ++ behind)
    has_newline words behind = simp length-append (omega arith)

no_more : (e : Event) (events : List Event) (left : List ℕ) → [] ≡ (spelled e ++ file_of events) ++ left → ⊥
no_more e events left is =
    let n : 0 ≡ length ((spelled e ++ file_of events) ++ left) = ap (λ (t : List ℕ). length t) is in
    omega (arith, n, length-append (spelled e ++ file_of events) left, length-append (spelled e) (file_of events), spelled_some e)

no_stop : (end : End) (world : World) (e : Event) (place : ℕ) (rest left : List ℕ) → MayCome world e → spelled e ++ rest ≡ left
    → place + length (spelled e) ≤ most_file → Stops end world place left → ⊥
no_stop whole world e place rest left may is fits stops =
    let n : length (spelled e ++ rest) ≡ 0 = ap (λ (t : List ℕ). length t) (is ∙ stops) in
    omega (arith, n, length-append (spelled e) rest, spelled_some e)
no_stop (bad event) world e place rest left may is fits stops =
    stops.1 e (record { rest = rest; spelled_here = sym is; in_time = fits; may_come = may })

one_reading : (expected : List Event) {world after : World} {events : List Event} {lines : List Line} (place : ℕ) (left : List ℕ) (end : End)
    → Follows world expected → Lists world events lines after → file_of expected ≡ file_of events ++ left
    → place + length (file_of expected) ≤ most_file → Stops end after (place + length (file_of events)) left → (events ≡ expected) × (end ≡ whole)
one_reading [] place left whole follows no_event is fits stops = (refl, refl)
one_reading [] place left (bad event) follows no_event is fits stops = absurd (stops.0 (sym is))
one_reading [] place left end follows (one_event {e = g} {events = gs} lines others plays lists) is fits stops = absurd (no_more g gs left is)
one_reading (e ∷ es) {world = world} place left end follows no_event is fits stops =
    absurd (no_stop end world e (place + 0) (file_of es) left follows.2 is (omega (arith, fits, length-append (spelled e) (file_of es))) stops)
one_reading (e ∷ es) {world = world} {after = after} place left end follows (one_event {between = between} {e = g} {events = gs} lines others plays lists) is fits stops =
    let same = same_event e g (file_of es) (file_of gs ++ left) follows.1 (is_small world g follows.0 plays.may_come) (is ∙ append_assoc (spelled g) (file_of gs) left) in
    let played : Plays world e lines between = subst (λ (x : Event). Plays world x lines between) (sym same.0) plays in
    let long : length (spelled e) ≡ length (spelled g) = ap (λ (x : Event). length (spelled x)) same.0 in
    let at : place + length (spelled g ++ file_of gs) ≡ (place + length (spelled e)) + length (file_of gs) = omega (arith, long, length-append (spelled g) (file_of gs)) in
    let rest = one_reading es (place + length (spelled e)) left end (follows.3 lines between played) lists same.1
    (omega (arith, fits, length-append (spelled e) (file_of es))) (subst (λ (p : ℕ). Stops end after p left) at stops) in
    (ap (λ (x : Event). x ∷ gs) (sym same.0) ∙ ap (λ (xs : List Event). e ∷ xs) rest.0, rest.1)

-- where the file of a load is read as events, these are the events of a load, and the file ends behind them
pub load_holds : (natives : List (List ℕ)) (n : ℕ) (file : List ℕ) (events : List Event) (lines : List Line) (end : End) → n ≤ most_requests → file ≡ load_file n
    → Holds natives file events lines end → (events ≡ load_events n) × (end ≡ whole)
load_holds natives n file events lines end h is holds =
    let fits : length (file_of (load_events n)) ≤ most_file = omega (arith, file_short n h, ap (λ (t : List ℕ). length t) (load_text n)) in
    one_reading (load_events n) 0 holds.left end (load_follows natives n h) holds.opens.plays (sym (load_text n) ∙ sym is ∙ holds.opens.text_is)
    (omega (arith, fits)) (stops_as end holds.world events holds.left holds.ends)
