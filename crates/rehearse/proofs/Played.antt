-- The events of a file, played one after another.
use Rattle.std.proofs.Common.{◌≡◌, ℕ, ◌+◌, ◌≤◌, List, [], ◌∷◌, ◌++◌, length, refl, sym, subst, ap, ◌∙◌, append_assoc, append-nil, length-append, arith}
use Rattle.std.proofs.lemmas.List.{length-set, length-replicate}
use Rattle.rehearse.specs.Events.{Actor, worker, scheduler, Event, workers, clock, page, define, connect, step, run, line_end, block_of, block_end, spelled, file_of}
use Rattle.txt_core.specs.Limits.{most_workers}
use Rattle.rehearse.specs.Lines.{Line, told, listing_of}
use Rattle.rehearse.specs.Plays.{MayCome, StepsActor, RunsActor, Does, Plays, Lists, no_event, one_event}
use Rattle.rehearse.specs.Playing.{HasFew}
use Rattle.rehearse.specs.Summary.{with_lines}
use Rattle.rehearse.specs.World.{World, idle}
use Rattle.rehearse.specs.declared.tally.Tally.{Tally}
use Rattle.rehearse.specs.Summary.{with_line}
use Rattle.rehearse.proofs.Spelling.{line_words}

-- ---- files

-- an event has a byte
pub spelled_some : (e : Event) → 1 ≤ length (spelled e)
spelled_some e =
    let a : length (spelled e) ≡ length (line_words e ++ line_end) + length (block_end (block_of e)) = length-append (line_words e ++ line_end) (block_end (block_of e)) in
    let b : length (line_words e ++ line_end) ≡ length (line_words e) + length line_end = length-append (line_words e) line_end in
    omega (arith, a, b)

-- a file that is one event longer
pub file_more : (events : List Event) (e : Event) → file_of (events ++ e ∷ []) ≡ file_of events ++ spelled e
file_more [] e = append-nil (spelled e)
file_more (x ∷ events) e =
    ap (λ (t : List ℕ). spelled x ++ t) (file_more events e) ∙ sym (append_assoc (spelled x) (file_of events) (spelled e))

-- events are not more than their bytes
pub events_len : (events : List Event) → length events ≤ length (file_of events)
events_len [] = omega arith
events_len (e ∷ events) =
    let some : 1 ≤ length (spelled e) = spelled_some e in
    let more : length events ≤ length (file_of events) = events_len events in
    omega (arith, some, more, length-append (spelled e) (file_of events))

pub count_more : (events : List Event) (e : Event) → length (events ++ e ∷ []) ≡ length events + 1
count_more events e = length-append events (e ∷ [])

-- ---- there are few workers

moves_few : (before after : World) (n : ℕ) → length after.workers ≡ n → n ≤ most_workers → HasFew after
moves_few before after n same few = omega (arith, same, few)

steps_few : (before after : World) (actor : Actor) (lines : List Line) → HasFew before → StepsActor before actor lines after → HasFew after
steps_few before after (worker number) lines few h =
    let same : length after.workers ≡ length before.workers = ap (λ (w : World). length w.workers) h.after_is ∙ length-set before.workers number h.place.worker in
    omega (arith, same, few)
steps_few before after scheduler lines few h =
    let same : length after.workers ≡ length before.workers = ap (λ (w : World). length w.workers) h.after_is in omega (arith, same, few)

runs_few : (before after : World) (actor : Actor) (lines : List Line) → HasFew before → RunsActor before actor lines after → HasFew after
runs_few before after (worker number) lines few h =
    let same : length after.workers ≡ length before.workers = ap (λ (w : World). length w.workers) h.after_is ∙ length-set before.workers number h.place.worker in
    omega (arith, same, few)
runs_few before after scheduler lines few h =
    let same : length after.workers ≡ length before.workers = ap (λ (w : World). length w.workers) h.after_is in omega (arith, same, few)

does_few : (before after : World) (e : Event) (lines : List Line) → HasFew before → MayCome before e → Does before e lines after → HasFew after
does_few before after (workers count) lines few may h =
    let at : length after.workers ≡ count = ap (λ (w : World). length w.workers) h.1 ∙ length-replicate count idle in
    omega (arith, at, may.2)
does_few before after (clock moment) lines few may h =
    let same : length after.workers ≡ length before.workers = ap (λ (w : World). length w.workers) h.1 in omega (arith, same, few)
does_few before after (page path text) lines few may h =
    let same : length after.workers ≡ length before.workers = ap (λ (w : World). length w.workers) h.1 in omega (arith, same, few)
does_few before after (define block) lines few may h =
    let same : length after.workers ≡ length before.workers = ap (λ (w : World). length w.workers) h.after_is in omega (arith, same, few)
does_few before after (connect number input) lines few may h =
    let same : length after.workers ≡ length before.workers = ap (λ (w : World). length w.workers) h.1 ∙ length-set before.workers number _ in
    omega (arith, same, few)
does_few before after (step actor) lines few may h = steps_few before after actor lines few h
does_few before after (run actor) lines few may h = runs_few before after actor lines few h

pub plays_few : (before after : World) (e : Event) (lines : List Line) → HasFew before → Plays before e lines after → HasFew after
plays_few before after e lines few p =
    let at : length after.workers ≡ length p.done.workers = ap (λ (w : World). length w.workers) p.after_is in
    let there : HasFew p.done = does_few before p.done e lines few p.may_come p.does in
    omega (arith, at, there)

-- ---- listings

-- a listing grows at its end
pub lists_more : {before between after : World} {events : List Event} {lines : List Line} (e : Event) (more : List Line)
    → Lists before events lines between → Plays between e more after → Lists before (events ++ e ∷ []) (lines ++ more) after
lists_more {before = before} {after = after} e more no_event p =
    subst (λ (t : List Line). Lists before (e ∷ []) t after) (append-nil more) (one_event more [] p no_event)
lists_more {before = before} {after = after} e more (one_event {e = f} {events = events} first others q l) p =
    subst (λ (t : List Line). Lists before (f ∷ events ++ e ∷ []) t after) (sym (append_assoc first others more))
    (one_event first (others ++ more) q (lists_more e more l p))

-- and so does what is written of it
pub listing_more : (lines more : List Line) → listing_of (lines ++ more) ≡ listing_of lines ++ listing_of more
listing_more [] more = refl
listing_more (line ∷ lines) more =
    ap (λ (t : List ℕ). told line ++ t) (listing_more lines more) ∙ sym (append_assoc (told line) (listing_of lines) (listing_of more))

-- and what is counted
pub counted_more : (tally : Tally) (lines more : List Line) → with_lines tally (lines ++ more) ≡ with_lines (with_lines tally lines) more
counted_more tally [] more = refl
counted_more tally (line ∷ lines) more = counted_more (with_line tally line) lines more
