-- Of the events that may come, one of a load is known by how it is spelled.
use Rattle.std.proofs.Common.{◌≡◌, ◌<◌, ◌≤◌, ℕ, zero, suc, ◌+◌, ◌^◌, List, [], ◌∷◌, ◌++◌, Bool, true, false, length, get_or, decimal, codes, refl, sym, ap, ◌∙◌, subst, arith, append_assoc}
use Rattle.std.specs.List.{list_any}
use Rattle.std.proofs.lemmas.Fmt.{decimal_digit, decimal_injective}
use Rattle.std.proofs.lemmas.Option.{slice_get_within}
use Rattle.txt_core.specs.Limits.{last_moment, most_workers}
use Rattle.rehearse.specs.Events.{Actor, worker, scheduler, actor_word, Event, workers, clock, page, define, connect, step, run, line_end, line_of, block_end, words_of, block_of, spelled, most_page, most_block, most_input}
use Rattle.rehearse.specs.Plays.{is_break, IsPath, MayCome}
use Rattle.rehearse.specs.World.{World, idle}
use Rattle.ns_server.proofs.WordLines.{IsUnbroken, AreUnbroken, HasWord, decimal_unbroken, lines_same, same_word, blocks_same}

-- an actor whose number is small
abbrev IsSmallActor : Actor → Type 0
IsSmallActor (worker number) = number < most_workers
IsSmallActor scheduler = Unit {0}

-- what bounds an event, whatever world it comes in, where there are at most 16 workers
abbrev pub IsSmall : Event → Type 0
IsSmall (workers count) = count ≤ most_workers
IsSmall (clock moment) = moment ≤ last_moment
IsSmall (page path text) = IsPath path × (length text ≤ most_page)
IsSmall (define block) = length block ≤ most_block
IsSmall (connect number input) = (number < most_workers) × (length input ≤ most_input)
IsSmall (step actor) = IsSmallActor actor
IsSmall (run actor) = IsSmallActor actor

small_actor : (world : World) (actor : Actor) → length world.workers ≤ most_workers → MayCome world (step actor) → IsSmallActor actor
small_actor world (worker number) few may = omega (arith, may)
small_actor world scheduler few may = tt

pub is_small : (world : World) (e : Event) → length world.workers ≤ most_workers → MayCome world e → IsSmall e
is_small world (workers count) few may = may.2
is_small world (clock moment) few may = may
is_small world (page path text) few may = may
is_small world (define block) few may = may
is_small world (connect number input) few may = let there : number < length world.workers = slice_get_within world.workers number idle may.0 in (omega arith, may.1)
is_small world (step actor) few may = small_actor world actor few may
is_small world (run actor) few may = small_actor world actor few may

-- the events of a load
abbrev pub IsOfLoad : Event → Type 0
IsOfLoad (workers count) = count < 10
IsOfLoad (clock moment) = ⊥
IsOfLoad (page path text) = ⊥
IsOfLoad (define block) = length block ≤ most_block
IsOfLoad (connect number input) = (number < 10) × (length input ≤ most_input)
IsOfLoad (step (worker number)) = number < 10
IsOfLoad (step scheduler) = ⊥
IsOfLoad (run (worker number)) = number < 10
IsOfLoad (run scheduler) = ⊥

load_is_small : (e : Event) → IsOfLoad e → IsSmall e
load_is_small (workers count) h = omega (arith, h)
load_is_small (clock moment) h = absurd h
load_is_small (page path text) h = absurd h
load_is_small (define block) h = h
load_is_small (connect number input) h = (omega (arith, h.0), h.1)
load_is_small (step (worker number)) h = omega (arith, h)
load_is_small (step scheduler) h = absurd h
load_is_small (run (worker number)) h = omega (arith, h)
load_is_small (run scheduler) h = absurd h

-- ---- the words of a line

unbroken_actor : (actor : Actor) → IsSmallActor actor → IsUnbroken (actor_word actor)
unbroken_actor (worker number) h = decimal_unbroken number (omega (arith, h))
unbroken_actor scheduler h = refl

unbroken_path : (path : List ℕ) → IsPath path → IsUnbroken path
unbroken_path path h = ap (λ (p : List ℕ). list_any is_break p) h.1 ∙ h.2

unbroken_words : (e : Event) → IsSmall e → AreUnbroken (words_of e)
unbroken_words (workers count) h = (refl, (decimal_unbroken count (omega (arith, h)), tt))
unbroken_words (clock moment) h = (refl, (decimal_unbroken moment (omega (arith, h)), tt))
unbroken_words (page path text) h = (refl, (unbroken_path path h.0, (decimal_unbroken (length text) (omega (arith, h.1)), tt)))
unbroken_words (define block) h = (refl, (decimal_unbroken (length block) (omega (arith, h)), tt))
unbroken_words (connect number input) h = (refl, (decimal_unbroken number (omega (arith, h.0)), (decimal_unbroken (length input) (omega (arith, h.1)), tt)))
unbroken_words (step actor) h = (refl, (unbroken_actor actor h, tt))
unbroken_words (run actor) h = (refl, (unbroken_actor actor h, tt))

has_word : (e : Event) → HasWord (words_of e)
has_word (workers count) = tt
has_word (clock moment) = tt
has_word (page path text) = tt
has_word (define block) = tt
has_word (connect number input) = tt
has_word (step actor) = tt
has_word (run actor) = tt

-- the fourth letter of the first word tells the kind of an event
abbrev letter : List (List ℕ) → ℕ
letter words = get_or (get_or words 0 []) 3 0

abbrev AreSame : Event → Event → List ℕ → List ℕ → Type 0
AreSame e f r s = (e ≡ f) × (r ≡ s)

same_number : (m n place : ℕ) (ws vs : List (List ℕ)) → m < 2 ^ 64 → n < 2 ^ 64 → decimal m ≡ get_or ws place [] → get_or vs place [] ≡ decimal n → ws ≡ vs → m ≡ n
same_number m n place ws vs h k a b e = decimal_injective m n h k (a ∙ same_word place ws vs e ∙ b)

no_letter : (number : ℕ) → number < 10 → decimal number ≡ codes "s" → ⊥
no_letter number h e =
    let d : (48 + number) ∷ [] ≡ codes "s" = sym (decimal_digit number h) ∙ e in
    let n : 48 + number ≡ 115 = ap (λ (w : List ℕ). get_or w 0 0) d in
    omega arith

by_words : (e f : Event) (r s : List ℕ) → IsOfLoad e → IsSmall f → words_of e ≡ words_of f → block_end (block_of e) ++ r ≡ block_end (block_of f) ++ s → AreSame e f r s
by_words (workers count) (workers other) r s h k e t = (ap (λ (n : ℕ). workers n) (same_number count other 1 (words_of (workers count)) (words_of (workers other)) (omega (arith, h)) (omega (arith, k)) refl refl e), t)
by_words (workers count) f r s h k e t = let l : 107 ≡ letter (words_of f) = ap letter e in absurd (omega arith)
by_words (clock moment) f r s h k e t = absurd h
by_words (page path text) f r s h k e t = absurd h
by_words (define block) (define other) r s h k e t =
    let b = blocks_same block other r s (omega (arith, h)) (omega (arith, k)) (same_word 1 (words_of (define block)) (words_of (define other)) e) t in
    (ap (λ (x : List ℕ). define x) b.0, b.1)
by_words (define block) f r s h k e t = let l : 105 ≡ letter (words_of f) = ap letter e in absurd (omega arith)
by_words (connect number input) (connect other text) r s h k e t =
    let n : number ≡ other = same_number number other 1 (words_of (connect number input)) (words_of (connect other text)) (omega (arith, h.0)) (omega (arith, k.0)) refl refl e in
    let b = blocks_same input text r s (omega (arith, h.1)) (omega (arith, k.1)) (same_word 2 (words_of (connect number input)) (words_of (connect other text)) e) t in
    (ap (λ (x : ℕ). connect x input) n ∙ ap (λ (x : List ℕ). connect other x) b.0, b.1)
by_words (connect number input) f r s h k e t = let l : 110 ≡ letter (words_of f) = ap letter e in absurd (omega arith)
by_words (step (worker number)) (step (worker other)) r s h k e t =
    (ap (λ (n : ℕ). step (worker n)) (same_number number other 1 (words_of (step (worker number))) (words_of (step (worker other))) (omega (arith, h)) (omega (arith, k)) refl refl e), t)
by_words (step (worker number)) (step scheduler) r s h k e t = absurd (no_letter number h (same_word 1 (words_of (step (worker number))) (words_of (step scheduler)) e))
by_words (step (worker number)) f r s h k e t = let l : 112 ≡ letter (words_of f) = ap letter e in absurd (omega arith)
by_words (step scheduler) f r s h k e t = absurd h
by_words (run (worker number)) (run (worker other)) r s h k e t =
    (ap (λ (n : ℕ). run (worker n)) (same_number number other 1 (words_of (run (worker number))) (words_of (run (worker other))) (omega (arith, h)) (omega (arith, k)) refl refl e), t)
by_words (run (worker number)) (run scheduler) r s h k e t = absurd (no_letter number h (same_word 1 (words_of (run (worker number))) (words_of (run scheduler)) e))
by_words (run (worker number)) f r s h k e t = let l : 0 ≡ letter (words_of f) = ap letter e in absurd (omega arith)
by_words (run scheduler) f r s h k e t = absurd h

pub same_event : (e f : Event) (r s : List ℕ) → IsOfLoad e → IsSmall f → spelled e ++ r ≡ spelled f ++ s → AreSame e f r s
same_event e f r s h k is =
    let l = lines_same (words_of e) (words_of f) (block_end (block_of e) ++ r) (block_end (block_of f) ++ s) (has_word e) (has_word f)
    (unbroken_words e (load_is_small e h)) (unbroken_words f k)
    (sym (append_assoc (line_of (words_of e)) (block_end (block_of e)) r) ∙ is ∙ append_assoc (line_of (words_of f)) (block_end (block_of f)) s) in
    by_words e f r s h k l.0 l.1
