-- Events: their words, their lines and their blocks.
use Rattle.std.proofs.Common.{◌≡◌, ℕ, ◌+◌, ◌<◌, ◌≤◌, List, [], ◌∷◌, ◌++◌, append_assoc, length, length-append, Bool, true, false, ◌&&◌, Bor, refl, sym, subst, ap, ◌∙◌, arith}
use Rattle.std.specs.Prelude.{decimal, codes, ◌==◌, ◌||◌, not}
use Rattle.std.specs.List.{list_all, list_any, join_with_byte}
use Rattle.txt_core.specs.Digits.{is_digit}
use Rattle.rehearse.specs.declared.head.Actor as code_actor
use Rattle.rehearse.specs.declared.head.Actor.TheVariants as code_actors
use Rattle.rehearse.specs.declared.head.Head.{Head}
use Rattle.rehearse.specs.declared.head.Head.TheVariants as heads
use Rattle.rehearse.specs.declared.keyword.Keyword.{Keyword}
use Rattle.rehearse.specs.declared.keyword.Keyword.TheVariants as keywords
use Rattle.rehearse.specs.Events.{Actor, worker, scheduler, name_of, actor_word, Event, workers, clock, page, define, connect, step, run, line_end, words_of, block_of, block_end, spelled, most_block, most_input}
use Rattle.rehearse.specs.Numbers.{IsSmall}
use Rattle.rehearse.specs.Plays.{IsPath, is_break}
use Rattle.rehearse.specs.Reading.{is_other, CutAt, actor_of, IsShortActor, IsPathWord, head_words, head_block, behind_line, IsShortHead, IsHead, IsShort, HasHead}
use Rattle.rehearse.proofs.Cutting.{parts_other}
use Rattle.rehearse.proofs.Words.{Without, same_words, line_without}
use Rattle.rehearse.proofs.Keywords.{same_keyword, no_space, no_newline}
use Rattle.rehearse.proofs.Numbers.{small_fits, decimal_other, decimal_same}
use Rattle.rehearse.proofs.Heads.{keyword_of, path_plain, number_plain}

-- ---- paths

-- bytes that are neither spaces nor newlines
pub unbroken : (rest : List ℕ) → list_any is_break rest ≡ false → (list_all (is_other 32) rest ≡ true) × (list_all (is_other 10) rest ≡ true)
unbroken [] h = (refl, refl)
unbroken (b ∷ rest) h = parted (b == 32) (b == 10) (list_any is_break rest) h (λ k. unbroken rest k)
  where
    parted : (s n r : Bool) → ((s || n) || r) ≡ false → (r ≡ false → (list_all (is_other 32) rest ≡ true) × (list_all (is_other 10) rest ≡ true))
        → ((not s && list_all (is_other 32) rest) ≡ true) × ((not n && list_all (is_other 10) rest) ≡ true)
    parted true n r e k = absurd (cc)
    parted false true r e k = absurd (cc)
    parted false false r e k = k e

-- and back
pub broken : (rest : List ℕ) → list_all (is_other 32) rest ≡ true → list_all (is_other 10) rest ≡ true → list_any is_break rest ≡ false
broken [] h k = refl
broken (b ∷ rest) h k = joined (b == 32) (b == 10) h k (λ p q. broken rest p q)
  where
    joined : (s n : Bool) → (not s && list_all (is_other 32) rest) ≡ true → (not n && list_all (is_other 10) rest) ≡ true
        → (list_all (is_other 32) rest ≡ true → list_all (is_other 10) rest ≡ true → list_any is_break rest ≡ false)
        → ((s || n) || list_any is_break rest) ≡ false
    joined true n p q k = absurd (cc)
    joined false true p q k = absurd (cc)
    joined false false p q k = k p q

-- ---- a byte that no word has

-- A byte that stands in no word of an event.
record Away (c : ℕ) : Type 0 where
  digit : is_digit 10 c ≡ false
  names : (k : Keyword) → list_all (is_other c) (name_of k) ≡ true
  actor : list_all (is_other c) (codes "s") ≡ true
  path : (rest : List ℕ) → list_any is_break rest ≡ false → list_all (is_other c) (47 ∷ rest) ≡ true

space_away : Away 32
space_away = record { digit = refl; names = no_space; actor = refl; path = λ rest h. (unbroken rest h).0 }

newline_away : Away 10
newline_away = record { digit = refl; names = no_newline; actor = refl; path = λ rest h. (unbroken rest h).1 }

number_away : (c : ℕ) → Away c → (n : ℕ) → IsSmall n → list_all (is_other c) (decimal n) ≡ true
number_away c a n h = decimal_other c n a.digit (small_fits n h)

size_away : (c : ℕ) → Away c → (n : ℕ) → n ≤ most_input → list_all (is_other c) (decimal n) ≡ true
size_away c a n h = decimal_other c n a.digit (omega arith)

actor_away : (c : ℕ) → Away c → (actor : Actor) → IsShortActor actor → list_all (is_other c) (actor_word actor) ≡ true
actor_away c a (worker number) h = number_away c a number h
actor_away c a scheduler h = a.actor

path_away : (c : ℕ) → Away c → (path : List ℕ) → IsPath path → list_all (is_other c) path ≡ true
path_away c a path h = ap (list_all (is_other c)) h.1 ∙ a.path h.0 h.2

words_away : (c : ℕ) → Away c → (e : Event) → IsShort e → Without c (words_of e)
words_away c a (workers count) h = (a.names keywords.Workers, (number_away c a count h, tt))
words_away c a (clock moment) h = (a.names keywords.Clock, (number_away c a moment h, tt))
words_away c a (page path text) h = (a.names keywords.Page, (path_away c a path h.0, (size_away c a (length text) (omega (arith, h.1)), tt)))
words_away c a (define block) h = (a.names keywords.Define, (size_away c a (length block) (omega (arith, h)), tt))
words_away c a (connect number input) h = (a.names keywords.Connect, (number_away c a number h.0, (size_away c a (length input) h.1, tt)))
words_away c a (step actor) h = (a.names keywords.Step, (actor_away c a actor h, tt))
words_away c a (run actor) h = (a.names keywords.Run, (actor_away c a actor h, tt))

actor_plain : (actor : code_actor.Actor) → IsShortActor (actor_of actor) → list_all (is_other 32) (actor_word (actor_of actor)) ≡ true
actor_plain actor h = actor_away 32 space_away (actor_of actor) h

head_plain : (h : Head) → IsShortHead h → Without 32 (head_words h)
head_plain (heads.Workers count) s = (refl, (number_plain count s, tt))
head_plain (heads.Clock moment) s = (refl, (number_plain moment s, tt))
head_plain (heads.Page path size) s = (refl, (path_plain path.now s.0, (size_away 32 space_away size (omega (arith, s.1)), tt)))
head_plain (heads.Define size) s = (refl, (size_away 32 space_away size (omega (arith, s)), tt))
head_plain (heads.Connect number size) s = (refl, (number_plain number s.0, (size_away 32 space_away size s.1, tt)))
head_plain (heads.Step actor) s = (refl, (actor_plain actor s, tt))
head_plain (heads.Run actor) s = (refl, (actor_plain actor s, tt))

-- ---- an event is a line, a newline and what is behind

event_words : (e : Event) → 0 < length (words_of e)
event_words (workers count) = omega arith
event_words (clock moment) = omega arith
event_words (page path text) = omega arith
event_words (define block) = omega arith
event_words (connect number input) = omega arith
event_words (step actor) = omega arith
event_words (run actor) = omega arith

head_some : (h : Head) → 0 < length (head_words h)
head_some (heads.Workers count) = omega arith
head_some (heads.Clock moment) = omega arith
head_some (heads.Page path size) = omega arith
head_some (heads.Define size) = omega arith
head_some (heads.Connect number size) = omega arith
head_some (heads.Step actor) = omega arith
head_some (heads.Run actor) = omega arith

-- the line of an event, without its newline
abbrev pub line_words : Event → List ℕ
line_words e = join_with_byte 32 (words_of e)

pub spelled_parts : (e : Event) (more : List ℕ) → spelled e ++ more ≡ line_words e ++ 10 ∷ (block_end (block_of e) ++ more)
spelled_parts e more = regroup (line_words e) line_end (block_end (block_of e)) more
  where
    regroup : (a b c d : List ℕ) → ((a ++ b) ++ c) ++ d ≡ a ++ (b ++ (c ++ d))
    regroup a b c d = simp append_assoc refl

-- no newline stands in the line of a short event
pub line_clean : (e : Event) → IsShort e → list_all (is_other 10) (line_words e) ≡ true
line_clean e h = line_without 10 (words_of e) refl (words_away 10 newline_away e h)

-- the first newline ends the line
pub event_cut : (e : Event) (bytes more : List ℕ) → IsShort e → bytes ≡ spelled e ++ more → CutAt 10 bytes (line_words e, block_end (block_of e) ++ more)
event_cut e bytes more h is = (line_clean e h, is ∙ spelled_parts e more)

-- ---- an event and its line

abbrev event_keyword : Event → Keyword
event_keyword (workers count) = keywords.Workers
event_keyword (clock moment) = keywords.Clock
event_keyword (page path text) = keywords.Page
event_keyword (define block) = keywords.Define
event_keyword (connect number input) = keywords.Connect
event_keyword (step actor) = keywords.Step
event_keyword (run actor) = keywords.Run

abbrev first : List (List ℕ) → List ℕ
first [] = []
first (w ∷ ws) = w

abbrev second : List (List ℕ) → List ℕ
second [] = []
second (w ∷ ws) = first ws

abbrev third : List (List ℕ) → List ℕ
third [] = []
third (w ∷ ws) = second ws

event_first : (e : Event) → first (words_of e) ≡ name_of (event_keyword e)
event_first (workers count) = refl
event_first (clock moment) = refl
event_first (page path text) = refl
event_first (define block) = refl
event_first (connect number input) = refl
event_first (step actor) = refl
event_first (run actor) = refl

head_first : (h : Head) → first (head_words h) ≡ name_of (keyword_of h)
head_first (heads.Workers count) = refl
head_first (heads.Clock moment) = refl
head_first (heads.Page path size) = refl
head_first (heads.Define size) = refl
head_first (heads.Connect number size) = refl
head_first (heads.Step actor) = refl
head_first (heads.Run actor) = refl

same_kind : (e : Event) (h : Head) → words_of e ≡ head_words h → keyword_of h ≡ event_keyword e
same_kind e h w = same_keyword (keyword_of h) (event_keyword e) (sym (head_first h) ∙ ap first (sym w) ∙ event_first e)

-- a line with this first word
abbrev Kind : Keyword → Head → Type 0
Kind keywords.Workers h = (n : ℕ) × (h ≡ heads.Workers n)
Kind keywords.Clock h = (n : ℕ) × (h ≡ heads.Clock n)
Kind keywords.Page h = (path : Bor (List ℕ)) × (size : ℕ) × (h ≡ heads.Page path size)
Kind keywords.Define h = (size : ℕ) × (h ≡ heads.Define size)
Kind keywords.Connect h = (n : ℕ) × (size : ℕ) × (h ≡ heads.Connect n size)
Kind keywords.Step h = (actor : code_actor.Actor) × (h ≡ heads.Step actor)
Kind keywords.Run h = (actor : code_actor.Actor) × (h ≡ heads.Run actor)

kind_of : (h : Head) → Kind (keyword_of h) h
kind_of (heads.Workers count) = (count, refl)
kind_of (heads.Clock moment) = (moment, refl)
kind_of (heads.Page path size) = (path, size, refl)
kind_of (heads.Define size) = (size, refl)
kind_of (heads.Connect number size) = (number, size, refl)
kind_of (heads.Step actor) = (actor, refl)
kind_of (heads.Run actor) = (actor, refl)

kind_for : (e : Event) (h : Head) → words_of e ≡ head_words h → Kind (event_keyword e) h
kind_for e h w = subst (λ (k : Keyword). Kind k h) (same_kind e h w) (kind_of h)

-- a number doesn't spell `s`
no_scheduler : (n : ℕ) → IsSmall n → decimal n ≡ codes "s" → ⊥
no_scheduler n h e =
    let plain : list_all (is_other 115) (decimal n) ≡ true = decimal_other 115 n refl (small_fits n h) in
    let t : list_all (is_other 115) (codes "s") ≡ true = ap (list_all (is_other 115)) (sym e) ∙ plain in
    absurd (cc)

actors_same : (a : Actor) (b : code_actor.Actor) → IsShortActor a → IsShortActor (actor_of b) → actor_word a ≡ actor_word (actor_of b) → a ≡ actor_of b
actors_same (worker m) (code_actors.Worker n) s t e = ap worker (decimal_same m n (small_fits m s) (small_fits n t) e)
actors_same (worker m) code_actors.Scheduler s t e = absurd (no_scheduler m s e)
actors_same scheduler (code_actors.Worker n) s t e = absurd (no_scheduler n t (sym e))
actors_same scheduler code_actors.Scheduler s t e = refl

-- an event with the words of a line has that line
pub has_head : (e : Event) (h : Head) → IsShort e → IsShortHead h → words_of e ≡ head_words h → HasHead h e
has_head (workers count) h s t w =
    let k : Kind keywords.Workers h = kind_for (workers count) h w in
    let small : IsSmall k.0 = subst IsShortHead k.1 t in
    let same : count ≡ k.0 = decimal_same count k.0 (small_fits count s) (small_fits k.0 small) (ap second (w ∙ ap head_words k.1)) in
    subst (λ (x : Head). HasHead x (workers count)) (sym k.1) (ap workers same)
has_head (clock moment) h s t w =
    let k : Kind keywords.Clock h = kind_for (clock moment) h w in
    let small : IsSmall k.0 = subst IsShortHead k.1 t in
    let same : moment ≡ k.0 = decimal_same moment k.0 (small_fits moment s) (small_fits k.0 small) (ap second (w ∙ ap head_words k.1)) in
    subst (λ (x : Head). HasHead x (clock moment)) (sym k.1) (ap clock same)
has_head (page path text) h s t w =
    let k : Kind keywords.Page h = kind_for (page path text) h w in
    let short : IsShortHead (heads.Page k.0 k.1) = subst IsShortHead k.2 t in
    let p : path ≡ k.0.now = ap second (w ∙ ap head_words k.2) in
    let same : length text ≡ k.1 = decimal_same (length text) k.1 (omega (arith, s.1)) (omega (arith, short.1)) (ap third (w ∙ ap head_words k.2)) in
    subst (λ (x : Head). HasHead x (page path text)) (sym k.2) (text, same, ap (λ (q : List ℕ). page q text) p)
has_head (define block) h s t w =
    let k : Kind keywords.Define h = kind_for (define block) h w in
    let short : IsShortHead (heads.Define k.0) = subst IsShortHead k.1 t in
    let same : length block ≡ k.0 = decimal_same (length block) k.0 (omega (arith, s)) (omega (arith, short)) (ap second (w ∙ ap head_words k.1)) in
    subst (λ (x : Head). HasHead x (define block)) (sym k.1) (block, same, refl)
has_head (connect number input) h s t w =
    let k : Kind keywords.Connect h = kind_for (connect number input) h w in
    let short : IsShortHead (heads.Connect k.0 k.1) = subst IsShortHead k.2 t in
    let n : number ≡ k.0 = decimal_same number k.0 (small_fits number s.0) (small_fits k.0 short.0) (ap second (w ∙ ap head_words k.2)) in
    let same : length input ≡ k.1 = decimal_same (length input) k.1 (omega (arith, s.1)) (omega (arith, short.1)) (ap third (w ∙ ap head_words k.2)) in
    subst (λ (x : Head). HasHead x (connect number input)) (sym k.2) (input, same, ap (λ (q : ℕ). connect q input) n)
has_head (step actor) h s t w =
    let k : Kind keywords.Step h = kind_for (step actor) h w in
    let short : IsShortActor (actor_of k.0) = subst IsShortHead k.1 t in
    let same : actor ≡ actor_of k.0 = actors_same actor k.0 s short (ap second (w ∙ ap head_words k.1)) in
    subst (λ (x : Head). HasHead x (step actor)) (sym k.1) (ap step same)
has_head (run actor) h s t w =
    let k : Kind keywords.Run h = kind_for (run actor) h w in
    let short : IsShortActor (actor_of k.0) = subst IsShortHead k.1 t in
    let same : actor ≡ actor_of k.0 = actors_same actor k.0 s short (ap second (w ∙ ap head_words k.1)) in
    subst (λ (x : Head). HasHead x (run actor)) (sym k.1) (ap run same)

-- and the words are the line's
pub words_same : (h : Head) (e : Event) → HasHead h e → words_of e ≡ head_words h
words_same (heads.Workers count) e is = ap words_of is
words_same (heads.Clock moment) e is = ap words_of is
words_same (heads.Page path size) e is = ap words_of is.2 ∙ ap (λ (n : ℕ). codes "page" ∷ path.now ∷ decimal n ∷ []) is.1
words_same (heads.Define size) e is = ap words_of is.2 ∙ ap (λ (n : ℕ). codes "define" ∷ decimal n ∷ []) is.1
words_same (heads.Connect number size) e is = ap words_of is.2 ∙ ap (λ (n : ℕ). codes "connect" ∷ decimal number ∷ decimal n ∷ []) is.1
words_same (heads.Step actor) e is = ap words_of is
words_same (heads.Run actor) e is = ap words_of is

path_found : (path : Bor (List ℕ)) (size : ℕ) → IsPathWord path.now → list_all (is_other 10) (join_with_byte 32 (head_words (heads.Page path size))) ≡ true → IsPath path.now
path_found path size h clean =
    let p : (list_all (is_other 10) path.now ≡ true) × (list_all (is_other 10) (32 ∷ decimal size) ≡ true) = parts_other 10 path.now (32 ∷ decimal size) clean in
    let q : list_all (is_other 10) (47 ∷ h.0) ≡ true = ap (list_all (is_other 10)) (sym h.1) ∙ p.0 in
    (h.0, h.1, broken h.0 h.2 q)

-- an event of a short line is short
pub short_of : (h : Head) (e : Event) → HasHead h e → IsShortHead h → list_all (is_other 10) (join_with_byte 32 (head_words h)) ≡ true → IsShort e
short_of (heads.Workers count) e is s clean = subst IsShort (sym is) s
short_of (heads.Clock moment) e is s clean = subst IsShort (sym is) s
short_of (heads.Page path size) e is s clean =
    subst IsShort (sym is.2) (path_found path size s.0 clean, omega (arith, is.1, s.1))
short_of (heads.Define size) e is s clean =
    let low : length is.0 ≤ most_block = omega (arith, is.1, s) in subst IsShort (sym is.2) low
short_of (heads.Connect number size) e is s clean =
    subst IsShort (sym is.2) (s.0, omega (arith, is.1, s.1))
short_of (heads.Step actor) e is s clean = subst IsShort (sym is) s
short_of (heads.Run actor) e is s clean = subst IsShort (sym is) s

-- what stands behind the line is as long as the line says
pub behind_size : (h : Head) (e : Event) → HasHead h e → length (block_end (block_of e)) ≡ behind_line (head_block h)
behind_size (heads.Workers count) e is = ap (λ (d : Event). length (block_end (block_of d))) is
behind_size (heads.Clock moment) e is = ap (λ (d : Event). length (block_end (block_of d))) is
behind_size (heads.Page path size) e is =
    ap (λ (d : Event). length (block_end (block_of d))) is.2 ∙ length-append is.0 line_end ∙ ap (λ (n : ℕ). n + 1) is.1
behind_size (heads.Define size) e is =
    ap (λ (d : Event). length (block_end (block_of d))) is.2 ∙ length-append is.0 line_end ∙ ap (λ (n : ℕ). n + 1) is.1
behind_size (heads.Connect number size) e is =
    ap (λ (d : Event). length (block_end (block_of d))) is.2 ∙ length-append is.0 line_end ∙ ap (λ (n : ℕ). n + 1) is.1
behind_size (heads.Step actor) e is = ap (λ (d : Event). length (block_end (block_of d))) is
behind_size (heads.Run actor) e is = ap (λ (d : Event). length (block_end (block_of d))) is

-- ---- the line of a short event

-- a reference to a text, as a line has one
abbrev shown : List ℕ → Bor (List ℕ)
shown path = record { ref_ptr = (0, 0); now = path }

abbrev actor_for : Actor → code_actor.Actor
actor_for (worker number) = code_actors.Worker number
actor_for scheduler = code_actors.Scheduler

abbrev pub head_for : Event → Head
head_for (workers count) = heads.Workers count
head_for (clock moment) = heads.Clock moment
head_for (page path text) = heads.Page (shown path) (length text)
head_for (define block) = heads.Define (length block)
head_for (connect number input) = heads.Connect number (length input)
head_for (step actor) = heads.Step (actor_for actor)
head_for (run actor) = heads.Run (actor_for actor)

actor_back : (actor : Actor) → actor_of (actor_for actor) ≡ actor
actor_back (worker number) = refl
actor_back scheduler = refl

pub head_for_has : (e : Event) → HasHead (head_for e) e
head_for_has (workers count) = refl
head_for_has (clock moment) = refl
head_for_has (page path text) = (text, refl, refl)
head_for_has (define block) = (block, refl, refl)
head_for_has (connect number input) = (input, refl, refl)
head_for_has (step actor) = ap step (sym (actor_back actor))
head_for_has (run actor) = ap run (sym (actor_back actor))

head_for_short : (e : Event) → IsShort e → IsShortHead (head_for e)
head_for_short (workers count) h = h
head_for_short (clock moment) h = h
head_for_short (page path text) h = ((h.0.0, h.0.1, (unbroken h.0.0 h.0.2).0), h.1)
head_for_short (define block) h = h
head_for_short (connect number input) h = h
head_for_short (step actor) h = subst IsShortActor (sym (actor_back actor)) h
head_for_short (run actor) h = subst IsShortActor (sym (actor_back actor)) h

pub head_for_is : (e : Event) → IsShort e → IsHead (head_for e) (line_words e)
head_for_is e h = (head_for_short e h, ap (join_with_byte 32) (words_same (head_for e) e (head_for_has e)))

-- a short event with this line has it
pub event_has : (e : Event) (h : Head) (line : List ℕ) → IsShort e → IsHead h line → line_words e ≡ line → HasHead h e
event_has e h line s head is =
    has_head e h s head.0
    (same_words (words_of e) (head_words h) (event_words e) (head_some h) (words_away 32 space_away e s) (head_plain h head.0) (is ∙ head.1))
