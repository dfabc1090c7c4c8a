-- The line of an event: its first word, and the words behind it.
use Rattle.std.proofs.Common.{◌≡◌, ℕ, ◌^◌, ◌<◌, ◌≤◌, List, ◌∷◌, ◌++◌, true, Some, Bor, refl, sym, subst, ap, ◌∙◌, arith}
use Rattle.std.specs.Prelude.{decimal, codes}
use Rattle.std.specs.List.{list_all, join_with_byte}
use Rattle.rehearse.specs.declared.head.Actor as code_actor
use Rattle.rehearse.specs.declared.head.Actor.TheVariants as code_actors
use Rattle.rehearse.specs.declared.head.Head.{Head}
use Rattle.rehearse.specs.declared.head.Head.TheVariants as heads
use Rattle.rehearse.specs.declared.keyword.Keyword.{Keyword}
use Rattle.rehearse.specs.declared.keyword.Keyword.TheVariants as keywords
use Rattle.rehearse.specs.Events.{name_of, actor_word, most_page, most_block, most_input}
use Rattle.rehearse.specs.Numbers.{IsSmall}
use Rattle.rehearse.specs.Reading.{is_other, CutAt, actor_of, IsActor, IsPathWord, head_words, head_block, IsShortHead, IsHead, PageAt, ConnectAt}
use Rattle.rehearse.proofs.Cutting.{cuts_same}
use Rattle.rehearse.proofs.Keywords.{same_keyword, no_space}
use Rattle.rehearse.proofs.Numbers.{small_fits, decimal_other}

abbrev pub keyword_of : Head → Keyword
keyword_of (heads.Workers count) = keywords.Workers
keyword_of (heads.Clock moment) = keywords.Clock
keyword_of (heads.Page path size) = keywords.Page
keyword_of (heads.Define size) = keywords.Define
keyword_of (heads.Connect number size) = keywords.Connect
keyword_of (heads.Step actor) = keywords.Step
keyword_of (heads.Run actor) = keywords.Run

-- the words behind the first one
abbrev pub tail_of : Head → List ℕ
tail_of (heads.Workers count) = decimal count
tail_of (heads.Clock moment) = decimal moment
tail_of (heads.Page path size) = path.now ++ 32 ∷ decimal size
tail_of (heads.Define size) = decimal size
tail_of (heads.Connect number size) = decimal number ++ 32 ∷ decimal size
tail_of (heads.Step actor) = actor_word (actor_of actor)
tail_of (heads.Run actor) = actor_word (actor_of actor)

head_parts : (h : Head) → join_with_byte 32 (head_words h) ≡ name_of (keyword_of h) ++ 32 ∷ tail_of h
head_parts (heads.Workers count) = refl
head_parts (heads.Clock moment) = refl
head_parts (heads.Page path size) = refl
head_parts (heads.Define size) = refl
head_parts (heads.Connect number size) = refl
head_parts (heads.Step actor) = refl
head_parts (heads.Run actor) = refl

-- ---- words without a space

-- a number has none
pub number_plain : (n : ℕ) → IsSmall n → list_all (is_other 32) (decimal n) ≡ true
number_plain n h = decimal_other 32 n refl (small_fits n h)

-- a length neither
pub size_plain : (n most : ℕ) → n ≤ most → most < 2 ^ 64 → list_all (is_other 32) (decimal n) ≡ true
size_plain n most h low = decimal_other 32 n refl (omega arith)

pub path_plain : (path : List ℕ) → IsPathWord path → list_all (is_other 32) path ≡ true
path_plain path h = ap (list_all (is_other 32)) h.1 ∙ h.2

-- ---- the words behind a keyword

abbrev pub Tail : Keyword → List ℕ → Head → Type 0
Tail keywords.Workers words h = (n : ℕ) × IsSmall n × (words ≡ decimal n) × (h ≡ heads.Workers n)
Tail keywords.Clock words h = (n : ℕ) × IsSmall n × (words ≡ decimal n) × (h ≡ heads.Clock n)
Tail keywords.Page words h =
    (path : Bor (List ℕ)) × (size : ℕ) × IsPathWord path.now × (size ≤ most_page) × (words ≡ path.now ++ 32 ∷ decimal size) × (h ≡ heads.Page path size)
Tail keywords.Define words h = (size : ℕ) × (size ≤ most_block) × (words ≡ decimal size) × (h ≡ heads.Define size)
Tail keywords.Connect words h =
    (n : ℕ) × (size : ℕ) × IsSmall n × (size ≤ most_input) × (words ≡ decimal n ++ 32 ∷ decimal size) × (h ≡ heads.Connect n size)
Tail keywords.Step words h = (actor : code_actor.Actor) × IsActor actor words × (h ≡ heads.Step actor)
Tail keywords.Run words h = (actor : code_actor.Actor) × IsActor actor words × (h ≡ heads.Run actor)

tail_at : (h : Head) (words : List ℕ) → IsShortHead h → words ≡ tail_of h → Tail (keyword_of h) words h
tail_at (heads.Workers count) words s e = (count, s, e, refl)
tail_at (heads.Clock moment) words s e = (moment, s, e, refl)
tail_at (heads.Page path size) words s e = (path, size, s.0, s.1, e, refl)
tail_at (heads.Define size) words s e = (size, s, e, refl)
tail_at (heads.Connect number size) words s e = (number, size, s.0, s.1, e, refl)
tail_at (heads.Step actor) words s e = (actor, (s, e), refl)
tail_at (heads.Run actor) words s e = (actor, (s, e), refl)

-- what a line of this keyword says
pub line_tail : (line name words : List ℕ) (k : Keyword) → CutAt 32 line (name, words) → name ≡ name_of k → (h : Head) → IsHead h line → Tail k words h
line_tail line name words k cut is h head =
    let parts : line ≡ name_of (keyword_of h) ++ 32 ∷ tail_of h = head.1 ∙ head_parts h in
    let s : (name ≡ name_of (keyword_of h)) × (words ≡ tail_of h) =
    cuts_same 32 line (name, words) (name_of (keyword_of h), tail_of h) cut (no_space (keyword_of h), parts) in
    let key : keyword_of h ≡ k = same_keyword (keyword_of h) k (sym s.0 ∙ is) in
    subst (λ (l : Keyword). Tail l words h) key (tail_at h words head.0 s.1)

-- the line, by what was read of it
pub line_is : (line name words tail : List ℕ) (k : Keyword) → CutAt 32 line (name, words) → name ≡ name_of k → words ≡ tail → line ≡ name_of k ++ 32 ∷ tail
line_is line name words tail k cut is e =
    cut.1 ∙ ap (λ (t : List ℕ). t ++ 32 ∷ words) is ∙ ap (λ (t : List ℕ). name_of k ++ 32 ∷ t) e

pub no_name : (line : List ℕ) → ((x : List ℕ × List ℕ) → ¬ (CutAt 32 line x)) → (h : Head) → ¬ (IsHead h line)
no_name line never h head = never (name_of (keyword_of h), tail_of h) (no_space (keyword_of h), head.1 ∙ head_parts h)

pub no_keyword : (line name words : List ℕ) → CutAt 32 line (name, words) → ((k : Keyword) → ¬ (name ≡ name_of k)) → (h : Head) → ¬ (IsHead h line)
no_keyword line name words cut never h head =
    never (keyword_of h)
    (cuts_same 32 line (name, words) (name_of (keyword_of h), tail_of h) cut (no_space (keyword_of h), head.1 ∙ head_parts h)).0

-- ---- actors

pub no_actor : (word : List ℕ) → ¬ (word ≡ codes "s") → ((n : ℕ) → ¬ (IsSmall n × (word ≡ decimal n))) → (a : code_actor.Actor) → ¬ (IsActor a word)
no_actor word other never (code_actors.Worker number) h = never number h
no_actor word other never code_actors.Scheduler h = other h.1

-- ---- pages

page_tail : (words : List ℕ) (h : Head) → PageAt h words → Tail keywords.Page words h
page_tail words h p = line_tail (codes "page " ++ words) (codes "page") words keywords.Page (refl, refl) refl h p

pub no_path : (words : List ℕ) → ((x : List ℕ × List ℕ) → ¬ (CutAt 32 words x)) → (h : Head) → ¬ (PageAt h words)
no_path words never h p =
    let t : Tail keywords.Page words h = page_tail words h p in
    never (t.0.now, decimal t.1) (path_plain t.0.now t.2, t.4)

page_parts : (words path size : List ℕ) → CutAt 32 words (path, size) → (h : Head) → (p : PageAt h words)
    → (path ≡ (page_tail words h p).0.now) × (size ≡ decimal (page_tail words h p).1)
page_parts words path size cut h p =
    let t : Tail keywords.Page words h = page_tail words h p in
    cuts_same 32 words (path, size) (t.0.now, decimal t.1) cut (path_plain t.0.now t.2, t.4)

pub no_slash : (words path size : List ℕ) → CutAt 32 words (path, size) → ((rest : List ℕ) → ¬ (path ≡ 47 ∷ rest)) → (h : Head) → ¬ (PageAt h words)
no_slash words path size cut never h p =
    let t : Tail keywords.Page words h = page_tail words h p in
    never t.2.0 ((page_parts words path size cut h p).0 ∙ t.2.1)

pub no_page_size : (words path size : List ℕ) → CutAt 32 words (path, size) → ((n : ℕ) → ¬ ((n ≤ most_page) × (size ≡ decimal n))) → (h : Head) → ¬ (PageAt h words)
no_page_size words path size cut never h p =
    let t : Tail keywords.Page words h = page_tail words h p in
    never t.1 (t.3, (page_parts words path size cut h p).1)

pub page_found : (words rest size : List ℕ) (path : Bor (List ℕ)) (n : ℕ) → CutAt 32 words (path.now, size) → path.now ≡ 47 ∷ rest
    → n ≤ most_page → size ≡ decimal n → PageAt (heads.Page path n) words
page_found words rest size path n cut slash low is =
    let plain : list_all (is_other 32) (47 ∷ rest) ≡ true = ap (list_all (is_other 32)) (sym slash) ∙ cut.0 in
    (((rest, slash, plain), low), ap (λ (t : List ℕ). codes "page " ++ t) (cut.1 ∙ ap (λ (t : List ℕ). path.now ++ 32 ∷ t) is))

-- ---- connections

connect_tail : (words : List ℕ) (h : Head) → ConnectAt h words → Tail keywords.Connect words h
connect_tail words h p = line_tail (codes "connect " ++ words) (codes "connect") words keywords.Connect (refl, refl) refl h p

pub no_gap : (words : List ℕ) → ((x : List ℕ × List ℕ) → ¬ (CutAt 32 words x)) → (h : Head) → ¬ (ConnectAt h words)
no_gap words never h p =
    let t : Tail keywords.Connect words h = connect_tail words h p in
    never (decimal t.0, decimal t.1) (number_plain t.0 t.2, t.4)

connect_parts : (words number size : List ℕ) → CutAt 32 words (number, size) → (h : Head) → (p : ConnectAt h words)
    → (number ≡ decimal (connect_tail words h p).0) × (size ≡ decimal (connect_tail words h p).1)
connect_parts words number size cut h p =
    let t : Tail keywords.Connect words h = connect_tail words h p in
    cuts_same 32 words (number, size) (decimal t.0, decimal t.1) cut (number_plain t.0 t.2, t.4)

pub no_number : (words number size : List ℕ) → CutAt 32 words (number, size) → ((n : ℕ) → ¬ (IsSmall n × (number ≡ decimal n))) → (h : Head) → ¬ (ConnectAt h words)
no_number words number size cut never h p =
    let t : Tail keywords.Connect words h = connect_tail words h p in
    never t.0 (t.2, (connect_parts words number size cut h p).0)

pub no_input_size : (words number size : List ℕ) → CutAt 32 words (number, size) → ((n : ℕ) → ¬ ((n ≤ most_input) × (size ≡ decimal n))) → (h : Head) → ¬ (ConnectAt h words)
no_input_size words number size cut never h p =
    let t : Tail keywords.Connect words h = connect_tail words h p in
    never t.1 (t.3, (connect_parts words number size cut h p).1)

pub connect_found : (words number size : List ℕ) (n m : ℕ) → CutAt 32 words (number, size) → IsSmall n → number ≡ decimal n → m ≤ most_input → size ≡ decimal m
    → ConnectAt (heads.Connect n m) words
connect_found words number size n m cut small is low size_is =
    ((small, low), ap (λ (t : List ℕ). codes "connect " ++ t) (cut.1 ∙ ap (λ (t : List ℕ). t ++ 32 ∷ size) is ∙ ap (λ (t : List ℕ). decimal n ++ 32 ∷ t) size_is))

-- ---- blocks

-- no block is longer than an input may be
pub block_low : (h : Head) (n : ℕ) → IsShortHead h → head_block h ≡ Some n → n ≤ most_input
block_low (heads.Workers count) n s e = absurd (cc)
block_low (heads.Clock moment) n s e = absurd (cc)
block_low (heads.Page path size) n s e = let same : size ≡ n = cc in omega (arith, same, s.1)
block_low (heads.Define size) n s e = let same : size ≡ n = cc in omega (arith, same, s)
block_low (heads.Connect number size) n s e = let same : size ≡ n = cc in omega (arith, same, s.1)
block_low (heads.Step actor) n s e = absurd (cc)
block_low (heads.Run actor) n s e = absurd (cc)
