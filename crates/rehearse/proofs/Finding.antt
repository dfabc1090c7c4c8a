-- Whether an event stands in front of what was read.
use Rattle.std.proofs.Common.{◌≡◌, ℕ, ◌+◌, ◌-◌, ◌<◌, ◌≤◌, List, [], ◌∷◌, ◌++◌, length, take, drop, Bool, true, false, Some, None, refl, sym, subst, ap, ◌∙◌, inl, inr, append_assoc, append-nil, length-append, arith}
use Rattle.std.specs.Prelude.{◌==◌, not}
use Rattle.std.specs.List.{list_all}
use Rattle.std.proofs.lemmas.List.{take-append-le, take-append-drop, length-take-le}
use Rattle.std.proofs.lemmas.Bool.{eqb-true}
use Rattle.std.proofs.lemmas.Option.{slice_get_within}
use Rattle.std.proofs.Math.Seq.{take-append_seam}
use Rattle.rehearse.specs.declared.head.Head.{Head}
use Rattle.rehearse.specs.Events.{worker, scheduler, Event, workers, clock, page, define, connect, step, run, line_end, spelled, block_of, block_end, most_file}
use Rattle.rehearse.specs.Files.{ComesNext}
use Rattle.rehearse.specs.Plays.{MayCome}
use Rattle.rehearse.specs.Intakes.{IntakeState}
use Rattle.rehearse.specs.Playing.{HasNoNewline, FindsLine, HasBytes, HasFew, IsNoEvent, FindsEvent}
use Rattle.rehearse.specs.Reading.{is_other, CutAt, IsHead, IsShort, SizeOf, behind_line, head_block}
use Rattle.rehearse.specs.World.{World, idle}
use Rattle.rehearse.proofs.Cutting.{and_both, joined_other, no_cut, cuts_same}
use Rattle.rehearse.proofs.Spelling.{line_words, event_cut, behind_size, event_has, head_for, head_for_is}

-- an event that may come is short
pub may_be_short : (world : World) (e : Event) → HasFew world → MayCome world e → IsShort e
may_be_short world (workers count) few h = omega (arith, h.2)
may_be_short world (clock moment) few h = omega (arith, h)
may_be_short world (page path text) few h = h
may_be_short world (define block) few h = h
may_be_short world (connect number input) few h =
    let within : number < length world.workers = slice_get_within world.workers number idle h.0 in (omega (arith, within, few), h.1)
may_be_short world (step (worker number)) few h = omega (arith, few, h)
may_be_short world (step scheduler) few h = tt
may_be_short world (run (worker number)) few h = omega (arith, few, h)
may_be_short world (run scheduler) few h = tt

-- its line ends with the first newline
pub comes_cut : (world : World) (place : ℕ) (left : List ℕ) (e : Event) → HasFew world → (c : ComesNext world place left e)
    → CutAt 10 left (line_words e, block_end (block_of e) ++ c.rest)
comes_cut world place left e few c = event_cut e left c.rest (may_be_short world e few c.may_come) c.spelled_here

-- an event that is in time stands in the bytes that are there
front_of : (left more event rest : List ℕ) → length event ≤ length left → left ++ more ≡ event ++ rest → left ≡ event ++ drop (length event) left
front_of left more event rest fits e =
    let front : take (length event) left ≡ event =
    sym (take-append-le (length event) left more fits) ∙ ap (λ (t : List ℕ). take (length event) t) e ∙ take-append_seam event rest in
    sym (take-append-drop (length event) left) ∙ ap (λ (t : List ℕ). t ++ drop (length event) left) front

pub comes_already : (world : World) (place : ℕ) (left more : List ℕ) (e : Event) → length (spelled e) ≤ length left
    → ComesNext world place (left ++ more) e → ComesNext world place left e
comes_already world place left more e fits h = record {
  rest = drop (length (spelled e)) left;
  spelled_here = front_of left more (spelled e) h.rest fits h.spelled_here;
  in_time = h.in_time;
  may_come = h.may_come;
}

comes_at : (world : World) (p q : ℕ) (left text : List ℕ) (e : Event) → p ≡ q → left ≡ text → ComesNext world p left e → ComesNext world q text e
comes_at world p q left text e same is c =
    subst (λ (n : ℕ). ComesNext world n text e) same (subst (λ (t : List ℕ). ComesNext world p t e) is c)

-- ---- where a line ends

-- where a text can't be cut, no byte is that one
all_or_cut : (c : ℕ) (xs : List ℕ) → ((x : List ℕ × List ℕ) → ¬ (CutAt c xs x)) → list_all (is_other c) xs ≡ true
all_or_cut c [] never = refl
all_or_cut c (y ∷ xs) never = apart (y == c) refl (all_or_cut c xs)
  where
    apart : (v : Bool) → (y == c) ≡ v → (((x : List ℕ × List ℕ) → ¬ (CutAt c xs x)) → list_all (is_other c) xs ≡ true) → list_all (is_other c) (y ∷ xs) ≡ true
    apart true e rest = absurd (never ([], xs) (refl, ap (λ (b : ℕ). b ∷ xs) (eqb-true y c e)))
    apart false e rest =
        let other : is_other c y ≡ true = ap not e in
        and_both (is_other c y) (list_all (is_other c) xs) other
        (rest (λ x h. never (y ∷ x.0, x.1) (and_both (is_other c y) (list_all (is_other c) x.0) other h.0, ap (λ (t : List ℕ). y ∷ t) h.1)))

-- no newline is in front, and none behind
pub none_there : (left tail : List ℕ) (seen : ℕ) → list_all (is_other 10) (take seen left) ≡ true → tail ≡ drop seen left
    → ((x : List ℕ × List ℕ) → ¬ (CutAt 10 tail x)) → list_all (is_other 10) left ≡ true
none_there left tail seen front is never =
    ap (list_all (is_other 10)) (sym (take-append-drop seen left))
    ∙ joined_other 10 (take seen left) (drop seen left) front (ap (list_all (is_other 10)) (sym is) ∙ all_or_cut 10 tail never)

pub line_there : (s : IntakeState) (tail front rest : List ℕ) (seen : ℕ) → seen ≤ length s.left → list_all (is_other 10) (take seen s.left) ≡ true
    → tail ≡ drop seen s.left → CutAt 10 tail (front, rest) → FindsLine (Some (seen + length front)) s
line_there s tail front rest seen within none is cut =
    let whole : s.left ≡ take seen s.left ++ (front ++ 10 ∷ rest) =
    sym (take-append-drop seen s.left) ∙ ap (λ (t : List ℕ). take seen s.left ++ t) (sym is ∙ cut.1) in (
      take seen s.left ++ front,
      rest,
      whole ∙ sym (append_assoc (take seen s.left) front (10 ∷ rest)),
      joined_other 10 (take seen s.left) front none cut.0,
      length-append (take seen s.left) front ∙ ap (λ (n : ℕ). n + length front) (length-take-le seen s.left within),
    )

-- none was in front, and more was read
pub none_still : (left given more : List ℕ) → more ≡ left ++ given → list_all (is_other 10) left ≡ true → list_all (is_other 10) (take (length left) more) ≡ true
none_still left given more is none = ap (λ (t : List ℕ). list_all (is_other 10) (take (length left) t)) is ∙ ap (list_all (is_other 10)) (take-append_seam left given) ∙ none

-- ---- no line

no_line_here : (s : IntakeState) (world : World) (e : Event) → HasNoNewline s.left → HasFew world → ¬ (ComesNext world s.place s.left e)
no_line_here s world e none few c = no_cut 10 s.left (line_words e, block_end (block_of e) ++ c.rest) none (comes_cut world s.place s.left e few c)

no_line_then : (s : IntakeState) → HasNoNewline s.left → (most_file - s.place) < length s.left → (more : List ℕ) → IsNoEvent s more
no_line_then s none long more world e few c =
    no_line_here s world e none few (comes_already world s.place s.left more e (omega (arith, c.in_time, long)) c)

some_left : (left : List ℕ) (n : ℕ) → n < length left → ¬ (left ≡ [])
some_left left n h e = let none : length left ≡ 0 = ap length e in omega (arith, none, h)

pub finds_no_line : (s : IntakeState) → FindsLine None s → FindsEvent None s
finds_no_line s h = (
  λ world e few c. no_line_here s world e h.0 few (comes_at world s.place s.place (s.left ++ []) s.left e refl (append-nil s.left) c),
  elim h.1 [
    | inl stopped ↦ inl stopped
    | inr long ↦ inr (some_left s.left (most_file - s.place) long, λ more. no_line_then s h.0 long more)
  ],
)

-- ---- a line

-- the line that was found, whatever follows, is that of an event that comes
pub same_line : (s : IntakeState) (line rest more : List ℕ) (world : World) (e : Event) → s.left ≡ line ++ 10 ∷ rest → HasNoNewline line → HasFew world
    → ComesNext world s.place (s.left ++ more) e → line_words e ≡ line
same_line s line rest more world e is none few c =
    let whole : s.left ++ more ≡ line ++ 10 ∷ (rest ++ more) = ap (λ (t : List ℕ). t ++ more) is ∙ append_assoc line (10 ∷ rest) more in
    sym (cuts_same 10 (s.left ++ more) (line, rest ++ more) (line_words e, block_end (block_of e) ++ c.rest) (none, whole)
    (comes_cut world s.place (s.left ++ more) e few c)).0

pub no_head_then : (s : IntakeState) (line rest : List ℕ) → s.left ≡ line ++ 10 ∷ rest → HasNoNewline line → ((n : ℕ) → ¬ (SizeOf line n))
    → (more : List ℕ) → IsNoEvent s more
no_head_then s line rest is none never more world e few c =
    let same : line_words e ≡ line = same_line s line rest more world e is none few c in
    let head : IsHead (head_for e) line = subst (IsHead (head_for e)) same (head_for_is e (may_be_short world e few c.may_come)) in
    never (length line + 1 + behind_line (head_block (head_for e))) (head_for e, head, refl)

-- an event of the line has as many bytes as the line says
pub event_length : (e : Event) (h : Head) (line : List ℕ) → IsShort e → IsHead h line → line_words e ≡ line
    → length (spelled e) ≡ length line + 1 + behind_line (head_block h)
event_length e h line short head same =
    let parts : length (spelled e) ≡ length (line_words e ++ line_end) + length (block_end (block_of e)) = length-append (line_words e ++ line_end) (block_end (block_of e)) in
    let front : length (line_words e ++ line_end) ≡ length (line_words e) + length line_end = length-append (line_words e) line_end in
    let behind : length (block_end (block_of e)) ≡ behind_line (head_block h) = behind_size h e (event_has e h line short head same) in
    let len : length (line_words e) ≡ length line = ap length same in
    omega (arith, parts, front, behind, len)

-- the front of what is left is an event of so many bytes, or none, whatever follows
abbrev pub IsOfSize : IntakeState → ℕ → Type 0
IsOfSize s size = (more : List ℕ) (world : World) (e : Event) → HasFew world → ComesNext world s.place (s.left ++ more) e → length (spelled e) ≡ size

pub is_of_size : (s : IntakeState) (line rest : List ℕ) (size : ℕ) → s.left ≡ line ++ 10 ∷ rest → HasNoNewline line → SizeOf line size → IsOfSize s size
is_of_size s line rest size is none sized more world e few c =
    event_length e sized.0 line (may_be_short world e few c.may_come) sized.1 (same_line s line rest more world e is none few c) ∙ sym sized.2

-- more was read
pub still_of_size : (s t : IntakeState) (given : List ℕ) (size : ℕ) → t.left ≡ s.left ++ given → t.place ≡ s.place → IsOfSize s size → IsOfSize t size
still_of_size s t given size left place sized more world e few c =
    let same : t.left ++ more ≡ s.left ++ (given ++ more) = ap (λ (x : List ℕ). x ++ more) left ∙ append_assoc s.left given more in
    sized (given ++ more) world e few (comes_at world t.place s.place (t.left ++ more) (s.left ++ (given ++ more)) e place same c)

pub some_line : (left line rest : List ℕ) → left ≡ line ++ 10 ∷ rest → ¬ (left ≡ [])
some_line left line rest is e =
    let len : length left ≡ length line + length (10 ∷ rest) = ap length is ∙ length-append line (10 ∷ rest) in
    let none : length left ≡ 0 = ap length e in
    omega (arith, len, none)

-- the slice in front is the line
pub front_line : (left line rest : List ℕ) (n : ℕ) → left ≡ line ++ 10 ∷ rest → length line ≡ n → take n left ≡ line
front_line left line rest n is len =
    ap (λ (t : List ℕ). take n t) is ∙ ap (λ (m : ℕ). take m (line ++ 10 ∷ rest)) (sym len) ∙ take-append_seam line (10 ∷ rest)

-- the line is no event's
pub finds_no_head : (s : IntakeState) (n : ℕ) (front : List ℕ) → FindsLine (Some n) s → front ≡ take n s.left → ((m : ℕ) → ¬ (SizeOf front m)) → FindsEvent None s
finds_no_head s n front l is never =
    let same : front ≡ l.0 = is ∙ front_line s.left l.0 l.1 n l.2 l.4 in
    let none : (m : ℕ) → ¬ (SizeOf l.0 m) = subst (λ (t : List ℕ). (m : ℕ) → ¬ (SizeOf t m)) same never in
    (no_head_then s l.0 l.1 l.2 l.3 none [], inr (some_line s.left l.0 l.1 l.2, no_head_then s l.0 l.1 l.2 l.3 none))

-- what is as long as the line says
pub sized_by : (s : IntakeState) (n : ℕ) (front : List ℕ) (size : ℕ) → FindsLine (Some n) s → front ≡ take n s.left → SizeOf front size → IsOfSize s size
sized_by s n front size l is sized =
    let same : front ≡ l.0 = is ∙ front_line s.left l.0 l.1 n l.2 l.4 in
    is_of_size s l.0 l.1 size l.2 l.3 (subst (λ (t : List ℕ). SizeOf t size) same sized)

-- it goes past the last byte
pub finds_too_long : (s : IntakeState) (n size : ℕ) → FindsLine (Some n) s → IsOfSize s size → (most_file - s.place) < size → FindsEvent None s
finds_too_long s n size l sized long =
    let never : (more : List ℕ) → IsNoEvent s more = λ more world e few c. omega (arith, sized more world e few c, c.in_time, long) in
    (never [], inr (some_line s.left l.0 l.1 l.2, never))

-- reading stopped before it was whole
pub finds_cut_short : (s : IntakeState) (size : ℕ) → IsOfSize s size → HasBytes false size s → FindsEvent None s
finds_cut_short s size sized h = (
  λ world e few c.
      let parts : length (s.left ++ []) ≡ length (spelled e) + length c.rest = ap length c.spelled_here ∙ length-append (spelled e) c.rest in
      let whole : length (s.left ++ []) ≡ length s.left = ap length (append-nil s.left) in
      omega (arith, sized [] world e few c, parts, whole, h.0),
  inl h.1,
)

pub size_some : (line : List ℕ) (size : ℕ) → SizeOf line size → 0 < size
size_some line size h = omega (arith, h.2)

-- an event of so many bytes may stand there
pub finds_event : (s t : IntakeState) (n : ℕ) (front : List ℕ) (size : ℕ) (given : List ℕ) → FindsLine (Some n) s → front ≡ take n s.left → SizeOf front size
    → ((most_file - s.place) < size → ⊥) → t.left ≡ s.left ++ given → t.place ≡ s.place → HasBytes true size t → FindsEvent (Some size) t
finds_event s t n front size given l is sized fits left place has =
    let some : 0 < size = size_some front size sized in (
      some,
      has,
      in_time (s.place) (t.place) size place some fits,
      still_of_size s t given size left place (sized_by s n front size l is sized),
    )
  where
    in_time : (p q size : ℕ) → q ≡ p → 0 < size → ((most_file - p) < size → ⊥) → q + size ≤ most_file
    in_time p q size e some h = omega (arith, e, some, h)
