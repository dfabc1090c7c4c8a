-- At most one event stands at the front of what is left.
use Rattle.std.proofs.Common.{◌≡◌, ℕ, ◌+◌, ◌≤◌, List, [], ◌++◌, length, length-append, take, drop, refl, sym, ap, ◌∙◌}
use Rattle.std.proofs.lemmas.List.{append_cancel_right, take-append-le}
use Rattle.std.proofs.Math.Seq.{take-append_seam, drop-append_seam}
use Rattle.rehearse.specs.declared.head.Head.{Head}
use Rattle.rehearse.specs.declared.head.Head.TheVariants as heads
use Rattle.rehearse.specs.Events.{Event, page, define, connect, line_end, block_of, block_end, spelled}
use Rattle.rehearse.specs.Files.{ComesNext}
use Rattle.rehearse.specs.Playing.{HasFew}
use Rattle.rehearse.specs.Reading.{IsShort, HasHead}
use Rattle.rehearse.specs.World.{World}
use Rattle.rehearse.proofs.Cutting.{cuts_same}
use Rattle.rehearse.proofs.Spelling.{line_words, head_for, head_for_has, head_for_is, event_has}
use Rattle.rehearse.proofs.EventReading.{whole_cut}
use Rattle.rehearse.proofs.Finding.{may_be_short, comes_cut}

same_parts : (a b s t : List ℕ) → length a ≡ length b → a ++ s ≡ b ++ t → (a ≡ b) × (s ≡ t)
same_parts a b s t n e =
    let f : take (length a) (a ++ s) ≡ take (length b) (b ++ t) = cc in
    let g : drop (length a) (a ++ s) ≡ drop (length b) (b ++ t) = cc in
    (sym (take-append_seam a s) ∙ f ∙ take-append_seam b t, sym (drop-append_seam a s) ∙ g ∙ drop-append_seam b t)

-- a block is read in one way
same_block : (a b s t : List ℕ) → length a ≡ length b → (a ++ line_end) ++ s ≡ (b ++ line_end) ++ t → (a ≡ b) × (s ≡ t)
same_block a b s t n e =
    let len : length (a ++ line_end) ≡ length (b ++ line_end) =
    length-append a line_end ∙ ap (λ (m : ℕ). m + 1) n ∙ sym (length-append b line_end) in
    let p : (a ++ line_end ≡ b ++ line_end) × (s ≡ t) = same_parts (a ++ line_end) (b ++ line_end) s t len e in
    (append_cancel_right a b line_end p.0, p.1)

abbrev Same : Event → List ℕ → Event → List ℕ → Type 0
Same d r e s = (d ≡ e) × (r ≡ s)

-- what is behind both lines, by the blocks of other events that are the same
moved : (d e f g : Event) (r s : List ℕ) → d ≡ f → e ≡ g → block_end (block_of d) ++ r ≡ block_end (block_of e) ++ s → block_end (block_of f) ++ r ≡ block_end (block_of g) ++ s
moved d e f g r s p q is = sym (ap (λ (x : Event). block_end (block_of x) ++ r) p) ∙ is ∙ ap (λ (x : Event). block_end (block_of x) ++ s) q

-- two events of one line
same_event : (h : Head) (d e : Event) (r s : List ℕ) → HasHead h d → HasHead h e → block_end (block_of d) ++ r ≡ block_end (block_of e) ++ s → Same d r e s
same_event (heads.Workers count) d e r s p q is = (p ∙ sym q, moved d e _ _ r s p q is)
same_event (heads.Clock moment) d e r s p q is = (p ∙ sym q, moved d e _ _ r s p q is)
same_event (heads.Page path size) d e r s p q is =
    let one : (p.0 ≡ q.0) × (r ≡ s) = same_block p.0 q.0 r s (p.1 ∙ sym q.1) (moved d e (page path.now p.0) (page path.now q.0) r s p.2 q.2 is) in
    (p.2 ∙ ap (λ (t : List ℕ). page path.now t) one.0 ∙ sym q.2, one.1)
same_event (heads.Define size) d e r s p q is =
    let one : (p.0 ≡ q.0) × (r ≡ s) = same_block p.0 q.0 r s (p.1 ∙ sym q.1) (moved d e (define p.0) (define q.0) r s p.2 q.2 is) in
    (p.2 ∙ ap define one.0 ∙ sym q.2, one.1)
same_event (heads.Connect number size) d e r s p q is =
    let one : (p.0 ≡ q.0) × (r ≡ s) = same_block p.0 q.0 r s (p.1 ∙ sym q.1) (moved d e (connect number p.0) (connect number q.0) r s p.2 q.2 is) in
    (p.2 ∙ ap (λ (t : List ℕ). connect number t) one.0 ∙ sym q.2, one.1)
same_event (heads.Step actor) d e r s p q is = (p ∙ sym q, moved d e _ _ r s p q is)
same_event (heads.Run actor) d e r s p q is = (p ∙ sym q, moved d e _ _ r s p q is)

pub event_unique : (world : World) (place : ℕ) (left : List ℕ) (d e : Event) → HasFew world → (c : ComesNext world place left d) → (k : ComesNext world place left e)
    → (d ≡ e) × (c.rest ≡ k.rest)
event_unique world place left d e few c k =
    let s : (line_words d ≡ line_words e) × (block_end (block_of d) ++ c.rest ≡ block_end (block_of e) ++ k.rest) =
    cuts_same 10 left (line_words d, block_end (block_of d) ++ c.rest) (line_words e, block_end (block_of e) ++ k.rest)
    (comes_cut world place left d few c) (comes_cut world place left e few k) in
    let other : HasHead (head_for d) e =
    event_has e (head_for d) (line_words d) (may_be_short world e few k.may_come) (head_for_is d (may_be_short world d few c.may_come)) (sym s.0) in
    same_event (head_for d) d e c.rest k.rest (head_for_has d) other s.1

-- short events that are spelled so are the same
pub spelled_once : (d e : Event) → IsShort d → IsShort e → spelled d ≡ spelled e → d ≡ e
spelled_once d e short other is =
    let s : (line_words d ≡ line_words e) × (block_end (block_of d) ≡ block_end (block_of e)) =
    cuts_same 10 (spelled d) (line_words d, block_end (block_of d)) (line_words e, block_end (block_of e)) (whole_cut d (spelled d) short refl) (whole_cut e (spelled d) other is) in
    let has : HasHead (head_for d) e = event_has e (head_for d) (line_words d) other (head_for_is d short) (sym s.0) in
    (same_event (head_for d) d e [] [] (head_for_has d) has (ap (λ (t : List ℕ). t ++ []) s.1)).0

-- the front of what is left, which is as long as an event that comes next, is that event
pub front_spelled : (world : World) (place : ℕ) (left more : List ℕ) (e : Event) (size : ℕ) → size ≤ length left → length (spelled e) ≡ size
    → ComesNext world place (left ++ more) e → take size left ≡ spelled e
front_spelled world place left more e size fits len c =
    sym (take-append-le size left more fits) ∙ ap (take size) c.spelled_here ∙ ap (λ (n : ℕ). take n (spelled e ++ c.rest)) (sym len)
    ∙ take-append_seam (spelled e) c.rest
