-- A file has one list of events, one listing and one end.
use Rattle.std.proofs.Common.{◌≡◌, ℕ, ◌+◌, ◌≤◌, List, [], ◌∷◌, ◌++◌, length, refl, sym, subst, ap, ◌∙◌, append_assoc, length-append, zero-add, arith}
use Rattle.rehearse.specs.Events.{Event, most_file, spelled, file_of}
use Rattle.rehearse.specs.Files.{ComesNext, End, whole, bad, EndsAs, Opens, Holds}
use Rattle.rehearse.specs.Lines.{Line}
use Rattle.rehearse.specs.Plays.{Plays, Lists, no_event, one_event}
use Rattle.rehearse.specs.Playing.{HasFew}
use Rattle.rehearse.specs.World.{World, opening}
use Rattle.rehearse.proofs.Fronts.{event_unique}
use Rattle.rehearse.proofs.OneListing.{HasAllowed, opens_allowed, plays_one, plays_keep}
use Rattle.rehearse.proofs.Played.{plays_few, spelled_some}

-- The end behind so many events that take so many bytes.
abbrev EndsAt : End → World → ℕ → ℕ → List ℕ → Type 0
EndsAt whole world count place left = left ≡ []
EndsAt (bad event) world count place left =
    (event ≡ count + 1) × ¬ (left ≡ []) × ((e : Event) → ¬ (ComesNext world place left e))

ends_at : (end : End) (world : World) (events : List Event) (left : List ℕ) → EndsAs end world events left
    → EndsAt end world (0 + length events) (0 + length (file_of events)) left
ends_at whole world events left h = h
ends_at (bad event) world events left h = (
  omega (arith, h.0),
  h.1,
  subst (λ (n : ℕ). (e : Event) → ¬ (ComesNext world n left e)) (sym (zero-add (length (file_of events)))) h.2,
)

moved : (end : End) (world : World) (m n p q : ℕ) (left : List ℕ) → m ≡ n → p ≡ q → EndsAt end world m p left → EndsAt end world n q left
moved end world m n p q left e f h =
    subst (λ (x : ℕ). EndsAt end world x q left) e (subst (λ (x : ℕ). EndsAt end world m x left) f h)

-- where an event comes next is no end
no_end : (end : End) (world : World) (count place : ℕ) (left : List ℕ) (e : Event) → EndsAt end world count place left → ComesNext world place left e → ⊥
no_end whole world count place left e h next =
    let len : length left ≡ length (spelled e) + length next.rest = ap length next.spelled_here ∙ length-append (spelled e) next.rest in
    let none : length left ≡ 0 = ap length h in
    omega (arith, len, none, spelled_some e)
no_end (bad event) world count place left e h next = h.2 e next

-- the first of the events comes next
first_next : (world after : World) (place : ℕ) (text : List ℕ) (lines : List Line) (e : Event) (events : List Event) (left : List ℕ)
    → text ≡ (spelled e ++ file_of events) ++ left → place + length (spelled e ++ file_of events) ≤ most_file → Plays world e lines after
    → ComesNext world place text e
first_next world after place text lines e events left is fits plays = record {
  rest = file_of events ++ left;
  spelled_here = is ∙ append_assoc (spelled e) (file_of events) left;
  in_time = omega (arith, fits, length-append (spelled e) (file_of events));
  may_come = plays.may_come;
}

same_end : (x y : End) (a b : World) (m n p q : ℕ) (r s : List ℕ) → m ≡ n → r ≡ s → EndsAt x a m p r → EndsAt y b n q s → x ≡ y
same_end whole whole a b m n p q r s e f h k = refl
same_end whole (bad j) a b m n p q r s e f h k = absurd (k.1 (sym f ∙ h))
same_end (bad i) whole a b m n p q r s e f h k = absurd (h.1 (f ∙ k))
same_end (bad i) (bad j) a b m n p q r s e f h k = ap bad (h.0 ∙ ap (λ (t : ℕ). t + 1) e ∙ sym k.0)

more_count : (count : ℕ) (e : Event) (events : List Event) → count + length (e ∷ events) ≡ (count + 1) + length events
more_count count e events = omega arith

more_place : (place : ℕ) (a b : List ℕ) → place + length (a ++ b) ≡ (place + length a) + length b
more_place place a b = omega (arith, length-append a b)

files_same : {world a b : World} {d e : List Event} {l m : List Line} (count place : ℕ) (text r s : List ℕ) (x y : End)
    → HasFew world → HasAllowed world → Lists world d l a → Lists world e m b
    → text ≡ file_of d ++ r → text ≡ file_of e ++ s
    → place + length (file_of d) ≤ most_file → place + length (file_of e) ≤ most_file
    → EndsAt x a (count + length d) (place + length (file_of d)) r
    → EndsAt y b (count + length e) (place + length (file_of e)) s
    → (d ≡ e) × (l ≡ m) × (x ≡ y)
unfolding first_next
files_same {world = world} {a = a} {b = b} count place text r s x y few ok no_event no_event t u f g h k =
    (refl, refl, same_end x y world world (count + 0) (count + 0) (place + 0) (place + 0) r s refl (sym t ∙ u) h k)
files_same {world = world} count place text r s x y few ok no_event (one_event {between = n} {e = e} {events = events} lines others q qs) t u f g h k =
    absurd (no_end x world (count + 0) (place + 0) r e h
    (first_next world n (place + 0) r lines e events s (sym t ∙ u) (omega (arith, g)) q))
files_same {world = world} count place text r s x y few ok (one_event {between = n} {e = d} {events = events} lines others p ps) no_event t u f g h k =
    absurd (no_end y world (count + 0) (place + 0) s d k
    (first_next world n (place + 0) s lines d events r (sym u ∙ t) (omega (arith, f)) p))
files_same {world = world} {a = a} {b = b} count place text r s x y few ok (one_event {between = i} {e = d} {events = ds} lines others p ps) (one_event {between = j} {e = e} {events = es} first rest_lines q qs) t u f g h k =
    let here : ComesNext world place text d = first_next world i place text lines d ds r t f p in
    let there : ComesNext world place text e = first_next world j place text first e es s u g q in
    let event : (d ≡ e) × (file_of ds ++ r ≡ file_of es ++ s) = event_unique world place text d e few here there in
    let played : (lines ≡ first) × (i ≡ j) = plays_one world i j d lines first ok p (subst (λ (z : Event). Plays world z first j) (sym event.0) q) in
    let len : length (spelled d) ≡ length (spelled e) = ap (λ (z : Event). length (spelled z)) event.0 in
    let place_e : place + length (spelled e ++ file_of es) ≡ (place + length (spelled d)) + length (file_of es) = more_place place (spelled e) (file_of es) ∙ ap (λ (z : ℕ). (place + z) + length (file_of es)) (sym len) in
    let rest : (ds ≡ es) × (others ≡ rest_lines) × (x ≡ y) =
    files_same (count + 1) (place + length (spelled d)) (file_of ds ++ r) r s x y (plays_few world i d lines few p) (plays_keep world i d lines ok p) ps
    (subst (λ (w : World). Lists w es rest_lines b) (sym played.1) qs)
    refl event.1
    (omega (arith, f, length-append (spelled d) (file_of ds)))
    (omega (arith, g, place_e))
    (moved x a (count + length (d ∷ ds)) ((count + 1) + length ds) (place + length (spelled d ++ file_of ds)) ((place + length (spelled d)) + length (file_of ds)) r (more_count count d ds) (more_place place (spelled d) (file_of ds)) h)
    (moved y b (count + length (e ∷ es)) ((count + 1) + length es) (place + length (spelled e ++ file_of es)) ((place + length (spelled d)) + length (file_of es)) s (more_count count e es) place_e k) in (
      ap (λ (z : Event). z ∷ ds) event.0 ∙ ap (λ (z : List Event). e ∷ z) rest.0,
      ap (λ (z : List Line). z ++ others) played.0 ∙ ap (λ (z : List Line). first ++ z) rest.1,
      rest.2,
    )

opens_few : (natives : List (List ℕ)) → HasFew (opening natives)
opens_few natives = omega arith

pub file_unique : (natives : List (List ℕ)) (text : List ℕ) (d e : List Event) (l m : List Line) (x y : End) → Holds natives text d l x → Holds natives text e m y → (d ≡ e) × (l ≡ m) × (x ≡ y)
file_unique natives text d e l m x y h k =
    files_same 0 0 text h.left k.left x y (opens_few natives) (opens_allowed natives) h.opens.plays k.opens.plays h.opens.text_is k.opens.text_is
    (omega (arith, h.opens.in_time)) (omega (arith, k.opens.in_time))
    (ends_at x h.world d h.left h.ends) (ends_at y k.world e k.left k.ends)

-- ---- the first events of a file

first_same : {world a b : World} {d e : List Event} {l m : List Line} (count place : ℕ) (text r s : List ℕ) (y : End)
    → HasFew world → HasAllowed world → Lists world d l a → Lists world e m b
    → text ≡ file_of d ++ r → text ≡ file_of e ++ s
    → place + length (file_of d) ≤ most_file → place + length (file_of e) ≤ most_file
    → EndsAt y b (count + length e) (place + length (file_of e)) s
    → (others : List Line) × (m ≡ l ++ others)
unfolding first_next
first_same {m = m} count place text r s y few ok no_event listed t u f g k = (m, refl)
first_same {world = world} count place text r s y few ok (one_event {between = n} {e = d} {events = events} lines others p ps) no_event t u f g k =
    absurd (no_end y world (count + 0) (place + 0) s d k
    (first_next world n (place + 0) s lines d events r (sym u ∙ t) (omega (arith, f)) p))
first_same {world = world} {b = b} count place text r s y few ok (one_event {between = i} {e = d} {events = ds} lines others p ps) (one_event {between = j} {e = e} {events = es} first rest_lines q qs) t u f g k =
    let here : ComesNext world place text d = first_next world i place text lines d ds r t f p in
    let there : ComesNext world place text e = first_next world j place text first e es s u g q in
    let event : (d ≡ e) × (file_of ds ++ r ≡ file_of es ++ s) = event_unique world place text d e few here there in
    let played : (lines ≡ first) × (i ≡ j) = plays_one world i j d lines first ok p (subst (λ (z : Event). Plays world z first j) (sym event.0) q) in
    let len : length (spelled d) ≡ length (spelled e) = ap (λ (z : Event). length (spelled z)) event.0 in
    let place_e : place + length (spelled e ++ file_of es) ≡ (place + length (spelled d)) + length (file_of es) = more_place place (spelled e) (file_of es) ∙ ap (λ (z : ℕ). (place + z) + length (file_of es)) (sym len) in
    let rest : (more : List Line) × (rest_lines ≡ others ++ more) =
    first_same (count + 1) (place + length (spelled d)) (file_of ds ++ r) r s y (plays_few world i d lines few p) (plays_keep world i d lines ok p) ps
    (subst (λ (w : World). Lists w es rest_lines b) (sym played.1) qs)
    refl event.1
    (omega (arith, f, length-append (spelled d) (file_of ds)))
    (omega (arith, g, place_e))
    (moved y b (count + length (e ∷ es)) ((count + 1) + length es) (place + length (spelled e ++ file_of es)) ((place + length (spelled d)) + length (file_of es)) s (more_count count e es) place_e k) in (
      rest.0,
      ap (λ (z : List Line). z ++ rest_lines) (sym played.0) ∙ ap (λ (z : List Line). lines ++ z) rest.1 ∙ sym (append_assoc lines others rest.0),
    )

-- the first events of what a file holds have the first lines of its listing
pub opens_front : (natives : List (List ℕ)) (text : List ℕ) (d e : List Event) (l m : List Line) (world : World) (left : List ℕ) (y : End)
    → Opens natives text d l world left → Holds natives text e m y → (others : List Line) × (m ≡ l ++ others)
opens_front natives text d e l m world left y o k =
    first_same 0 0 text left k.left y (opens_few natives) (opens_allowed natives) o.plays k.opens.plays o.text_is k.opens.text_is
    (omega (arith, o.in_time)) (omega (arith, k.opens.in_time)) (ends_at y k.world e k.left k.ends)
