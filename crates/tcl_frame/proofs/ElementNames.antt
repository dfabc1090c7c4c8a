-- Which names mean an element.
use Rattle.std.proofs.Common.{◌≡◌, ◌⊎◌, inl, inr, ℕ, suc, ◌+◌, ◌-◌, Bool, true, false, List, [], ◌∷◌, ◌++◌, length, take, get_or, refl, sym, ap, ◌∙◌, cond, arith, length-append, append_assoc}
use Rattle.std.specs.Prelude.{Option, Some, None, position, slice_index, slice_range, is_some, if◌then◌else◌}
use Rattle.std.specs.List.{position_from}
use Rattle.std.proofs.Math.Seq.{take-append_seam, drop-append-add, get_or-append_seam}
use Rattle.std.proofs.lemmas.Bool.{true≢false, eqb-true}
use Rattle.std.proofs.lemmas.List.{get_or-append-add}
use Rattle.std.proofs.lemmas.Iterator.Adapters.{position_from-zero}
use Rattle.tcl_frame.specs.Names.{Whole, Element, is_opening, is_closing, is_closed, named_at, named, element_name, HoldsNoOpening}
use Rattle.tcl_frame.proofs.Tops.{last_split}

-- the first `(` stands behind a front that holds none
place_behind : (front rest : List ℕ) (k : ℕ) → HoldsNoOpening front → position_from is_opening k (front ++ 40 ∷ rest) ≡ Some (k + length front)
place_behind [] rest k h = ap Some (omega arith)
place_behind (b ∷ front) rest k h =
    ap (λ o. cond o (Some k) (position_from is_opening (k + 1) (front ++ 40 ∷ rest))) h.0 ∙ place_behind front rest (k + 1) h.1 ∙ ap Some (omega arith)

-- a list is closed by its last byte
closed_by : (front : List ℕ) (b : ℕ) → is_closed (front ++ b ∷ []) ≡ is_closing b
closed_by front b =
    let last : length (front ++ b ∷ []) - 1 ≡ length front = omega (arith, length-append front (b ∷ [])) in
    ap (λ k. is_closing (slice_index (front ++ b ∷ []) k)) last ∙ ap is_closing (get_or-append_seam front b [] 0)

-- the parts of an element's name
parts_of : (array index : List ℕ) → named_at (element_name array index) (Some (length array)) ≡ Element array index
parts_of array index =
    let rest = index ++ 41 ∷ [] in
    let count : length (element_name array index) - 1 - (length array + 1) ≡ length index = omega (arith, length-append array (40 ∷ rest), length-append index (41 ∷ [])) in
    ap (λ front. Element front (slice_range (element_name array index) (length array + 1) (length (element_name array index) - 1))) (take-append_seam array (40 ∷ rest))
    ∙ ap (λ back. Element array (take (length (element_name array index) - 1 - (length array + 1)) back)) (drop-append-add array (40 ∷ rest) 1)
    ∙ ap (λ n. Element array (take n rest)) count
    ∙ ap (Element array) (take-append_seam index (41 ∷ []))

-- an element's name means the element
pub formed : (array index : List ℕ) → HoldsNoOpening array → named (element_name array index) ≡ Element array index
formed array index h =
    let name = element_name array index in
    let closed : is_closed name ≡ true = ap is_closed (sym (append_assoc array (40 ∷ index) (41 ∷ []))) ∙ closed_by (array ++ 40 ∷ index) 41 in
    let place : position is_opening name ≡ Some (length array) = position_from-zero is_opening name ∙ place_behind array (index ++ 41 ∷ []) 0 h ∙ ap Some (omega arith) in
    ap (λ b. if b then named_at name (position is_opening name) else Whole name) closed ∙ ap (named_at name) place ∙ parts_of array index

-- a list that is cut at a `(` before which there is none
abbrev pub Cut : List ℕ → Type 0
Cut xs = (front : List ℕ) × (rest : List ℕ) × (xs ≡ front ++ 40 ∷ rest) × HoldsNoOpening front

cut_or_go_on : (x : ℕ) (xs : List ℕ) (k at : ℕ) (b : Bool) → is_opening x ≡ b → (position_from is_opening (k + 1) xs ≡ Some at → Cut xs)
    → cond b (Some k) (position_from is_opening (k + 1) xs) ≡ Some at → Cut (x ∷ xs)
cut_or_go_on x xs k at true is go_on e = ([], xs, ap (λ y. y ∷ xs) (eqb-true x 40 is), tt)
cut_or_go_on x xs k at false is go_on e = let further = go_on e in (x ∷ further.0, further.1, ap (λ ys. x ∷ ys) further.2, (is, further.3))

-- where the first `(` stands, the list is cut there
cut_at : (xs : List ℕ) (k at : ℕ) → position_from is_opening k xs ≡ Some at → Cut xs
cut_at [] k at e = absurd (true≢false (sym (ap is_some e)))
cut_at (x ∷ xs) k at e = cut_or_go_on x xs k at (is_opening x) refl (cut_at xs (k + 1) at) e

-- a name that is spelled as an element's
abbrev pub Spelled : List ℕ → Type 0
Spelled name = (array : List ℕ) × (index : List ℕ) × (name ≡ element_name array index) × HoldsNoOpening array

-- a closed name with a `(` is spelled as an element's
spelled_at : (name front rest : List ℕ) → name ≡ front ++ 40 ∷ rest → HoldsNoOpening front → is_closed name ≡ true → Spelled name
spelled_at name front [] is free closed = absurd (true≢false (sym closed ∙ ap is_closed is ∙ closed_by front 40))
spelled_at name front (r ∷ rs) is free closed =
    let rest = r ∷ rs in
    let split = last_split rest 0 (length rs) (omega arith) in
    let last : length (front ++ 40 ∷ rest) - 1 ≡ length front + suc (length rs) = omega (arith, length-append front (40 ∷ rest)) in
    let byte : get_or rest (length rs) 0 ≡ 41 = eqb-true _ 41 (
    ap is_closing (sym (get_or-append-add front (40 ∷ rest) (suc (length rs)) 0)) ∙ ap (λ k. is_closing (slice_index (front ++ 40 ∷ rest) k)) (sym last)
    ∙ ap is_closed (sym is) ∙ closed
    ) in
    (front, split.0, is ∙ ap (λ ys. front ++ 40 ∷ ys) (split.2 ∙ ap (λ b. split.0 ++ b ∷ []) byte), free)

-- a name means a whole variable, or is spelled as an element's
kinds : (name : List ℕ) (closed : Bool) (place : Option ℕ) → is_closed name ≡ closed → position is_opening name ≡ place → (named name ≡ Whole name) ⊎ Spelled name
kinds name false place c p = inl (ap (λ b. if b then named_at name (position is_opening name) else Whole name) c)
kinds name true None c p = inl (ap (λ b. if b then named_at name (position is_opening name) else Whole name) c ∙ ap (named_at name) p)
kinds name true (Some at) c p =
    let cut = cut_at name 0 at (sym (position_from-zero is_opening name) ∙ p) in
    inr (spelled_at name cut.0 cut.1 cut.2 cut.3 c)

pub kind_of : (name : List ℕ) → (named name ≡ Whole name) ⊎ Spelled name
kind_of name = kinds name (is_closed name) (position is_opening name) refl refl
