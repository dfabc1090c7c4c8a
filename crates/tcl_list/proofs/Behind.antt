-- A list that is kept as it is written, and elements behind it.
use Rattle.std.proofs.Common.{◌≡◌, ℕ, List, [], ◌∷◌, ◌++◌, length, false, Some, Ok, refl, ap, sym, ◌∙◌, subst, arith, append_assoc, append-nil}
use Rattle.txt_core.specs.Counting.{braced, braced_matches}
use Rattle.txt_core.specs.Knowing.{IsWrittenList}
use Rattle.txt_core.specs.Lists.{elements}
use Rattle.txt_core.specs.Listing.{listing}
use Rattle.txt_core.specs.Quoting.{written, quoting}
use Rattle.tcl_list.specs.Answers.{AppendsTo}
use Rattle.tcl_list.specs.Appending.{Begins, spaced}
use Rattle.tcl_list.proofs.Quoting.{listing_quoting}

-- an element in braces, up to the brace that closes it
pub braces_begin : (t x rest : List ℕ) → braced false 0 t ≡ Some (x, rest) → written x ≡ 123 ∷ (x ++ (125 ∷ [])) → Begins (123 ∷ t) rest
braces_begin t x rest found w =
    let cut : t ≡ x ++ (125 ∷ rest) = (braced_matches t x rest found).0 in
    (x, ap (λ (u : List ℕ). 123 ∷ u) (cut ∙ sym (append_assoc x (125 ∷ []) rest)) ∙ ap (λ (u : List ℕ). u ++ rest) (sym w))

-- an element that is written as itself
pub plain_begins : (t x rest : List ℕ) → t ≡ x ++ rest → written x ≡ x → Begins t rest
plain_begins t x rest e w = (x, e ∙ ap (λ (u : List ℕ). u ++ rest) (sym w))

-- an element with nothing behind it is a list
pub last_element : (t rest : List ℕ) → Begins t rest → length rest ≡ 0 → IsWrittenList t
unfolding quoting
last_element t [] h none = (h.0, [], sym (h.1 ∙ append-nil (written h.0)))
last_element t (b ∷ rest) h none = absurd (omega arith)

-- an element in front of a list, with a space between
pub more_elements : (t after : List ℕ) → Begins t (32 ∷ after) → IsWrittenList after → IsWrittenList t
unfolding quoting
more_elements t after h w = (h.0, w.0 ∷ w.1, ap (λ (u : List ℕ). written h.0 ++ (32 ∷ u)) w.2 ∙ sym h.1)

-- elements behind a list that is written are those of the longer list
quoting_spaced : (y : List ℕ) (w v : List (List ℕ)) → quoting ((y ∷ w) ++ v) ≡ quoting (y ∷ w) ++ spaced v
unfolding quoting
quoting_spaced y [] [] = sym (append-nil (written y))
quoting_spaced y [] (x ∷ v) = ap (λ (u : List ℕ). written y ++ (32 ∷ u)) (quoting_spaced x [] v)
quoting_spaced y (z ∷ w) v =
    ap (λ (u : List ℕ). written y ++ (32 ∷ u)) (quoting_spaced z w v)
    ∙ sym (append_assoc (written y) (32 ∷ quoting (z ∷ w)) (spaced v))

pub appends_spaced : (t : List ℕ) (v : List (List ℕ)) → IsWrittenList t → AppendsTo t v (Ok (t ++ spaced v))
appends_spaced t v h =
    let list : List (List ℕ) = h.0 ∷ h.1 in
    (list, subst (λ u. listing u ≡ elements list) h.2 (listing_quoting list), subst (λ u. u ++ spaced v ≡ quoting (list ++ v)) h.2 (sym (quoting_spaced h.0 h.1 v)))

pub written_spaced : (t : List ℕ) (v : List (List ℕ)) → IsWrittenList t → IsWrittenList (t ++ spaced v)
written_spaced t v h = (h.0, h.1 ++ v, subst (λ u. quoting ((h.0 ∷ h.1) ++ v) ≡ u ++ spaced v) h.2 (quoting_spaced h.0 h.1 v))

-- a list of some elements
pub written_list : (v : List (List ℕ)) → (v ≡ [] → ⊥) → IsWrittenList (quoting v)
written_list [] some = absurd (some refl)
written_list (x ∷ v) some = (x, v, refl)
