-- Parts of a pattern, one after another.
use Rattle.std.proofs.Common.{◌≡◌, ◌∙◌, ap, sym, refl, ℕ, zero, suc, ◌+◌, List, [], ◌∷◌, length, drop, Bool, true, false, Option, None, Some, arith}
use Rattle.std.proofs.lemmas.List.{drop-drop}
use Rattle.std.specs.Prelude.{option_map, ◌==◌, if◌then◌else◌}
use Rattle.natives.specs.Parts.{Form, Part, itself, form, taken_by, all_digits, form_by, form_at, in_front, form_in_front, parts_behind, parts}
use Rattle.txt_core.specs.Digits.{value_of}
use Rattle.txt_core.specs.Texts.{begins_with}
use Rattle.tcl_string.specs.Patterns.{with_rest, behind_flags, as_part, first_part}

-- what is behind a form, by what is behind its flags
rest_of : (front fill digits : ℕ) (t : List ℕ) (found : Option Form)
    → with_rest t (option_map (λ (f : Form). (f, front + fill + digits + 1)) found) ≡ option_map (λ (f : Form). (f, drop (digits + 1) (drop fill (drop front t)))) found
rest_of front fill digits t None = refl
rest_of front fill digits t (Some f) =
    let same : front + fill + (digits + 1) ≡ front + fill + digits + 1 = omega arith in
    ap (λ (r : List ℕ). Some (f, r)) (sym (ap (drop (digits + 1)) (drop-drop fill front t) ∙ drop-drop (digits + 1) (front + fill) t ∙ ap (λ (n : ℕ). drop n t) same))

pub rest_at : (t : List ℕ) → with_rest t (form_at t) ≡ behind_flags (begins_with 45 t) (begins_with 48 (drop (taken_by (begins_with 45 t)) t)) (drop (taken_by (begins_with 48 (drop (taken_by (begins_with 45 t)) t))) (drop (taken_by (begins_with 45 t)) t))
unfolding form_at
rest_at t =
    let left : Bool = begins_with 45 t in
    let zeros : Bool = begins_with 48 (drop (taken_by (begins_with 45 t)) t) in
    let u : List ℕ = drop (taken_by zeros) (drop (taken_by left) t) in
    rest_of (taken_by left) (taken_by zeros) (length (all_digits u)) t (form_by left zeros (value_of 10 (all_digits u)) (drop (length (all_digits u)) u))

-- the form at the front, flag by flag
pub flags_at : (t u v : List ℕ) (left fill : Bool) → left ≡ begins_with 45 t → u ≡ drop (taken_by (begins_with 45 t)) t → fill ≡ begins_with 48 u → v ≡ drop (taken_by (begins_with 48 u)) u → behind_flags left fill v ≡ with_rest t (form_at t)
flags_at t u v left fill l e z f = rw (f, l, z, e) (sym (rest_at t))

-- bytes that belong to a form are passed over
pub skipped : (t : List ℕ) (skip : ℕ) → parts_behind t skip ≡ parts (drop skip t)
unfolding parts_behind
skipped [] zero = refl
skipped [] (suc skip) = refl
skipped (b ∷ t) zero = refl
skipped (b ∷ t) (suc skip) = skipped t skip

-- a part, and the parts of what is behind it
abbrev pub follow : Option (Part × List ℕ) → Option (List Part)
follow None = None
follow (Some f) = in_front f.0 (parts f.1)

follow_form : (t : List ℕ) (found : Option (Form × ℕ)) → form_in_front found (λ skip. parts_behind t skip) ≡ follow (as_part (with_rest t found))
follow_form t None = refl
follow_form t (Some f) = ap (in_front (form f.0)) (skipped t f.1)

follow_first : (is : Bool) (b : ℕ) (t : List ℕ) → (if is then form_in_front (form_at t) (λ skip. parts_behind t skip) else in_front (itself b) (parts_behind t 0)) ≡ follow (if is then as_part (with_rest t (form_at t)) else Some (itself b, t))
follow_first true b t = follow_form t (form_at t)
follow_first false b t = refl

pub parts_first : (b : ℕ) (t : List ℕ) → parts (b ∷ t) ≡ follow (first_part b t)
unfolding parts_behind
parts_first b t = follow_first (b == 37) b t
