-- Where a text is cut.
use Rattle.std.proofs.Common.{◌≡◌, ℕ, suc, ◌+◌, ◌-◌, ◌<◌, List, [], ◌∷◌, ◌++◌, length, get_or, take, drop, Bool, true, false, ◌&&◌, refl, sym, ap, ◌∙◌, arith, length-drop, add-one, eq-eqb}
use Rattle.std.specs.Prelude.{◌==◌, not}
use Rattle.std.specs.List.{list_all}
use Rattle.std.proofs.lemmas.List.{take-append-drop, take_all}
use Rattle.std.proofs.lemmas.List.Folds.{list_all-append}
use Rattle.std.proofs.lemmas.Bool.Decides.{nat_tests}
use Rattle.std.proofs.Math.Seq.{drop-cons}
use Rattle.rehearse.specs.Reading.{is_other, CutAt}

pub both : (a b : Bool) → (a && b) ≡ true → (a ≡ true) × (b ≡ true)
both true b h = (refl, h)
both false b h = absurd (cc)

pub and_both : (a b : Bool) → a ≡ true → b ≡ true → (a && b) ≡ true
and_both a b p q = ap (λ (x : Bool). x && b) p ∙ q

-- a byte isn't another one than itself
pub other_self : (c : ℕ) → is_other c c ≡ false
other_self c = ap not (eq-eqb c c refl)

-- bytes of a kind are other bytes than one that isn't of the kind
other_by : (kind : ℕ → Bool) (c b : ℕ) → kind c ≡ false → kind b ≡ true → is_other c b ≡ true
other_by kind c b away has = apart (b == c) refl
  where
    apart : (v : Bool) → (b == c) ≡ v → not v ≡ true
    apart false e = refl
    apart true e = absurd (let same : b ≡ c = grind (arith, nat_tests) in let k : kind b ≡ kind c = ap kind same in cc)

pub all_other : (kind : ℕ → Bool) (c : ℕ) (xs : List ℕ) → kind c ≡ false → list_all kind xs ≡ true → list_all (is_other c) xs ≡ true
all_other kind c [] away h = refl
all_other kind c (x ∷ xs) away h =
    let p : (kind x ≡ true) × (list_all kind xs ≡ true) = both (kind x) (list_all kind xs) h in
    rw (other_by kind c x away p.0, all_other kind c xs away p.1) refl

-- the text is its front, the byte at a place and what is behind it
pub parts_at : (xs : List ℕ) (i c : ℕ) → i < length xs → get_or xs i 0 ≡ c → xs ≡ take i xs ++ c ∷ drop (i + 1) xs
parts_at xs i c h e =
    let seam : drop i xs ≡ get_or xs i 0 ∷ drop (suc i) xs = drop-cons xs i 0 h in
    sym (take-append-drop i xs) ∙ ap (λ (t : List ℕ). take i xs ++ t) (seam ∙ rw (e, add-one) refl)

-- a slice from a place to the end
pub to_end : (xs : List ℕ) (k : ℕ) → take (length xs - k) (drop k xs) ≡ drop k xs
to_end xs k = take_all (length xs - k) (drop k xs) (omega (arith, length-drop k xs))

-- the parts of a text are without a byte where the whole is
pub parts_other : (c : ℕ) (xs ys : List ℕ) → list_all (is_other c) (xs ++ ys) ≡ true → (list_all (is_other c) xs ≡ true) × (list_all (is_other c) ys ≡ true)
parts_other c xs ys h = both (list_all (is_other c) xs) (list_all (is_other c) ys) (sym (list_all-append (is_other c) xs ys) ∙ h)

pub joined_other : (c : ℕ) (xs ys : List ℕ) → list_all (is_other c) xs ≡ true → list_all (is_other c) ys ≡ true → list_all (is_other c) (xs ++ ys) ≡ true
joined_other c xs ys h k = list_all-append (is_other c) xs ys ∙ and_both (list_all (is_other c) xs) (list_all (is_other c) ys) h k

-- where all are others, there is no place to cut
pub no_cut : (c : ℕ) (xs : List ℕ) (x : List ℕ × List ℕ) → list_all (is_other c) xs ≡ true → CutAt c xs x → ⊥
no_cut c xs x h cut =
    let t : list_all (is_other c) (x.0 ++ c ∷ x.1) ≡ true = sym (ap (list_all (is_other c)) cut.1) ∙ h in
    let p : (list_all (is_other c) x.0 ≡ true) × (list_all (is_other c) (c ∷ x.1) ≡ true) = parts_other c x.0 (c ∷ x.1) t in
    let q : (is_other c c ≡ true) × (list_all (is_other c) x.1 ≡ true) = both (is_other c c) (list_all (is_other c) x.1) p.1 in
    let s : is_other c c ≡ false = other_self c in
    absurd (cc (q.0, s))

-- a text is cut in one way
pub cut_unique : (c : ℕ) (p q r s : List ℕ) → list_all (is_other c) p ≡ true → list_all (is_other c) q ≡ true → p ++ c ∷ r ≡ q ++ c ∷ s → (p ≡ q) × (r ≡ s)
cut_unique c [] [] r s hp hq e = (refl, cc)
cut_unique c [] (y ∷ q) r s hp hq e =
    let first : c ≡ y = cc in
    let k : (is_other c y ≡ true) × (list_all (is_other c) q ≡ true) = both _ _ hq in
    let f : is_other c y ≡ is_other c c = ap (is_other c) (sym first) in
    let n : is_other c c ≡ false = other_self c in
    absurd (cc (k.0, f, n))
cut_unique c (x ∷ p) [] r s hp hq e =
    let first : x ≡ c = cc in
    let k : (is_other c x ≡ true) × (list_all (is_other c) p ≡ true) = both _ _ hp in
    let f : is_other c x ≡ is_other c c = ap (is_other c) first in
    let n : is_other c c ≡ false = other_self c in
    absurd (cc (k.0, f, n))
cut_unique c (x ∷ p) (y ∷ q) r s hp hq e =
    let first : x ≡ y = cc in
    let rest : p ++ c ∷ r ≡ q ++ c ∷ s = cc in
    let others_p : (is_other c x ≡ true) × (list_all (is_other c) p ≡ true) = both (is_other c x) (list_all (is_other c) p) hp in
    let others_q : (is_other c y ≡ true) × (list_all (is_other c) q ≡ true) = both (is_other c y) (list_all (is_other c) q) hq in
    let more : (p ≡ q) × (r ≡ s) = cut_unique c p q r s others_p.1 others_q.1 rest in
    (ap (λ (b : ℕ). b ∷ p) first ∙ ap (λ (t : List ℕ). y ∷ t) more.0, more.1)

pub cuts_same : (c : ℕ) (xs : List ℕ) (x y : List ℕ × List ℕ) → CutAt c xs x → CutAt c xs y → (x.0 ≡ y.0) × (x.1 ≡ y.1)
cuts_same c xs x y h k = cut_unique c x.0 y.0 x.1 y.1 h.0 k.0 (sym h.1 ∙ k.1)
