-- Going over items by their names.
use Rattle.std.proofs.Common.{◌≡◌, ℕ, ◌+◌, ◌<◌, ◌≤◌, List, ◌∷◌, length, drop, get_or, map, true, false, refl, ap, ◌∙◌, add-one, arith}
use Rattle.std.specs.Prelude.{bytes_eq}
use Rattle.std.proofs.Math.Seq.{drop-cons, drop-length}
use Rattle.natives.specs.Names.{has_name}

-- behind an item stand the others
next_item : {A : Type 0} (xs : List A) (i : ℕ) (x : A) → i < length xs → x ≡ get_or xs i x → drop i xs ≡ x ∷ drop (i + 1) xs
next_item xs i x lt e = drop-cons xs i x lt ∙ rw (← e, add-one) refl

-- where the item has another name, the name is among the others or not
pub other_name : {A : Type 0} (f : A → List ℕ) (xs : List A) (i : ℕ) (x : A) (name : List ℕ) → i < length xs → x ≡ get_or xs i x → bytes_eq (f x) name ≡ false → has_name (map f (drop i xs)) name ≡ has_name (map f (drop (i + 1) xs)) name
other_name f xs i x name lt e absent = ap (λ ys. has_name (map f ys) name) (next_item xs i x lt e) ∙ rw absent refl

-- where it has the name, the name is there
pub this_name : {A : Type 0} (f : A → List ℕ) (xs : List A) (i : ℕ) (x : A) (name : List ℕ) → i < length xs → x ≡ get_or xs i x → bytes_eq (f x) name ≡ true → has_name (map f (drop i xs)) name ≡ true
this_name f xs i x name lt e found = ap (λ ys. has_name (map f ys) name) (next_item xs i x lt e) ∙ rw found refl

-- behind all items no name is
pub no_name : {A : Type 0} (f : A → List ℕ) (xs : List A) (i : ℕ) (name : List ℕ) → length xs ≤ i → i ≤ length xs → has_name (map f (drop i xs)) name ≡ false
no_name f xs i name le ge =
    let end : i ≡ length xs = omega arith in
    rw (end, drop-length xs) refl
