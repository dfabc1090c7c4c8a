-- What a source gives over several reads.
use Rattle.std.proofs.Common.{◌≡◌, ℕ, ◌+◌, ◌≤◌, List, [], ◌∷◌, ◌++◌, length, length-append, take, Option, Some, refl, sym, ap, ◌∙◌, inl, inr, append_assoc, append-nil, arith}
use Rattle.outside.specs.Faults.{Rose}
use Rattle.outside.specs.Reading.{Gives, GivesBytes}

-- No byte was given.
pub gives_none : (a : Option (List ℕ)) → Gives a [] a
gives_none a = λ input is. (input, refl, is)

-- First these bytes and then those were given.
pub gives_more : (a b c : Option (List ℕ)) (first more : List ℕ) → Gives a first b → Gives b more c → Gives a (first ++ more) c
gives_more a b c first more g h = λ input is.
    let x : (left : List ℕ) × (input ≡ first ++ left) × (b ≡ Some left) = g input is in
    let y : (left : List ℕ) × (x.0 ≡ more ++ left) × (c ≡ Some left) = h x.0 x.2 in
    (y.0, x.1 ∙ ap (λ (t : List ℕ). first ++ t) y.1 ∙ sym (append_assoc first more y.0), y.2)

-- Where nothing was left, all was given.
pub gives_all : (a b : Option (List ℕ)) (given : List ℕ) → Gives a given b
    → ((input : List ℕ) → b ≡ Some input → input ≡ [])
    → (input : List ℕ) → a ≡ Some input → input ≡ given
gives_all a b given g end input is =
    let x : (left : List ℕ) × (input ≡ given ++ left) × (b ≡ Some left) = g input is in
    x.1 ∙ ap (λ (t : List ℕ). given ++ t) (end x.0 x.2) ∙ append-nil given

pub no_bytes : (l : List ℕ) → length l ≡ 0 → l ≡ []
no_bytes [] e = refl
no_bytes (x ∷ l) e = absurd (omega (arith, e))

-- A read that gave no byte was at the end, and so it stays.
pub stays_at_end : (told rest rest_after : Option (List ℕ)) (all before after : List ℕ) (count : ℕ) → count ≡ 0
    → Gives told all rest → GivesBytes rest before count after rest_after
    → (input : List ℕ) → told ≡ Some input → rest_after ≡ Some []
stays_at_end told rest rest_after all before after count none g b input is =
    let x : (left : List ℕ) × (input ≡ all ++ left) × (rest ≡ Some left) = g input is in
    let empty : x.0 ≡ [] = b.end none x.0 x.2 in
    let y : (left : List ℕ) × (x.0 ≡ take count after ++ left) × (rest_after ≡ Some left) = b.given x.0 x.2 in
    let len : length x.0 ≡ length (take count after) + length y.0 = ap length y.1 ∙ length-append (take count after) y.0 in
    let zero_len : length x.0 ≡ 0 = ap length empty in
    y.2 ∙ ap (λ (t : List ℕ). Some t) (no_bytes y.0 (omega (arith, len, zero_len)))

-- A count that rose after it had not fallen rose over the whole.
pub rose_since : (before middle after : ℕ) → before ≤ middle → Rose middle after → Rose before after
rose_since before middle after le rose = elim rose [ inl lt ↦ inl (omega arith) | inr is ↦ inr is ]
