-- What is carried, as bytes come in behind it.
use Rattle.std.proofs.Common.{◌≡◌, ℕ, ◌+◌, ◌≤◌, ◌<◌, List, ◌++◌, length, take, drop, refl, sym, subst, ap, ◌∙◌, arith, Option}
use Rattle.std.proofs.Math.Seq.{take-add}
use Rattle.std.proofs.lemmas.List.{take-take, length-take, length-drop}
use Rattle.outside.specs.Reading.{Gives, Reads}
use Rattle.outside.specs.declared.source.ReadAnswer.{ReadAnswer}
use Rattle.outside.specs.declared.source.ReadAnswer.TheVariants.{Bytes, Failed}
use Rattle.outside.specs.Reading.{count_of}

-- the bytes that a read gave stand at the front of what it wrote in, and no count falls
pub read_gives : (r s : Option (List ℕ)) (f g : ℕ) (a b : List ℕ) (answer : ReadAnswer) (count : ℕ) → count ≡ count_of answer
    → Reads r f a answer b s g → Gives r (take count b) s
read_gives r s f g a b (Bytes n) count is reads = subst (λ k. Gives r (take k b) s) (sym is) reads.0.given
read_gives r s f g a b Failed count is reads = subst (λ k. Gives r (take k b) s) (sym is) (λ input told. (input, refl, reads.1 ∙ told))

pub read_counts : (r s : Option (List ℕ)) (f g : ℕ) (a b : List ℕ) (answer : ReadAnswer) → Reads r f a answer b s g → f ≤ g
read_counts r s f g a b (Bytes n) reads = reads.1
read_counts r s f g a b Failed reads = reads.2

-- a read gives no more than it has room for
pub read_fits : (r s : Option (List ℕ)) (f g : ℕ) (a b : List ℕ) (answer : ReadAnswer) (count : ℕ) → count ≡ count_of answer
    → Reads r f a answer b s g → count ≤ length a
read_fits r s f g a b (Bytes n) count is reads = omega (arith, is, reads.0.fits)
read_fits r s f g a b Failed count is reads = omega (arith, is)

-- there is no more room than between the two places
pub room_between : (buffer : List ℕ) (n end count : ℕ) → n < end → count ≤ length (drop n (take end buffer)) → n + count ≤ end
room_between buffer n end count within fits = omega (arith, within, fits, length-drop n (take end buffer), length-take end buffer)

-- what was read between two places of a buffer, behind what was carried, is carried behind it
pub carried : (xs grown buffer : List ℕ) (n count end : ℕ) → n + count ≤ end → take n buffer ≡ take n grown → take n grown ≡ xs
    → take (n + count) buffer ≡ xs ++ take count (drop n (take end buffer))
carried xs grown buffer n count end within front old =
    sym (take-take (n + count) end buffer within) ∙ take-add n count (take end buffer)
    ∙ ap (λ l. l ++ take count (drop n (take end buffer))) (take-take n end buffer (omega (arith, within)) ∙ front ∙ old)
