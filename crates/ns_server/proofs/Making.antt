-- The file of a load as a source.
use Rattle.std.proofs.Common.{◌≡◌, ℕ, ◌≤◌, List, [], ◌++◌, take, drop, length, Bool, true, false, Some, refl, ap, sym, ◌∙◌, arith, append_assoc, take-append-drop}
use Rattle.std.specs.Prelude.{◌==◌}
use Rattle.std.proofs.lemmas.Grind.{common_steps}
use Rattle.outside.specs.Reading.{GivesBytes}

-- where not all of a piece was given, some of it is at hand
pub some_at_hand : (left all : List ℕ) → false ≡ (length left == 0) → left ≡ [] → all ≡ []
some_at_hand left all some none = let f : Path Bool false true = some ∙ ap (λ (l : List ℕ). length l == 0) none in cc

given_front : (rest buffer : List ℕ) (count : ℕ) → count ≤ length rest → take count (take count rest ++ drop count buffer) ≡ take count rest
given_front rest buffer count few = grind (arith, common_steps)

-- the first bytes at hand are copied to the front of a buffer, and the others stay
pub first_given : (hand rest copied buffer after : List ℕ) (count : ℕ) → hand ≡ rest → copied ≡ take count rest → count ≤ length rest → after ≡ drop count rest
    → hand ≡ take count (copied ++ drop count buffer) ++ after
first_given hand rest copied buffer after count is copies few left =
    is ∙ sym (take-append-drop count rest)
    ∙ ap (λ (l : List ℕ). l ++ drop count rest) (sym (given_front rest buffer count few))
    ∙ ap (λ (l : List ℕ). take count (l ++ drop count buffer) ++ drop count rest) (sym copies)
    ∙ ap (λ (l : List ℕ). take count (copied ++ drop count buffer) ++ l) (sym left)

some_is : {A : Type 0} (x y : A) → Some x ≡ Some y → x ≡ y
some_is x y e = cc

-- bytes at hand are given, and what is behind them stays
pub made_gives : (before hand behind hand_after behind_after buffer filled : List ℕ) (count : ℕ) → hand ++ behind ≡ before → hand ≡ take count filled ++ hand_after → behind_after ≡ behind
    → count ≤ length buffer → length filled ≡ length buffer → (count ≡ 0 → hand ≡ []) → (hand ≡ [] → behind ≡ [])
    → GivesBytes (Some before) buffer count filled (Some (hand_after ++ behind_after))
made_gives before hand behind hand_after behind_after buffer filled count is gives stays fits kept some none = record {
  fits = fits;
  length_kept = kept;
  given = λ input told. (
    hand_after ++ behind_after,
    sym (some_is _ _ told) ∙ sym is ∙ ap (λ (l : List ℕ). l ++ behind) gives ∙ append_assoc (take count filled) hand_after behind
        ∙ ap (λ (l : List ℕ). take count filled ++ (hand_after ++ l)) (sym stays),
    refl,
  );
  end = λ zero input told. sym (some_is _ _ told) ∙ sym is ∙ ap (λ (l : List ℕ). l ++ behind) (some zero) ∙ none (some zero);
}
