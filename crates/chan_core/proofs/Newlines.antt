-- What a search for a newline says of the line at the front.
use Rattle.std.proofs.Common.{◌≡◌, ℕ, ◌<◌, ◌≤◌, Bool, true, false, List, [], ◌∷◌, ◌++◌, Some, None, length, drop, get_or, sym, ap, ◌∙◌, arith, ⊎_elim, inl, inr, length-take, get_or-take}
use Rattle.std.proofs.lemmas.Bool.{cases_Bool, cases_lt, eqb-true, eq-eqb, both_ways}
use Rattle.std.proofs.lemmas.List.Sums.{position_or_len_is, passes_at_first, fails_before_first, split_at_first}
use Rattle.std.proofs.Math.ListN.{drop_of_length-le}
use Rattle.std.proofs.lemmas.List.{take_all}
use Rattle.std.specs.Option.{IfSome}
use Rattle.std.specs.List.{position_or_len, before_first}
use Rattle.txt_core.specs.Texts.{is_newline}
use Rattle.memchr.specs.Find.{IsFirstByte, is_byte}
use Rattle.chan_core.specs.Lines.{line_of, behind_line, IsLine}

not_true : (b : Bool) → (b ≡ true → ⊥) → b ≡ false
not_true b fails = ⊎_elim (λ (is : b ≡ true). absurd (fails is)) (λ (is : b ≡ false). is) (cases_Bool b)

-- the newline that is found is the first
pub found : (bytes : List ℕ) (at : ℕ) → IsFirstByte (is_byte 10) bytes (Some at) → position_or_len is_newline bytes ≡ at
found bytes at first =
    let within : at < length bytes = first.0.high in
    position_or_len_is is_newline bytes at 0 (omega arith) (λ k below. not_true _ (first.0.before k (omega arith) below)) (λ _. first.1)

-- where none is found the line is all
pub not_found : (bytes : List ℕ) → IsFirstByte (is_byte 10) bytes None → position_or_len is_newline bytes ≡ length bytes
not_found bytes nowhere = position_or_len_is is_newline bytes (length bytes) 0 (omega arith) (λ k below. not_true _ (nowhere k (omega arith) below)) (λ less. absurd (omega arith))

pub behind_all : (bytes : List ℕ) → position_or_len is_newline bytes ≡ length bytes → drop (length bytes) bytes ≡ behind_line bytes
behind_all bytes e = drop_of_length-le bytes (omega arith) ∙ sym (drop_of_length-le bytes (omega (arith, e)))

-- the parts of a line are the bytes that it was taken from
parts : (bytes : List ℕ) → IsLine bytes (before_first is_newline bytes) (behind_line bytes)
parts bytes = record {
  whole =
      ⊎_elim
      (λ (has : position_or_len is_newline bytes < length bytes).
      let here : get_or bytes (position_or_len is_newline bytes) 0 ≡ 10 = eqb-true _ 10 (passes_at_first is_newline bytes 0 has) in
      inl (split_at_first is_newline bytes 0 has ∙ ap (λ b. before_first is_newline bytes ++ (b ∷ behind_line bytes)) here))
      (λ (ends : length bytes ≤ position_or_len is_newline bytes). inr (sym (take_all (position_or_len is_newline bytes) bytes ends), drop_of_length-le bytes (omega arith)))
      (cases_lt (position_or_len is_newline bytes) (length bytes));
  one = λ k within.
      let low : k < position_or_len is_newline bytes = omega (arith, length-take (position_or_len is_newline bytes) bytes) in
      let fails = fails_before_first is_newline bytes k 0 low in
      λ is. both_ways (is_newline (get_or bytes k 0)) fails (eq-eqb _ 10 (sym (get_or-take (position_or_len is_newline bytes) bytes k 0 low) ∙ is));
}

pub line_parts : (bytes : List ℕ) → IfSome (line_of bytes) (λ line. IsLine bytes line (behind_line bytes))
line_parts [] = tt
line_parts (b ∷ bytes) = parts (b ∷ bytes)
