-- What the getters of `clap` give, by the rows that were found.
use Rattle.std.proofs.Common.{◌≡◌, ◌∙◌, ap, ℕ, List, [], Option, Some, None, refl, sym}
use Rattle.std.specs.Prelude.{IfOk, Ok, Result, unwrap_or}
use Rattle.std.specs.Option.{ok_or}
use Rattle.std.specs.Str.Parse.{ParsesUnsigned, digits_value, without_leading_plus}
use Rattle.clap.specs.Words.{ReadsOne, Text, first_of, first_value, one_text, rows_of}
use Rattle.clap.specs.declared.parser.matches.Found.{Found}
use Rattle.clap.proofs.WalkLemmas.{first_value-rows, one_text-rows}
use Rattle.serve_options.specs.Reading.{number_of}

-- the first value of an option
pub text_found : (f : Found) (id : Text) → first_value f id ≡ first_of id (rows_of f)
text_found f id = first_value-rows f id

module _ {E X : Type 0} (G : List ℕ → Result ℕ E → Type 0) (k : ℕ) (f : Found) (id : Text) (e : X)
    (only : (u : List ℕ) (x : Result ℕ E) → G u x → ParsesUnsigned k 10 u x) where
  by_text : (o : Option Text) → one_text f id ≡ o → (r : Option ℕ) → (one_text f id ≡ None → r ≡ None)
      → ((t : List ℕ) → one_text f id ≡ Some t → ReadsOne G t r)
      → IfOk (ok_or r e) (λ n. n ≡ number_of id (rows_of f))
  by_text None is None none value = tt
  by_text (Some t) is None none value = tt
  by_text None is (Some v) none value =
      let bad : Some v ≡ None = none is in
      cc
  by_text (Some t) is (Some v) none value =
      let parsed = only t (Ok v) (value t is) in
      parsed.1 ∙ ap (λ (o : Option Text). digits_value 10 (without_leading_plus (unwrap_or o []))) (sym is ∙ one_text-rows f id)

  -- the number that a getter reads
  pub number_found : (r : Option ℕ) → (one_text f id ≡ None → r ≡ None)
      → ((t : List ℕ) → one_text f id ≡ Some t → ReadsOne G t r)
      → IfOk (ok_or r e) (λ n. n ≡ number_of id (rows_of f))
  number_found r none value = by_text (one_text f id) refl r none value
