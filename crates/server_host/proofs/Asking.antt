-- What `nsv_names` asks.
use Rattle.std.proofs.Common.{◌≡◌, ◌≤◌, ◌<◌, ℕ, zero, suc, refl, arith, List, [], ◌∷◌, length, Bool, true, false, Option, Some}
use Rattle.std.specs.Prelude.{decimal, is_some, if◌then◌else◌}
use Rattle.std.specs.Fmt.{digits}
use Rattle.txt_core.specs.Limits.{bucket_count}
use Rattle.nsv_bucket.specs.Questions.{is_bucket_number}
use Rattle.server_host.specs.Sharing.{is_question, names_question}

-- what is so is found
shown : {A : Type 0} (is : Bool) (found : A) (other : Option A) → is ≡ true → is_some (if is then Some found else other) ≡ true
shown true found other h = refl
shown false found other h = absurd (let no : false ≡ true = h in cc)

-- the number of a bucket is written as one
digit : (bucket : ℕ) → bucket < bucket_count → is_bucket_number (decimal bucket) ≡ true
unfolding digits
digit zero lt = refl
digit (suc zero) lt = refl
digit (suc (suc zero)) lt = refl
digit (suc (suc (suc zero))) lt = refl
digit (suc (suc (suc (suc zero)))) lt = refl
digit (suc (suc (suc (suc (suc zero))))) lt = refl
digit (suc (suc (suc (suc (suc (suc zero)))))) lt = refl
digit (suc (suc (suc (suc (suc (suc (suc zero))))))) lt = refl
digit (suc (suc (suc (suc (suc (suc (suc (suc n)))))))) lt = absurd (omega arith)

pub names_are_questions : (words : List (List ℕ)) (bucket : ℕ) → length words ≤ 2 → bucket < bucket_count → is_question (names_question words bucket).words ≡ true
names_are_questions [] bucket le lt = shown (is_bucket_number (decimal bucket)) _ _ (digit bucket lt)
names_are_questions (name ∷ []) bucket le lt = shown (is_bucket_number (decimal bucket)) _ _ (digit bucket lt)
names_are_questions (name ∷ pattern ∷ []) bucket le lt = shown (is_bucket_number (decimal bucket)) _ _ (digit bucket lt)
names_are_questions (name ∷ pattern ∷ more ∷ words) bucket le lt = absurd (omega arith)
