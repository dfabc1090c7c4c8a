-- The words of a list of words.
use Rattle.std.proofs.Common.{◌≡◌, ℕ, List, [], ap, ◌∙◌, Option, None}
use Rattle.std.proofs.lemmas.Option.{unwrap_or-slice_get}
use Rattle.std.specs.Prelude.{slice_get, unwrap_or}
use Rattle.txt_core.specs.Words.{arg}

-- where there is no word at a place, it is the empty text
pub no_word : (words : List (List ℕ)) (place : ℕ) → None ≡ slice_get words place → [] ≡ arg words place
no_word words place none = ap (λ (o : Option (List ℕ)). unwrap_or o []) none ∙ unwrap_or-slice_get words place []
