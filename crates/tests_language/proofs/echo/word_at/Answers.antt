use Rattle.std.proofs.Common.{◌≡◌, ℕ, List, [], Option, None, ap, ◌∙◌}
use Rattle.std.specs.Prelude.{slice_get, unwrap_or}
use Rattle.std.proofs.lemmas.Option.{unwrap_or-slice_get}
use Rattle.natives.specs.Words.{arg}
use Rattle.tests_language.proofs.echo.word_at.Goals as goal

-- where no word stands, the empty text is told
no_word : (words : List (List ℕ)) (place : ℕ) → None ≡ slice_get words place → [] ≡ arg words place
no_word words place none = ap (λ (o : Option (List ℕ)). unwrap_or o []) none ∙ unwrap_or-slice_get words place []

pub returns-in-None : goal.returns-in-None
returns-in-None c = no_word c.args.words.now c.args.place c.in-None.ensures
