use Rattle.std.proofs.Common.{◌≡◌, ◌∙◌, sym, subst, List, ℕ, ℤ, rules}
use Rattle.std.specs.Int.{w64}
use Rattle.std.specs.Int.RustNames.{FitsSigned}
use Rattle.std.proofs.lemmas.Int.{to_z-of_z}
use Rattle.natives.specs.Answers.{Says}
use Rattle.txt_core.specs.ErrorTexts.{no_integer}
use Rattle.natives.specs.Checks.{integer, integer_error, number_found, no_number_found}
use Rattle.natives.proofs.Saying.{tried_said}
use Rattle.natives.proofs.word.number_in.Goals as goal

pub returns-in-Some : goal.returns-in-Some
returns-in-Some c =
    let fits : FitsSigned w64 c.in-Some.number = search rules in
    let same = number_found c.args.word.now c.in-Some.number (sym c.in-Some.ensures) in
    (same.0, to_z-of_z w64 c.in-Some.number fits ∙ sym same.1)

pub returns-in-None : goal.returns-in-None
returns-in-None c =
    let says : Says (no_integer c.args.word.now) c.no_integer.result = subst (λ (t : List ℕ). Says (no_integer t) c.no_integer.result) c.bytes.ensures c.no_integer.ensures in
    tried_said (λ (n : ℤ). n ≡ integer c.args.word.now) (integer_error c.args.word.now) (no_integer c.args.word.now) c.no_integer.result (no_number_found c.args.word.now (sym c.in-None.ensures)) says
