use Rattle.std.proofs.Common.{◌≡◌, ℕ, ℤ, rules, FitsSigned}
use Rattle.std.specs.Int.{w64}
use Rattle.std.proofs.lemmas.Int.{to_z-of_z}
use Rattle.std.proofs.lemmas.Result.{err_from_is_err_and}
use Rattle.std.specs.Prelude.{codes, unsigned_abs}
use Rattle.natives.specs.Checks.{integer}
use Rattle.natives.specs.Formatting.{form_error}
use Rattle.txt_core.specs.ErrorTexts.{bad_value}
use Rattle.tcl_string.proofs.Filled.{no_number_here, character_found, no_character_found}
use Rattle.tcl_string.proofs.Saying.{tried_said}
use Rattle.tcl_string.proofs.filling.character_in.Goals as goal

pub returns-in_err-n : goal.returns-in_err-n
returns-in_err-n c =
    let p = err_from_is_err_and c.from_residual.result c.from_residual.ensures.1 in
    rw (p.1, p.2) (no_number_here (λ (found : ℕ). found ≡ unsigned_abs (integer c.args.word.now)) (λ (n : ℤ). n ≡ integer c.args.word.now) c.args.word.now c.in_err-n.field-0.0 c.in_err-n.ensures)

pub returns-in-Some : goal.returns-in-Some
returns-in-Some c =
    let fits : FitsSigned w64 c.in_ok-n.n = search rules in
    let same = to_z-of_z w64 c.in_ok-n.n fits in
    let found = rw (same, c.in_ok-n.ensures.1) at c.in-Some.ensures in
    character_found c.args.word.now c.in-Some.character c.in_ok-n.ensures.0 found

pub returns-in-None : goal.returns-in-None
returns-in-None c =
    let fits : FitsSigned w64 c.in_ok-n.n = search rules in
    let same = to_z-of_z w64 c.in_ok-n.n fits in
    let none = rw (same, c.in_ok-n.ensures.1) at c.in-None.ensures in
    let said = rw c.bytes.ensures at c.bad_value.ensures in
    tried_said (λ (found : ℕ). found ≡ unsigned_abs (integer c.args.word.now)) (form_error 99 c.args.word.now) (bad_value c.args.word.now (codes "format")) c.bad_value.result (no_character_found c.args.word.now c.in_ok-n.ensures.0 none) said
