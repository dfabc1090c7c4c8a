use Rattle.std.proofs.Common.{◌≡◌, ◌∙◌, sym, ap, subst, None, Some, List, ℕ, ℤ, rules, FitsSigned}
use mir.Syntax.{w128, w64}
use Rattle.std.proofs.lemmas.Int.{to_z-of_z}
use Rattle.natives.specs.Answers.{Says}
use Rattle.txt_core.specs.ErrorTexts.{bad_value}
use Rattle.natives.specs.Indexes.{index, index_error, place_of, place_found, no_place_found}
use Rattle.natives.proofs.Saying.{tried_said}
use Rattle.natives.proofs.index.index_in.Goals as goal

pub returns-in-Some : goal.returns-in-Some
returns-in-Some c =
    let fits : FitsSigned w128 c.in-Some.place = search rules in
    let last_fits : FitsSigned w64 c.args.last = search rules in
    let read : place_of c.args.last c.args.word.now ≡ Some c.in-Some.place = ap (place_of c.args.last) (sym c.bytes.ensures) ∙ ap (λ (last : ℤ). place_of last c.bytes.result.now) (sym (to_z-of_z w64 c.args.last last_fits)) ∙ sym c.in-Some.ensures in
    let same = place_found c.args.command.now c.args.last c.args.word.now c.in-Some.place read in
    (same.0, to_z-of_z w128 c.in-Some.place fits ∙ sym same.1)

pub returns-in-None : goal.returns-in-None
returns-in-None c =
    let last_fits : FitsSigned w64 c.args.last = search rules in
    let read : place_of c.args.last c.args.word.now ≡ None = ap (place_of c.args.last) (sym c.bytes.ensures) ∙ ap (λ (last : ℤ). place_of last c.bytes.result.now) (sym (to_z-of_z w64 c.args.last last_fits)) ∙ sym c.in-None.ensures in
    let says : Says (bad_value c.args.word.now c.args.command.now) c.bad_value.result = subst (λ (t : List ℕ). Says (bad_value t c.args.command.now) c.bad_value.result) c.bytes-in-None.ensures c.bad_value.ensures in
    tried_said (λ (n : ℤ). n ≡ index c.args.last c.args.word.now) (index_error c.args.command.now c.args.last c.args.word.now) (bad_value c.args.word.now c.args.command.now) c.bad_value.result (no_place_found c.args.command.now c.args.last c.args.word.now read) says
