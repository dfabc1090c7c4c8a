use Rattle.std.proofs.Common.{◌≡◌, ◌∙◌, ◌%◌, sym, ap, subst, List, ℕ, length}
use Rattle.std.specs.Prelude.{codes, ◌==◌}
use Rattle.std.proofs.lemmas.Result.{err_from_is_err_and}
use Rattle.natives.specs.Answers.{Says}
use Rattle.txt_core.specs.ErrorTexts.{bad_value}
use Rattle.natives.specs.Checks.{items}
use Rattle.tcl_varcmd.specs.Arrays.{pairs_error}
use Rattle.tcl_varcmd.proofs.Exits.{tried_said}
use Rattle.tcl_varcmd.proofs.Making.{bad_pairs, uneven_pairs, even_pairs}
use Rattle.tcl_varcmd.proofs.array.pairs_in.Goals as goal

pub returns-in_err-list : goal.returns-in_err-list
returns-in_err-list c =
    let p = err_from_is_err_and c.from_residual.result c.from_residual.ensures.1 in
    rw (p.1, p.2) (bad_pairs (λ (list : List (List ℕ)). list ≡ items c.args.text.now) (λ (list : List (List ℕ)). list ≡ items c.args.text.now) c.args.text.now c.in_err-list.field-0.0 c.in_err-list.ensures)

pub returns-then-is_uneven : goal.returns-then-is_uneven
returns-then-is_uneven c =
    let text = c.args.text.now in
    let says : Says (bad_value text (codes "array")) c.bad_value.result = subst (λ (t : List ℕ). Says (bad_value t (codes "array")) c.bad_value.result) c.bytes.ensures c.bad_value.ensures in
    tried_said (λ (list : List (List ℕ)). list ≡ items text) (pairs_error text) (bad_value text (codes "array")) c.bad_value.result
    (uneven_pairs text c.in_ok-list.ensures.0 (ap (λ (v : List (List ℕ)). length v % 2 == 1) (sym c.in_ok-list.ensures.1) ∙ (sym c.is_uneven.ensures ∙ c.if-is_uneven.true))) says

pub returns : goal.returns
returns c =
    (even_pairs c.args.text.now c.in_ok-list.ensures.0 (ap (λ (v : List (List ℕ)). length v % 2 == 1) (sym c.in_ok-list.ensures.1) ∙ (sym c.is_uneven.ensures ∙ c.if-is_uneven.false)), c.in_ok-list.ensures.1)
