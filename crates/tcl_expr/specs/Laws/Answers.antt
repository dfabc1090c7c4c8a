-- Each text has one answer, and its place is in the text.
use Rattle.std.proofs.Common.{◌≡◌, ℕ, ◌≤◌, [], ◌∷◌, length, refl, ap, sym, ◌∙◌, subst, arith}
use Rattle.txt_core.specs.Names.{Bytes}
use Rattle.txt_core.specs.Number.{trimmed_front}
use Rattle.tcl_expr.specs.Outcome.{Outcome, done, bad, Answer, tree, bad_from}
use Rattle.tcl_expr.specs.Grammar.{Reads, whole, InParens, most_operators}
use Rattle.txt_core.specs.Limits.{most_nested}
use Rattle.tcl_expr.specs.Laws.Fits.{Fits, parens_fits, expression_fits, trimmed_within, stuck_within}
use Rattle.tcl_expr.specs.Laws.One.{one_expression, one_parens}
use Rattle.tcl_expr.specs.Laws.Some.{some_expression, some_parens}

pub some_answer : (t : Bytes) → (a : Answer) × Reads t a
some_answer t =
    let x = some_expression (InParens most_nested) (some_parens most_nested) (parens_fits most_nested) most_operators (trimmed_front t) in
    (whole x.0, (x.0, x.1, refl))

pub one_answer : (t : Bytes) (a b : Answer) → Reads t a → Reads t b → a ≡ b
one_answer t a b h k = h.2 ∙ ap whole (one_expression (InParens most_nested) (one_parens most_nested) most_operators (trimmed_front t) h.0 k.0 h.1 k.1) ∙ sym k.2

-- what is left at the bad place is no longer than the text
abbrev IsWithin : ℕ → Answer → Type 0
IsWithin n (tree x) = Unit {0}
IsWithin n (bad_from left) = left ≤ n

whole_within : (n l : ℕ) (o : Outcome) → Fits n l o → IsWithin l (whole o)
whole_within n l (bad b) h = h
whole_within n l (done x m []) h = tt
whole_within n l (done x m (b ∷ t)) h = let s = stuck_within m (b ∷ t) in omega (arith, s, h.1)

pub bad_within : (t : Bytes) (left : ℕ) → Reads t (bad_from left) → left ≤ length t
bad_within t left h =
    let f = expression_fits (InParens most_nested) (parens_fits most_nested) most_operators (trimmed_front t) h.0 h.1 in
    let w : left ≤ length (trimmed_front t) = subst (IsWithin (length (trimmed_front t))) (sym h.2) (whole_within most_operators (length (trimmed_front t)) h.0 f) in
    omega (arith, w, trimmed_within t)
