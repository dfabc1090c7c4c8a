-- Operands, parentheses and operators as the rules have them, over plain variables.
use Rattle.std.proofs.Common.{◌≡◌, ℕ, zero, suc, ◌+◌, ◌-◌, ◌<◌, ◌≤◌, List, [], ◌∷◌, length, true, None, Some, refl, ◌⊎◌, inl, inr, ap, sym, ◌∙◌, subst, arith}
use Rattle.std.specs.Prelude.{◌==◌, if◌then◌else◌}
use Rattle.std.proofs.lemmas.Bool.{false≢true}
use Rattle.std.proofs.lemmas.Bool.Decides.{nat_tests}
use Rattle.txt_core.specs.Number.{number, trimmed_front}
use Rattle.tcl_expr.specs.declared.operator.Op.{Op}
use Rattle.tcl_expr.specs.Trees.{Tree}
use Rattle.tcl_expr.specs.Outcome.{Outcome, done, bad}
use Rattle.tcl_expr.specs.Tokens.{Binds, level, loosest, next_operator, stuck}
use Rattle.tcl_expr.specs.Runs.{names_value}
use Rattle.tcl_expr.specs.Grammar.{ExpressionBy, InParens, closed, Enclosed, word_operand, OperandBy, start_by}
use Rattle.tcl_parse.specs.Tree.{Word}
use Rattle.tcl_parse.specs.Outcome as script_outcome
use Rattle.tcl_parse.specs.Grammar.{opening, bare}
use Rattle.txt_core.specs.Limits.{most_nested}
use Rattle.tcl_parse.specs.Laws.Inside.{enclosed_some}
use Rattle.tcl_expr.specs.Answers.{ClosedGives, WordGives, BareGives, OperandGives}
use Rattle.tcl_expr.specs.Stack.{limit, IsStack, IsLoose, AtLeast, FromOperand}
use Rattle.tcl_expr.proofs.Stacks.{pushed, ended}

-- a run that names a value has a byte
pub named_some : (r : List ℕ) → names_value r ≡ true → 0 < length r
unfolding number
named_some [] h = absurd (false≢true h)
named_some (b ∷ t) h = omega arith

pub no_room : (room n : ℕ) (t : List ℕ) → room ≡ 0 → ClosedGives room n t (bad (length t + 1))
unfolding InParens
no_room zero n t e = (bad (length t + 1), refl, refl)
no_room (suc room) n t e = absurd (omega (arith, e))

pub with_room : (room n : ℕ) (t u : List ℕ) (v : Outcome) → (room ≡ 0 → ⊥) → u ≡ trimmed_front t → ExpressionBy (InParens (room - 1)) n u v → ClosedGives room n t (closed v)
unfolding InParens
with_room zero n t u v z e h = absurd (z refl)
with_room (suc room) n t u v z e h =
    let d : suc room - 1 ≡ room = omega arith in
    (v, subst (λ x. ExpressionBy (InParens room) n x v) e (subst (λ x. ExpressionBy (InParens x) n u v) d h), refl)

pub parens_closed : (room n m b : ℕ) (t u r s : List ℕ) (x : Tree) → (room ≡ 0 → ⊥) → u ≡ trimmed_front t → ExpressionBy (InParens (room - 1)) n u (done x m r) → r ≡ b ∷ s → b ≡ 41 → ClosedGives room n t (done x m (trimmed_front s))
parens_closed room n m b t u r s x z e h q k =
    let c : closed (done x m r) ≡ done x m (trimmed_front s) = rw (q, k) refl in
    subst (ClosedGives room n t) c (with_room room n t u (done x m r) z e h)

other_byte : (m b : ℕ) (s : List ℕ) (x : Tree) (o p : Outcome) → (b ≡ 41 → ⊥) → (if b == 41 then o else p) ≡ p
other_byte m b s x o p k = grind (arith, nat_tests)

pub parens_stuck : (room n m b : ℕ) (t u r s : List ℕ) (x : Tree) → (room ≡ 0 → ⊥) → u ≡ trimmed_front t → ExpressionBy (InParens (room - 1)) n u (done x m r) → r ≡ b ∷ s → (b ≡ 41 → ⊥) → ClosedGives room n t (bad (stuck m r))
parens_stuck room n m b t u r s x z e h q k =
    let c : closed (done x m r) ≡ bad (stuck m r) = ap (λ w. closed (done x m w)) q ∙ other_byte m b s x (done x m (trimmed_front s)) (bad (stuck m (b ∷ s))) k ∙ ap (λ w. bad (stuck m w)) (sym q) in
    subst (ClosedGives room n t) c (with_room room n t u (done x m r) z e h)

pub parens_open : (room n m : ℕ) (t u r : List ℕ) (x : Tree) → (room ≡ 0 → ⊥) → u ≡ trimmed_front t → ExpressionBy (InParens (room - 1)) n u (done x m r) → length r ≡ 0 → ClosedGives room n t (bad 0)
parens_open room n m t u [] x z e h q = with_room room n t u (done x m []) z e h
parens_open room n m t u (b ∷ r) x z e h q = absurd (omega (arith, q))

-- what waits innermost, where it binds looser than a level that is passed over, leaves room for that level
pub fits_under : (l : ℕ) (ps : List (Op × Tree)) → l ≤ loosest → IsLoose l ps → l ≤ limit ps
fits_under l [] h k = h
fits_under l (p ∷ ps) h k = omega arith

limit_le : (ps : List (Op × Tree)) → IsStack ps → limit ps ≤ 11
limit_le [] h = omega arith
limit_le (p ∷ ps) h = let le = limit_le ps h.2 in omega (arith, le, h.1)

-- nothing binds looser than every level
pub none_loose : (ps : List (Op × Tree)) → IsStack ps → IsLoose 12 ps → ps ≡ []
none_loose [] h k = refl
none_loose (p ∷ ps) h k = let le = limit_le ps h.2 in absurd (omega (arith, le, h.1, k))

-- an operator whose left side has been joined may wait
pub ready : (ps : List (Op × Tree)) (x : Tree) (op : Op) (most : ℕ) → Binds op → most ≡ level op → IsLoose most ps → IsStack ps → IsStack ((op, x) ∷ ps)
ready ps x op most b e l h =
    let under : level op ≤ limit ps = fits_under (level op) ps b.1 (subst (λ k. IsLoose k ps) e l) in
    (b.0, under, h)

next_least : (op : Op) (m n most : ℕ) (t r : List ℕ) → most ≡ level op → next_operator n t ≡ Some (op, m, r) → AtLeast most (next_operator n t)
next_least op m n most t r e q = subst (AtLeast most) (sym q) (let le : most ≤ level op = omega (arith, e) in le)

pub none_least : (n most : ℕ) (t : List ℕ) → next_operator n t ≡ None → AtLeast most (next_operator n t)
none_least n most t q = subst (AtLeast most) (sym q) tt

module _ (S : ℕ → List ℕ → Outcome → Type 0) where
  -- an operator comes next, whose left side is joined, and its right side is read
  pub pushes : (old new : List (Op × Tree)) (x y : Tree) (op : Op) (most n m : ℕ) (t r : List ℕ) (v o : Outcome) → (AtLeast most (next_operator n t) → FromOperand S new (done y n t) o → FromOperand S old (done x n t) o)
      → Binds op → most ≡ level op → IsLoose most new → IsStack new → next_operator n t ≡ Some (op, m, r) → S m r v → FromOperand S ((op, y) ∷ new) v o → FromOperand S old (done x n t) o
  pushes old new x y op most n m t r v o means b e l h q k u =
      let w = ready new y op most b e l h in
      means (next_least op m n most t r e q) (pushed S new y op n m t r v o w.0 w.1 q k u)

  -- no operator comes next
  pub ends : (old new : List (Op × Tree)) (x y : Tree) (n : ℕ) (t : List ℕ) → (AtLeast 12 (next_operator n t) → FromOperand S new (done y n t) (done y n t) → FromOperand S old (done x n t) (done y n t))
      → IsLoose 12 new → IsStack new → next_operator n t ≡ None → FromOperand S old (done x n t) (done y n t)
  ends old new x y n t means l h q =
      means (none_least n 12 t q) (subst (λ z. FromOperand S z (done y n t) (done y n t)) (sym (none_loose new h l)) (ended S y n t q))

bare_by : (n : ℕ) (t : List ℕ) → ((o : Outcome) → WordGives n t o → ⊥) → (opening t ≡ bare) ⊎ ((w : script_outcome.Outcome Word) × Enclosed t w) → opening t ≡ bare
bare_by n t none (inl e) = e
bare_by n t none (inr x) = absurd (none (word_operand n t x.0) (x.0, x.1, refl))

-- where no word in quotes or braces stands, an operand is what it is without them
pub bare_operand : (room n : ℕ) (t : List ℕ) (o : Outcome) → ((p : Outcome) → WordGives n t p → ⊥) → BareGives room n t o → OperandGives room n t o
bare_operand room n t o none h =
    let e = bare_by n t none (enclosed_some most_nested t) in
    subst (λ s. OperandBy (InParens room) (start_by s t) n t o) (sym e) h
