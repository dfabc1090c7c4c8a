-- Each text has a reading.
use Rattle.std.proofs.Common.{◌≡◌, ℕ, zero, suc, ◌+◌, ◌-◌, ◌<◌, ◌≤◌, [], ◌∷◌, length, drop, Bool, true, false, Option, None, Some, refl, ◌⊎◌, inl, inr, arith}
use Rattle.std.specs.Prelude.{◌==◌, ◌||◌, if◌then◌else◌}
use Rattle.txt_core.specs.Names.{Bytes}
use Rattle.txt_core.specs.Number.{trimmed_front}
use Rattle.tcl_expr.specs.Runs.{is_word}
use Rattle.tcl_parse.specs.Outcome as script_outcome
use Rattle.tcl_parse.specs.Tree.{Word, Part}
use Rattle.tcl_parse.specs.Grammar.{Opening, by_brace, by_quote, bare, opening}
use Rattle.txt_core.specs.Limits.{most_nested}
use Rattle.tcl_parse.specs.Laws.Inside.{enclosed_some, substituted_some}
use Rattle.tcl_expr.specs.declared.operator.Op.{Op}
use Rattle.tcl_expr.specs.Trees.{Tree, binary}
use Rattle.tcl_expr.specs.Outcome.{Outcome, done, bad, signed, chosen}
use Rattle.tcl_expr.specs.Tokens.{loosest, next_operator, next_sign, next_question, next_colon, stuck}
use Rattle.tcl_expr.specs.Grammar.{Enclosed, Substituted, word_operand, part_operand, run_operand, closed, Start, enclosed, substituted, run, parenthesis, nothing, start, start_by, bare_start, OperandBy, SignedAt, no_sign, one_sign, of_level, ChainAt, chain_ends, chain_bad, chain_goes, Then, LevelAt, ChoiceAt, bad_test, no_choice, bad_middle, no_last, one_choice, ExpressionBy, InParens}
use Rattle.tcl_expr.specs.Laws.Fits.{Fits, NextFits, sign_fits, chain_next, asks_next, signed_at_fits, level_fits, choice_fits, parens_fits}

-- a reading with what it gives
abbrev Found : (Outcome → Type 0) → Type 0
Found P = (o : Outcome) × P o

abbrev pub IsTotal : (ℕ → Bytes → Outcome → Type 0) → Type 0
IsTotal R = (n : ℕ) (t : Bytes) → (o : Outcome) × R n t o

abbrev pub IsFit : (ℕ → Bytes → Outcome → Type 0) → Type 0
IsFit R = (n : ℕ) (t : Bytes) (o : Outcome) → R n t o → Fits n (length t) o

enclosed_by : (t : Bytes) → (opening t ≡ bare → ⊥) → (opening t ≡ bare) ⊎ ((w : script_outcome.Outcome Word) × Enclosed t w) → (w : script_outcome.Outcome Word) × Enclosed t w
enclosed_by t ne (inl e) = absurd (ne e)
enclosed_by t ne (inr x) = x

not_brace : by_brace ≡ bare → ⊥
not_brace e = cc

not_quote : by_quote ≡ bare → ⊥
not_quote e = cc

never_if : (b : Bool) (x y : Start) → (x ≡ enclosed → ⊥) → (y ≡ enclosed → ⊥) → (if b then x else y) ≡ enclosed → ⊥
never_if true x y h k e = h e
never_if false x y h k e = k e

bare_never : (t : Bytes) → bare_start t ≡ enclosed → ⊥
bare_never [] e = cc
bare_never (b ∷ t) e =
    never_if ((b == 36) || (b == 91)) substituted (if b == 40 then parenthesis else if is_word b then run else nothing) (λ x. cc)
    (never_if (b == 40) parenthesis (if is_word b then run else nothing) (λ x. cc) (never_if (is_word b) run nothing (λ x. cc) (λ x. cc))) e

module _ (P : ℕ → Bytes → Outcome → Type 0) (some_p : IsTotal P) where
  some_word : (n : ℕ) (t : Bytes) → (opening t ≡ bare → ⊥) → Found (OperandBy P enclosed n t)
  some_word n t ne =
      let x = enclosed_by t ne (enclosed_some most_nested t) in
      (word_operand n t x.0, (x.0, x.1, refl))

  some_part : (n : ℕ) (t : Bytes) → ((p : script_outcome.Outcome Part) → Substituted t p → ⊥) ⊎ ((p : script_outcome.Outcome Part) × Substituted t p) → Found (OperandBy P substituted n t)
  some_part n t (inl none) = (bad (length t - 1), inr (none, refl))
  some_part n t (inr x) = (part_operand n t x.0, inl (x.0, x.1, refl))

  some_bare : (s : Start) (n : ℕ) (t : Bytes) → (s ≡ enclosed → opening t ≡ bare → ⊥) → Found (OperandBy P s n t)
  some_bare enclosed n t ne = some_word n t (ne refl)
  some_bare substituted n t ne = some_part n t (substituted_some most_nested t)
  some_bare run n t ne = (run_operand n t, refl)
  some_bare parenthesis n t ne = let x = some_p n (drop 1 t) in (closed x.0, (x.0, x.1, refl))
  some_bare nothing n t ne = (bad (length t), refl)

  start_enclosed : (a : Opening) (t : Bytes) → (bare_start t ≡ enclosed → ⊥) → start_by a t ≡ enclosed → a ≡ bare → ⊥
  start_enclosed by_brace t never e b = not_brace b
  start_enclosed by_quote t never e b = not_quote b
  start_enclosed bare t never e b = never e

  some_operand : (n : ℕ) (t : Bytes) → Found (OperandBy P (start t) n t)
  some_operand n t = some_bare (start t) n t (start_enclosed (opening t) t (bare_never t))

  signed_by : (f n : ℕ) (t : Bytes) → n ≤ f → (q : Option (Op × ℕ × Bytes)) → next_sign n t ≡ q → NextFits n (length t) q → Found (SignedAt P n t)
  signed_by f n t le None e h = let x = some_operand n t in (x.0, no_sign e x.1)
  signed_by zero n t le (Some z) e h = absurd (omega (arith, le, h.0))
  signed_by (suc f) n t le (Some z) e h =
      let y = signed_by f z.1 z.2 (omega (arith, le, h.0)) (next_sign z.1 z.2) refl (sign_fits z.1 z.2) in
      (signed z.0 y.0, one_sign e y.1)

  pub some_signed : IsTotal (SignedAt P)
  some_signed n t = signed_by n n t (omega arith) (next_sign n t) refl (sign_fits n t)

module _ (k : ℕ) (L : ℕ → Bytes → Outcome → Type 0) (some_l : IsTotal L) (L_fits : IsFit L) where
  chain_side : (f n : ℕ) (t : Bytes) (x : Tree) (op : Op) (m : ℕ) (r : Bytes) → n ≤ suc f → of_level k (next_operator n t) ≡ Some (op, m, r) → (v : Outcome) → L m r v
      → ((y : Tree) (i : ℕ) (u : Bytes) → i ≤ f → Found (ChainAt k L (binary op x y) i u)) → Found (ChainAt k L x n t)
  chain_side f n t x op m r le e (bad b) h go = (bad b, chain_bad e h)
  chain_side f n t x op m r le e (done y i u) h go =
      let s = chain_next k n m t r op e in
      let g = L_fits m r (done y i u) h in
      let rest = go y i u (omega (arith, le, s.0, g.0)) in
      (rest.0, chain_goes y e h rest.1)

  chain_by : (f n : ℕ) (t : Bytes) (x : Tree) → n ≤ f → (q : Option (Op × ℕ × Bytes)) → of_level k (next_operator n t) ≡ q → Found (ChainAt k L x n t)
  chain_by f n t x le None e = (done x n t, chain_ends e)
  chain_by zero n t x le (Some z) e = let s = chain_next k n z.1 t z.2 z.0 e in absurd (omega (arith, le, s.0))
  chain_by (suc f) n t x le (Some z) e =
      let v = some_l z.1 z.2 in
      chain_side f n t x z.0 z.1 z.2 le e v.0 v.1 (λ y i u d. chain_by f i u (binary z.0 x y) d (of_level k (next_operator i u)) refl)

  pub some_chain : (x : Tree) → IsTotal (ChainAt k L x)
  some_chain x n t = chain_by n n t x (omega arith) (of_level k (next_operator n t)) refl

  pub some_then : (v : Outcome) → (o : Outcome) × Then (ChainAt k L) v o
  some_then (bad b) = (bad b, refl)
  some_then (done x n t) = some_chain x n t

module _ (S : ℕ → Bytes → Outcome → Type 0) (some_s : IsTotal S) (S_fits : IsFit S) where
  pub some_level : (k : ℕ) → IsTotal (LevelAt S k)
  unfolding LevelAt
  some_level zero n t = some_s n t
  some_level (suc k) n t =
      let v = some_level k n t in
      let o = some_then (suc k) (LevelAt S k) (some_level k) (level_fits S S_fits k) v.0 in
      (o.0, (v.0, v.1, o.1))

module _ (T : ℕ → Bytes → Outcome → Type 0) (some_t : IsTotal T) (T_fits : IsFit T) where
  by_colon : (n m i j : ℕ) (t u r v : Bytes) (x y : Tree) → T n t (done x m u) → next_question m u ≡ Some (i, r) → ChoiceAt T i r (done y j v) → ((s : Bytes) → Found (ChoiceAt T j s)) → (q : Option Bytes) → next_colon v ≡ q → Found (ChoiceAt T n t)
  by_colon n m i j t u r v x y h e k go None c = (bad (stuck j v), no_last x y h e k c)
  by_colon n m i j t u r v x y h e k go (Some s) c = let l = go s in (chosen x y l.0, one_choice x y h e k c l.1)

  by_middle : (f n m i : ℕ) (t u r : Bytes) (x : Tree) → T n t (done x m u) → next_question m u ≡ Some (i, r) → i ≤ f → ((j : ℕ) (s : Bytes) → j ≤ f → Found (ChoiceAt T j s)) → (v : Outcome) → ChoiceAt T i r v → Found (ChoiceAt T n t)
  by_middle f n m i t u r x h e le go (bad b) k = (bad b, bad_middle x h e k)
  by_middle f n m i t u r x h e le go (done y j v) k =
      let w = choice_fits T T_fits k in
      by_colon n m i j t u r v x y h e k (λ s. go j s (omega (arith, le, w.0))) (next_colon v) refl

  by_question : (f n m : ℕ) (t u : Bytes) (x : Tree) → T n t (done x m u) → m ≤ f → ((j : ℕ) (s : Bytes) → j < f → Found (ChoiceAt T j s)) → (q : Option (ℕ × Bytes)) → next_question m u ≡ q → Found (ChoiceAt T n t)
  by_question f n m t u x h le go None e = (done x m u, no_choice x h e)
  by_question zero n m t u x h le go (Some z) e = let g = asks_next m z.0 u z.1 e in absurd (omega (arith, le, g.0))
  by_question (suc f) n m t u x h le go (Some z) e =
      let g = asks_next m z.0 u z.1 e in
      let y = go z.0 z.1 (omega (arith, le, g.0)) in
      by_middle f n m z.0 t u z.1 x h e (omega (arith, le, g.0)) (λ j s d. go j s (omega (arith, d))) y.0 y.1

  by_test : (f n : ℕ) (t : Bytes) → n ≤ f → ((j : ℕ) (s : Bytes) → j < f → Found (ChoiceAt T j s)) → (v : Outcome) → T n t v → Found (ChoiceAt T n t)
  by_test f n t le go (bad b) h = (bad b, bad_test h)
  by_test f n t le go (done x m u) h =
      let g = T_fits n t (done x m u) h in
      by_question f n m t u x h (omega (arith, le, g.0)) go (next_question m u) refl

  choice_below : (f n : ℕ) (t : Bytes) → n ≤ f → Found (ChoiceAt T n t)
  choice_below zero n t le = let v = some_t n t in by_test zero n t le (λ j s d. absurd (omega (arith, d))) v.0 v.1
  choice_below (suc f) n t le = let v = some_t n t in by_test (suc f) n t le (λ j s d. choice_below f j s (omega (arith, d))) v.0 v.1

  pub some_choice : IsTotal (ChoiceAt T)
  some_choice n t = choice_below n n t (omega arith)

pub some_expression : (P : ℕ → Bytes → Outcome → Type 0) → IsTotal P → ((n : ℕ) (t : Bytes) (o : Outcome) → P n t o → Fits n (length t + 1) o) → IsTotal (ExpressionBy P)
some_expression P some_p P_fits n t =
    let S_fits : IsFit (SignedAt P) = λ m u p c. signed_at_fits P P_fits c in
    some_choice (LevelAt (SignedAt P) loosest) (some_level (SignedAt P) (some_signed P some_p) S_fits loosest) (level_fits (SignedAt P) S_fits loosest) n t

pub some_parens : (room : ℕ) → IsTotal (InParens room)
unfolding InParens
some_parens zero n t = (bad (length t + 1), refl)
some_parens (suc room) n t = some_expression (InParens room) (some_parens room) (parens_fits room) n (trimmed_front t)
