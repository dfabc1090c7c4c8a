-- How the stack of choices goes on.
use Rattle.std.proofs.Common.{◌≡◌, ℕ, List, [], ◌∷◌, Option, None, Some, refl, sym, subst}
use Rattle.tcl_expr.specs.Trees.{Tree, choice}
use Rattle.tcl_expr.specs.Outcome.{Outcome, done, bad, chosen}
use Rattle.tcl_expr.specs.Tokens.{next_question, next_colon, stuck}
use Rattle.tcl_expr.specs.Grammar.{ChoiceAt, bad_middle, no_last, one_choice}
use Rattle.tcl_expr.specs.Stack.{Part, for_middle, for_last, Last, Middle, Waits}

module _ (T : ℕ → List ℕ → Outcome → Type 0) where
  pub waits_bad : (ps : List Part) (b : ℕ) → Waits (ChoiceAt T) ps (bad b) (bad b)
  waits_bad [] b = refl
  waits_bad (for_middle x ∷ ps) b = (bad b, refl, waits_bad ps b)
  waits_bad (for_last x y ∷ ps) b = waits_bad ps b

  pub settles : (ps qs : List Part) (x y z w : Tree) (n : ℕ) (t : List ℕ) (o : Outcome) → ps ≡ for_last x y ∷ qs → w ≡ choice x y z → Waits (ChoiceAt T) qs (done w n t) o → Waits (ChoiceAt T) ps (done z n t) o
  settles ps qs x y z w n t o e q h = subst (λ r. Waits (ChoiceAt T) r (done z n t) o) (sym e) (subst (λ r. Waits (ChoiceAt T) qs (done r n t) o) q h)

  last_by : (x y : Tree) (n m i j : ℕ) (t u r v : List ℕ) (w : Outcome) (q : Option (List ℕ)) → T n t (done x m u) → next_question m u ≡ Some (i, r) → ChoiceAt T i r (done y j v) → next_colon v ≡ q → Last (ChoiceAt T) x y j v q w → ChoiceAt T n t w
  last_by x y n m i j t u r v w None h e k c l = subst (ChoiceAt T n t) (sym l) (no_last x y h e k c)
  last_by x y n m i j t u r v w (Some s) h e k c l = subst (ChoiceAt T n t) (sym l.2) (one_choice x y h e k c l.1)

  -- a choice whose middle is read next
  pub asks : (x : Tree) (n m i : ℕ) (t u r : List ℕ) (v w : Outcome) → T n t (done x m u) → next_question m u ≡ Some (i, r) → ChoiceAt T i r v → Middle (ChoiceAt T) x v w → ChoiceAt T n t w
  asks x n m i t u r (bad b) w h e k l = subst (ChoiceAt T n t) (sym l) (bad_middle x h e k)
  asks x n m i t u r (done y j v) w h e k l = last_by x y n m i j t u r v w (next_colon v) h e k refl l

  pub asked : (ps qs : List Part) (x : Tree) (n m i : ℕ) (t u r : List ℕ) (v o : Outcome) (Whole : Outcome → Type 0) → ((w : Outcome) → ChoiceAt T n t w → Waits (ChoiceAt T) ps w o → Whole o)
      → T n t (done x m u) → next_question m u ≡ Some (i, r) → qs ≡ for_middle x ∷ ps → ChoiceAt T i r v → Waits (ChoiceAt T) qs v o → Whole o
  asked ps qs x n m i t u r v o Whole go h e q k l =
      let a = subst (λ z. Waits (ChoiceAt T) z v o) q l in
      go a.0 (asks x n m i t u r v a.0 h e k a.1) a.2

  last_waits : (x y : Tree) (j : ℕ) (u s : List ℕ) (v : Outcome) (q : Option (List ℕ)) → q ≡ Some s → ChoiceAt T j s v → Last (ChoiceAt T) x y j u q (chosen x y v)
  last_waits x y j u s v None e k = absurd (cc)
  last_waits x y j u s v (Some r) e k =
      let same : s ≡ r = cc in
      (v, subst (λ z. ChoiceAt T j z v) same k, refl)

  -- a choice whose last part is read next
  pub lasts : (ps qs : List Part) (x y : Tree) (j : ℕ) (u s : List ℕ) (v o : Outcome) → next_colon u ≡ Some s → qs ≡ for_last x y ∷ ps → ChoiceAt T j s v → Waits (ChoiceAt T) qs v o → Waits (ChoiceAt T) (for_middle x ∷ ps) (done y j u) o
  lasts ps qs x y j u s v o e q k l = (chosen x y v, last_waits x y j u s v (next_colon u) e k, subst (λ z. Waits (ChoiceAt T) z v o) q l)

  last_none : (x y : Tree) (j : ℕ) (u : List ℕ) (q : Option (List ℕ)) → q ≡ None → Last (ChoiceAt T) x y j u q (bad (stuck j u))
  last_none x y j u None e = refl
  last_none x y j u (Some s) e = absurd (cc)

  -- a choice behind whose middle no colon comes
  pub unlasted : (ps : List Part) (x y : Tree) (j : ℕ) (u : List ℕ) → next_colon u ≡ None → Waits (ChoiceAt T) (for_middle x ∷ ps) (done y j u) (bad (stuck j u))
  unlasted ps x y j u e = (bad (stuck j u), last_none x y j u (next_colon u) e, waits_bad ps (stuck j u))
