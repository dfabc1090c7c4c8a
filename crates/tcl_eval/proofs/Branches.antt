-- What an `if` comes to.
use Rattle.std.proofs.Common.{◌≡◌, ℕ, zero, suc, ◌+◌, ◌<◌, ◌≤◌, min, List, [], ◌∷◌, ◌++◌, drop, length, Bool, true, false, nat_lt, Option, Some, None, slice_get, refl, sym, ap, ◌∙◌, arith}
use Rattle.std.proofs.lemmas.Bool.{ltb-true, ltb-false}
use Rattle.std.proofs.lemmas.List.{drop_more, drop_all}
use Rattle.std.proofs.lemmas.Option.{get_or_from_slice_get, slice_get_within}
use Rattle.txt_core.specs.Names.{Names}
use Rattle.tcl_eval.specs.State.{State, LeafTable, Given, Out, Next}
use Rattle.tcl_eval.specs.Eval.{Inner, nested, unread, on_ok, by_truth}
use Rattle.tcl_eval.specs.Expressions.{evaluate, test}
use Rattle.tcl_eval.specs.Branches.{run_body, choose}
use Rattle.tcl_eval.specs.Stack.{stack_next}
use Rattle.tcl_eval.specs.declared.branch.Branches.{Branches}
use Rattle.tcl_eval.specs.declared.branch.Branch.TheVariants as branch
use Rattle.tcl_eval.specs.declared.stack.Frame.{Frame}
use Rattle.tcl_eval.specs.declared.stack.Frame.TheVariants.{Branch as Branching}
use Rattle.tcl_eval.proofs.Stacks.{pushed}

-- ---- lists

-- the items from a place on, where there is one
pub some_left : {A : Type 0} → (xs : List A) (at : ℕ) (x : A) → Some x ≡ slice_get xs at → drop at xs ≡ x ∷ drop (at + 1) xs
some_left {A} xs at x e =
    drop_more xs at x (slice_get_within xs at x (sym e))
    ∙ ap (λ (y : A). y ∷ drop (at + 1) xs) (get_or_from_slice_get xs at x x (sym e))

pub none_left : {A : Type 0} → (xs : List A) (at : ℕ) → None ≡ slice_get xs at → drop at xs ≡ []
none_left [] zero e = refl
none_left [] (suc at) e = refl
none_left (x ∷ xs) zero e = absurd (cc)
none_left (x ∷ xs) (suc at) e = none_left xs at e

least_behind : {A : Type 0} → (xs : List A) (at steps next : ℕ) (b : Bool) → next ≡ min (at + steps) (length xs) → nat_lt (length xs) (at + steps) ≡ b → drop next xs ≡ drop (at + steps) xs
least_behind {A} xs at steps next true e past =
    let less : length xs < at + steps = ltb-true (length xs) (at + steps) past in
    drop_all next xs (omega (arith, e, less)) ∙ sym (drop_all (at + steps) xs (omega (arith, less)))
least_behind {A} xs at steps next false e past =
    let within : at + steps ≤ length xs = ltb-false (length xs) (at + steps) past in
    let same : next ≡ at + steps = omega (arith, e, within) in
    ap (λ (n : ℕ). drop n xs) same

-- what lies so many places behind a place, or behind the end
pub dropped : {A : Type 0} → (xs : List A) (at steps next : ℕ) → next ≡ min (at + steps) (length xs) → drop next xs ≡ drop (at + steps) xs
dropped xs at steps next e = least_behind xs at steps next (nat_lt (length xs) (at + steps)) e refl

-- ---- choices

module _ {H : Type 0} (ns : Names) (t : LeafTable H) where
  -- a condition begins
  pub choose_step : (fs fs1 : List Frame) (shared : _) (all : Branches) (clause : List ℕ × List ℕ) (condition body : List ℕ) (at next levels : ℕ) (s : State H) (b : ℕ) (g : Given) (x : Out H) → fs1 ≡ fs ++ Branching (branch.If body shared next levels) ∷ [] → shared.value ≡ all → Some clause ≡ slice_get all.clauses at → next ≡ min (at + 1) (length all.clauses) → condition ≡ clause.0 → body ≡ clause.1 → x ≡ evaluate (nested ns t levels) condition (stack_next ns t fs1) s b g → x ≡ choose (nested ns t levels) (drop at all.clauses) all.last (stack_next ns t fs) s b g
  choose_step fs fs1 shared all clause condition body at next levels s b g x push same found past first second e =
      let inner = nested ns t levels in
      let k = stack_next ns t fs in
      e
      ∙ ap (λ (y : Next H). evaluate inner condition y s b g) (pushed ns t fs fs1 (Branching (branch.If body shared next levels)) push)
      ∙ ap (λ (v : Branches). evaluate inner condition (on_ok (λ value. by_truth value (inner.run (unread body) k) (choose inner (drop next v.clauses) v.last k) k) k) s b g) same
      ∙ ap (λ (cs : List (List ℕ × List ℕ)). evaluate inner condition (on_ok (λ value. by_truth value (inner.run (unread body) k) (choose inner cs all.last k) k) k) s b g) (dropped all.clauses at 1 next past)
      ∙ ap (λ (c : List ℕ). evaluate inner c (on_ok (λ value. by_truth value (inner.run (unread body) k) (choose inner (drop (at + 1) all.clauses) all.last k) k) k) s b g) first
      ∙ ap (λ (c : List ℕ). evaluate inner clause.0 (on_ok (λ value. by_truth value (inner.run (unread c) k) (choose inner (drop (at + 1) all.clauses) all.last k) k) k) s b g) second
      ∙ sym (ap (λ (cs : List (List ℕ × List ℕ)). choose inner cs all.last k s b g) (some_left all.clauses at clause found))

  -- a condition is looked at
  pub choose_tested : (inner : Inner H) (all : Branches) (clause : List ℕ × List ℕ) (condition : List ℕ) (at : ℕ) (k : Next H) (s : State H) (b : ℕ) (g : Given) (x : Out H) → Some clause ≡ slice_get all.clauses at → condition ≡ clause.0 → x ≡ test inner condition (inner.run (unread clause.1) k) (choose inner (drop (at + 1) all.clauses) all.last k) k s b g → x ≡ choose inner (drop at all.clauses) all.last k s b g
  choose_tested inner all clause condition at k s b g x found same e =
      e
      ∙ ap (λ (c : List ℕ). test inner c (inner.run (unread clause.1) k) (choose inner (drop (at + 1) all.clauses) all.last k) k s b g) same
      ∙ sym (ap (λ (cs : List (List ℕ × List ℕ)). choose inner cs all.last k s b g) (some_left all.clauses at clause found))

  -- no condition is left
  pub choose_last : (inner : Inner H) (all : Branches) (at : ℕ) (last : Option (List ℕ)) (k : Next H) (s : State H) (b : ℕ) (g : Given) (x : Out H) → None ≡ slice_get all.clauses at → last ≡ all.last → x ≡ run_body inner last k s b g → x ≡ choose inner (drop at all.clauses) all.last k s b g
  choose_last inner all at last k s b g x none is e =
      e
      ∙ ap (λ (o : Option (List ℕ)). run_body inner o k s b g) is
      ∙ sym (ap (λ (cs : List (List ℕ × List ℕ)). choose inner cs all.last k s b g) (none_left all.clauses at none))
