-- What an expression comes to at once is what the evaluation gives, whatever waits for it.
use Rattle.std.proofs.Common.{◌≡◌, ℕ, zero, suc, List, [], Bool, true, false, Option, None, Some, refl, sym, ap, ◌∙◌}
use Rattle.std.specs.Prelude.{codes}
use Rattle.txt_core.specs.Names.{Names}
use Rattle.txt_core.specs.Truth.{truth}
use Rattle.tcl_parse.specs.Tree.{text, variable, element, bracket, Parts, no_parts, part, parts}
use Rattle.tcl_expr.specs.Trees as trees
use Rattle.tcl_expr.specs.Trees.{Tree}
use Rattle.tcl_expr.specs.declared.operator.Op.{Op}
use Rattle.tcl_eval.specs.State.{State, LeafTable, Given, Rest, Next}
use Rattle.tcl_eval.specs.Messages.{no_boolean}
use Rattle.tcl_eval.specs.Results.{ended, error_of, read_as}
use Rattle.tcl_eval.specs.Going.{decided}
use Rattle.tcl_eval.specs.Eval.{give, on_ok, by_truth, nested}
use Rattle.tcl_eval.specs.Expressions.{way_of, with_one, with_two, behind_left, run_expression}
use Rattle.tcl_eval.specs.Kept.{grown, kept_value, run_kept}
use Rattle.tcl_eval.specs.AtOnce.{on_code, on_value, on_truth, rest_of_word, right_at_once, left_alone, or_else, left_at_once, at_once}
use Rattle.tcl_eval.specs.declared.gather.SoFar.{SoFar}
use Rattle.tcl_eval.specs.declared.gather.SoFar.TheVariants.{Kept}
use Rattle.tcl_eval.specs.declared.stack.Ended.{Ended}
use Rattle.tcl_eval.specs.declared.operation.Way.{Way}
use Rattle.tcl_eval.specs.declared.operation.Way.TheVariants.{Both, IfTrue, IfFalse}
use Rattle.tcl_eval.proofs.Alike.{run_script_alike}
use Rattle.tcl_eval.proofs.Kept.{kept_end, next_kept}

-- a value that is there, or the other one where none is
abbrev value_or : Ended → Option Ended → Ended
value_or other None = other
value_or other (Some value) = value

same_value : (v w : Ended) → Some v ≡ Some w → v ≡ w
same_value v w e = ap (λ (o : Option Ended). value_or v o) e

module _ {H : Type 0} (s : State H) (b : ℕ) (g : Given) where
  -- what waits for a value gets it, or the end that isn't good
  code_gives : (code : ℕ) (result : List ℕ) (go : List ℕ → Option Ended) (way : Next H → Rest H) (rest : List ℕ → Rest H) (k : Next H) (w : Ended)
      → ((k' : Next H) → k' code result s b g ≡ way k' s b g)
      → ((r : List ℕ) → go r ≡ Some w → give w k s b g ≡ rest r s b g)
      → on_code code result go ≡ Some w → give w k s b g ≡ way (on_ok rest k) s b g
  code_gives zero result go way rest k w h m e = m result e ∙ h (on_ok rest k)
  code_gives (suc code) result go way rest k w h m e =
      sym (ap (λ (v : Ended). give v k s b g) (same_value (ended (suc code) result) w e)) ∙ h (on_ok rest k)

  value_gives : (found : Option Ended) (go : List ℕ → Option Ended) (way : Next H → Rest H) (rest : List ℕ → Rest H) (k : Next H) (w : Ended)
      → ((v : Ended) (k' : Next H) → found ≡ Some v → give v k' s b g ≡ way k' s b g)
      → ((r : List ℕ) → go r ≡ Some w → give w k s b g ≡ rest r s b g)
      → on_value found go ≡ Some w → give w k s b g ≡ way (on_ok rest k) s b g
  value_gives None go way rest k w h m e = absurd (cc)
  value_gives (Some v) go way rest k w h m e = code_gives v.code v.result go way rest k w (λ k'. h v k' refl) m e

  truth_gives : (o : Option Bool) (value : List ℕ) (first second : Option Ended) (when_true when_false : Rest H) (k : Next H) (w : Ended)
      → (first ≡ Some w → give w k s b g ≡ when_true s b g)
      → (second ≡ Some w → give w k s b g ≡ when_false s b g)
      → on_truth o value first second ≡ Some w → give w k s b g ≡ decided o value when_true when_false k s b g
  truth_gives None value first second when_true when_false k w h m e =
      sym (ap (λ (v : Ended). give v k s b g) (same_value (error_of (no_boolean value)) w e))
  truth_gives (Some true) value first second when_true when_false k w h m e = h e
  truth_gives (Some false) value first second when_true when_false k w h m e = m e

  made_gives : (v w : Ended) (k : Next H) → Some v ≡ Some w → give w k s b g ≡ give v k s b g
  made_gives v w k e = sym (ap (λ (u : Ended). give u k s b g) (same_value v w e))

  right_gives : (op : Op) (left : List ℕ) (found : Option Ended) (way : Next H → Rest H) (k : Next H) (w : Ended)
      → ((v : Ended) (k' : Next H) → found ≡ Some v → give v k' s b g ≡ way k' s b g)
      → right_at_once op left found ≡ Some w → give w k s b g ≡ way (on_ok (λ value. give (with_two op left value) k) k) s b g
  right_gives op left found way k w h e =
      value_gives found (λ value. Some (with_two op left value)) way (λ value. give (with_two op left value) k) k w h
      (λ r is. made_gives (with_two op left r) w k is) e

  -- the left operand decides, or has no truth
  pub left_ends : (way : Way) (left : List ℕ) (right : Rest H) (k : Next H) (w : Ended) → left_alone way left ≡ Some w → give w k s b g ≡ behind_left way left right k s b g
  left_ends Both left right k w e = absurd (cc)
  left_ends IfTrue left right k w e =
      truth_gives (truth left) left None (Some (ended 0 (codes "0"))) right (k 0 (codes "0")) k w
      (λ is. absurd (cc)) (λ is. made_gives (ended 0 (codes "0")) w k is) e
  left_ends IfFalse left right k w e =
      truth_gives (truth left) left (Some (ended 0 (codes "1"))) None (k 0 (codes "1")) right k w
      (λ is. made_gives (ended 0 (codes "1")) w k is) (λ is. absurd (cc)) e

  if_true : (o : Option Bool) (left : List ℕ) (v : Ended) (right other : Rest H) (k : Next H) → on_truth o left None (Some v) ≡ None → right s b g ≡ decided o left right other k s b g
  if_true None left v right other k e = absurd (cc)
  if_true (Some true) left v right other k e = refl
  if_true (Some false) left v right other k e = absurd (cc)

  if_false : (o : Option Bool) (left : List ℕ) (v : Ended) (right other : Rest H) (k : Next H) → on_truth o left (Some v) None ≡ None → right s b g ≡ decided o left other right k s b g
  if_false None left v right other k e = absurd (cc)
  if_false (Some true) left v right other k e = absurd (cc)
  if_false (Some false) left v right other k e = refl

  -- the right operand is evaluated
  pub left_goes : (way : Way) (left : List ℕ) (right : Rest H) (k : Next H) → left_alone way left ≡ None → right s b g ≡ behind_left way left right k s b g
  left_goes Both left right k e = refl
  left_goes IfTrue left right k e = if_true (truth left) left (ended 0 (codes "0")) right (k 0 (codes "0")) k e
  left_goes IfFalse left right k e = if_false (truth left) left (ended 0 (codes "1")) right (k 0 (codes "1")) k e

  else_gives : (o other : Option Ended) (way : Way) (left : List ℕ) (right : Rest H) (k : Next H) (w : Ended)
      → left_alone way left ≡ o → (other ≡ Some w → give w k s b g ≡ right s b g)
      → or_else o other ≡ Some w → give w k s b g ≡ behind_left way left right k s b g
  else_gives None other way left right k w is h e = h e ∙ left_goes way left right k is
  else_gives (Some v) other way left right k w is h e = left_ends way left right k w (is ∙ e)

  left_gives : (lazy : Way) (op : Op) (left : List ℕ) (found : Option Ended) (way : Next H → Rest H) (k : Next H) (w : Ended)
      → ((v : Ended) (k' : Next H) → found ≡ Some v → give v k' s b g ≡ way k' s b g)
      → left_at_once lazy op left found ≡ Some w
      → give w k s b g ≡ behind_left lazy left (way (on_ok (λ value. give (with_two op left value) k) k)) k s b g
  left_gives lazy op left found way k w h e =
      else_gives (left_alone lazy left) (right_at_once op left found) lazy left (way (on_ok (λ value. give (with_two op left value) k) k)) k w
      refl (λ is. right_gives op left found way k w h is) e

module _ {H : Type 0} (ns : Names) (t : LeafTable H) (levels : ℕ) (s : State H) (b : ℕ) (g : Given) where
  -- a word of which this is kept
  pub word_gives : (ps : Parts) (so_far : SoFar) (k : Next H) (w : Ended) → rest_of_word s.frames ps so_far ≡ Some w → give w k s b g ≡ run_kept (nested ns t levels) ps so_far k s b g
  word_gives no_parts so_far k w e =
      made_gives s b g (kept_value so_far) w k e ∙ kept_end (nested ns t levels) so_far k s b g
  word_gives (part (text bytes) ps) so_far k w e =
      word_gives ps (grown so_far bytes) k w e
      ∙ next_kept (nested ns t levels) (run_script_alike ns t levels) (text bytes) ps so_far k s b g
  word_gives (part (variable name) ps) so_far k w e =
      value_gives s b g (Some (read_as s.frames name)) (λ v. rest_of_word s.frames ps (grown so_far v)) (λ k'. give (read_as s.frames name) k')
      (λ v. run_kept (nested ns t levels) ps (grown so_far v) k) k w
      (λ v k' is. sym (ap (λ (u : Ended). give u k' s b g) (same_value (read_as s.frames name) v is)))
      (λ r is. word_gives ps (grown so_far r) k w is) e
      ∙ next_kept (nested ns t levels) (run_script_alike ns t levels) (variable name) ps so_far k s b g
  word_gives (part (element array index) ps) so_far k w e = absurd (cc)
  word_gives (part (bracket script) ps) so_far k w e = absurd (cc)

  -- an expression
  pub expression_gives : (x : Tree) (k : Next H) (w : Ended) → at_once s.frames x ≡ Some w → give w k s b g ≡ run_expression (nested ns t levels) x k s b g
  expression_gives (trees.value bytes) k w e = made_gives s b g (ended 0 bytes) w k e
  expression_gives (trees.word word) k w e = word_gives (parts word) (Kept []) k w e
  expression_gives (trees.unary op x) k w e =
      value_gives s b g (at_once s.frames x) (λ operand. Some (with_one op operand)) (λ k'. run_expression (nested ns t levels) x k')
      (λ operand. give (with_one op operand) k) k w (λ v k' is. expression_gives x k' v is)
      (λ r is. made_gives s b g (with_one op r) w k is) e
  expression_gives (trees.binary op x y) k w e =
      value_gives s b g (at_once s.frames x) (λ left. left_at_once (way_of op) op left (at_once s.frames y)) (λ k'. run_expression (nested ns t levels) x k')
      (λ left. behind_left (way_of op) left (run_expression (nested ns t levels) y (on_ok (λ right. give (with_two op left right) k) k)) k) k w
      (λ v k' is. expression_gives x k' v is)
      (λ r is. left_gives s b g (way_of op) op r (at_once s.frames y) (λ k'. run_expression (nested ns t levels) y k') k w (λ v k' is'. expression_gives y k' v is') is) e
  expression_gives (trees.choice x y z) k w e =
      value_gives s b g (at_once s.frames x) (λ value. on_truth (truth value) value (at_once s.frames y) (at_once s.frames z)) (λ k'. run_expression (nested ns t levels) x k')
      (λ value. by_truth value (run_expression (nested ns t levels) y k) (run_expression (nested ns t levels) z k) k) k w
      (λ v k' is. expression_gives x k' v is)
      (λ r is. truth_gives s b g (truth r) r (at_once s.frames y) (at_once s.frames z) (run_expression (nested ns t levels) y k) (run_expression (nested ns t levels) z k) k w (λ is'. expression_gives y k w is') (λ is'. expression_gives z k w is') is) e
