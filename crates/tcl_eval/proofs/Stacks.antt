-- A stack with one frame more.
use Rattle.std.proofs.Common.{◌≡◌, ℕ, ◌+◌, List, [], ◌∷◌, ◌++◌, refl, sym, ap, ◌∙◌, arith}
use Rattle.txt_core.specs.Names.{Names}
use Rattle.tcl_eval.specs.State.{State, LeafTable, Given, Out, Next, done}
use Rattle.tcl_eval.specs.Stack.{frame_next, above, stack_next, frame_weight, stack_weight, frame_free, stack_free}
use Rattle.tcl_eval.specs.declared.stack.Frame.{Frame}

module _ {H : Type 0} (ns : Names) (t : LeafTable H) where
  above_push : (fs : List Frame) (f : Frame) (k : Next H) → above ns t (fs ++ f ∷ []) k ≡ frame_next ns t f (above ns t fs k)
  above_push [] f k = refl
  above_push (g ∷ fs) f k = above_push fs f (frame_next ns t g k)

  pub pushed : (fs fs' : List Frame) (f : Frame) → fs' ≡ fs ++ f ∷ [] → stack_next ns t fs' ≡ frame_next ns t f (stack_next ns t fs)
  pushed fs fs' f e = ap (λ x. stack_next ns t x) e ∙ above_push fs f done

  -- the top frame is given what it waited for
  pub gave : (fs fs1 : List Frame) (f : Frame) (code : ℕ) (result : List ℕ) (s : State H) (b : ℕ) (g : Given) (x y : Out H) → fs ≡ fs1 ++ f ∷ [] → x ≡ frame_next ns t f (stack_next ns t fs1) code result s b g → stack_next ns t fs code result s b g ≡ y → x ≡ y
  gave fs fs1 f code result s b g x y e m inv = m ∙ ap (λ k. k code result s b g) (sym (pushed fs1 fs f e)) ∙ inv

weight_push : (fs : List Frame) (f : Frame) → stack_weight (fs ++ f ∷ []) ≡ stack_weight fs + frame_weight f
weight_push [] f = omega arith
weight_push (g ∷ fs) f = omega (arith, weight_push fs f)

pub weighed : (fs fs' : List Frame) (f : Frame) → fs' ≡ fs ++ f ∷ [] → stack_weight fs' ≡ stack_weight fs + frame_weight f
weighed fs fs' f e = ap stack_weight e ∙ weight_push fs f

pub frees_push : (fs : List Frame) (f : Frame) → stack_free (fs ++ f ∷ []) ≡ stack_free fs + frame_free f
frees_push [] f = omega arith
frees_push (g ∷ fs) f = omega (arith, frees_push fs f)

pub freed : (fs fs' : List Frame) (f : Frame) → fs' ≡ fs ++ f ∷ [] → stack_free fs' ≡ stack_free fs + frame_free f
freed fs fs' f e = ap stack_free e ∙ frees_push fs f
