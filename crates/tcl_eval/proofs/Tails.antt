-- What a step that is returned as it came keeps.
use Rattle.std.proofs.Common.{◌≤◌, ℕ, ◌+◌, arith}
use Rattle.std.specs.Prelude.{IfOk, OnOk, Result}
use Rattle.std.proofs.lemmas.Result.{IfOk-weaker}
use Rattle.tcl_eval.specs.Stack.{stack_free, step_free}
use Rattle.tcl_eval.specs.Engine.{Stays, Remains}
use Rattle.tcl_eval.specs.declared.engine.Engine.{Engine}
use Rattle.tcl_eval.specs.declared.stack.Step.{Step}

module _ {H : Type 0} where
  pub stays_remains : {E : Type 0} → (r : Result Step E) (new old : Engine H) → IfOk r (λ step. Stays step new old) → OnOk r (Remains new old)
  stays_remains r new old = IfOk-weaker r (λ step. Stays step new old) (λ _. Remains new old) (λ step h. (h.0, h.1))

  pub stays_free : {E : Type 0} → (r : Result Step E) (new old : Engine H) (n : ℕ) → IfOk r (λ step. Stays step new old) → IfOk r (λ step. stack_free new.stack.items + step_free step ≤ stack_free old.stack.items + n)
  stays_free r new old n = IfOk-weaker r (λ step. Stays step new old) (λ step. stack_free new.stack.items + step_free step ≤ stack_free old.stack.items + n) (λ step h. omega (arith, h.2))
