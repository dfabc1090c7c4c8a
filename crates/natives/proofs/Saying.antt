-- An error that is said is one that a check found.
use Rattle.std.proofs.Common.{◌≡◌, ◌∙◌, ap, sym, List, ℕ, Option, Some, Err}
use Rattle.natives.specs.declared.fault.Fault.{Fault}
use Rattle.natives.specs.declared.fault.Fault.TheVariants.{Error, NoMemory}
use Rattle.natives.specs.Answers.{Says, Tried}

pub tried_said : {A : Type 0} (P : A → Type 0) (error : Option (List ℕ)) (text : List ℕ) (fault : Fault) → error ≡ Some text → Says text fault → Tried error P (Err fault)
tried_said P error text (Error said) e says = e ∙ ap (λ (t : List ℕ). Some t) (sym says)
tried_said P error text NoMemory e says = tt
