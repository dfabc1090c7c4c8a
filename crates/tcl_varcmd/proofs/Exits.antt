-- How an answer follows from the answers of the checks before it.
use Rattle.std.proofs.Common.{◌≡◌, ℕ, List, Option, Some, None, Result, Err, refl, sym, ap, subst, ◌∙◌}
use Rattle.tcl_frame.specs.Stack.{Stack}
use Rattle.natives.specs.declared.fault.Fault.{Fault}
use Rattle.natives.specs.declared.fault.Fault.TheVariants.{Error, NoMemory}
use Rattle.natives.specs.Answers.{Tried, Says}
use Rattle.tcl_varcmd.specs.Answers.{Came, unless, Answers, Changes}

-- a check that says its error
pub tried_said : {A : Type 0} (P : A → Type 0) (error : Option (List ℕ)) (message : List ℕ) (x : Fault) → error ≡ Some message → Says message x → Tried error P (Err x)
tried_said P error message (Error text) e s = e ∙ ap Some (sym s)
tried_said P error message NoMemory e s = tt

-- a check that goes on with another value
pub tried_other : {A B : Type 0} (P : A → Type 0) (Q : B → Type 0) (error : Option (List ℕ)) (x : Fault) → Tried error P (Err x) → Tried error Q (Err x)
tried_other P Q error (Error text) h = h
tried_other P Q error NoMemory h = tt

-- a change that says its error
pub changes_said : (error : Option (List ℕ)) (message : List ℕ) (after before new : Stack) (x : Fault) → error ≡ Some message → Says message x → new ≡ before → Changes error after before (Err x) new
changes_said error message after before new (Error text) e s same = (e ∙ ap Some (sym s), same)
changes_said error message after before new NoMemory e s same = same

-- a command that says its error
pub answers_said : (error : Option (List ℕ)) (message : List ℕ) (stack new : Stack) (came : Came) (x : Fault) → error ≡ Some message → Says message x → new ≡ stack → Answers (unless error stack came) (Err x) new
answers_said error message stack new came (Error text) e s same = rw (e ∙ ap Some (sym s)) (refl, same)
answers_said error message stack new came NoMemory e s same = tt

-- a command that ends with a check's error
pub answers_exit : {A : Type 0} (P : A → Type 0) (error : Option (List ℕ)) (stack new : Stack) (came : Came) (x : Fault) → Tried error P (Err x) → new ≡ stack → Answers (unless error stack came) (Err x) new
answers_exit P error stack new came (Error text) h same = rw h (refl, same)
answers_exit P error stack new came NoMemory h same = tt

-- a command that ends with a change's error
pub answers_unchanged : (error : Option (List ℕ)) (stack after new : Stack) (came : Came) (x : Fault) → Changes error after stack (Err x) new → Answers (unless error stack came) (Err x) new
answers_unchanged error stack after new came (Error text) h = rw h.0 (refl, h.1)
answers_unchanged error stack after new came NoMemory h = tt

-- a command that went on behind a check
pub answers_past : (error : Option (List ℕ)) (stack new : Stack) (came : Came) (r : Result (List ℕ) Fault) → error ≡ None → Answers (unless error stack came) r new → Answers came r new
answers_past error stack new came r none h = subst (λ e. Answers (unless e stack came) r new) none h

-- a command that goes on behind a check
pub answers_on : (error : Option (List ℕ)) (stack new : Stack) (came : Came) (r : Result (List ℕ) Fault) → error ≡ None → Answers came r new → Answers (unless error stack came) r new
answers_on error stack new came r none h = rw none h
