-- What a command answers, by what its checks found.
use Rattle.std.proofs.Common.{◌≡◌, ◌∙◌, ap, sym, refl, List, ℕ, ℤ, Option, Some, Result, Ok, Err}
use Rattle.natives.specs.Answers.{Reply, unless, Answers, Says, Tried}
use Rattle.natives.specs.Indexes.{index, index_error}
use Rattle.natives.specs.declared.fault.Fault.{Fault}
use Rattle.natives.specs.declared.fault.Fault.TheVariants.{Error, NoMemory}

-- want of memory answers anything
pub no_memory : (reply : Reply) → Answers reply (Err NoMemory)
no_memory (Ok text) = tt
no_memory (Err text) = tt

-- an error that is said is one that a check found
pub tried_said : {A : Type 0} (P : A → Type 0) (error : Option (List ℕ)) (text : List ℕ) (fault : Fault) → error ≡ Some text → Says text fault → Tried error P (Err fault)
tried_said P error text (Error said) e says = e ∙ ap (λ (t : List ℕ). Some t) (sym says)
tried_said P error text NoMemory e says = tt

-- an error that is said is what the command comes to
pub answers_said : (text : List ℕ) (fault : Fault) → Says text fault → Answers (Err text) (Err fault)
answers_said text (Error said) says = says
answers_said text NoMemory says = tt

-- where a check fails, the command comes to its error
pub failed : {A : Type 0} (P : A → Type 0) (error : Option (List ℕ)) (reply : Reply) (fault : Fault) → Tried error P (Err fault) → Answers (unless error reply) (Err fault)
failed P error reply (Error text) e = rw e refl
failed P error reply NoMemory e = no_memory (unless error reply)

-- where it passes, the command goes on
pub passed : {A : Type 0} (P : A → Type 0) (error : Option (List ℕ)) (reply : Reply) (value : A) (result : Result (List ℕ) Fault) → Tried error P (Ok value) → Answers reply result → Answers (unless error reply) result
passed P error reply value result e h = rw e.0 h

-- two indexes of a command, one behind the other
pub placed_twice : (command a b : List ℕ) (last p q : ℤ) (reply : ℤ → ℤ → Reply) (result : Result (List ℕ) Fault)
    → Tried (index_error command last a) (λ (place : ℤ). place ≡ index last a) (Ok p)
    → Tried (index_error command last b) (λ (place : ℤ). place ≡ index last b) (Ok q)
    → Answers (reply p q) result
    → Answers (unless (index_error command last a) (unless (index_error command last b) (reply (index last a) (index last b)))) result
placed_twice command a b last p q reply result h k r = rw (h.0, k.0, ← h.1, ← k.1) r
