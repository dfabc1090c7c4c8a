-- What a command answers, by what its checks found.
use Rattle.std.proofs.Common.{◌≡◌, ◌∙◌, ap, sym, refl, subst, inl, inr, Bool, true, false, List, ℕ, ℤ, Option, Some, Result, Ok, Err}
use Rattle.natives.specs.Answers.{Reply, unless, Answers, Says, Tried, limited}
use Rattle.txt_core.specs.Limits.{is_long}
use Rattle.txt_core.specs.ErrorTexts.{too_long}
use Rattle.natives.specs.Indexes.{index, index_error}
use Rattle.natives.specs.declared.fault.Fault.{Fault}
use Rattle.natives.specs.declared.fault.Fault.TheVariants.{Error, NoMemory}
use Rattle.tcl_string.specs.Early.{Comes}

-- want of memory answers anything
pub no_memory : (reply : Reply) → Answers reply (Err NoMemory)
no_memory (Ok text) = tt
no_memory (Err text) = tt

-- an error that is said is one that a check found
pub tried_said : {A : Type 0} (P : A → Type 0) (error : Option (List ℕ)) (text : List ℕ) (fault : Fault) → error ≡ Some text → Says text fault → Tried error P (Err fault)
tried_said P error text (Error said) e says = e ∙ ap (λ (t : List ℕ). Some t) (sym says)
tried_said P error text NoMemory e says = tt

-- an error that is said is what the command comes to
pub answers_said : (text : List ℕ) (fault : Fault) → Says text fault → Answers (Err text) (Err fault)
answers_said text (Error said) says = says
answers_said text NoMemory says = tt

-- where a check fails, the command comes to its error
pub failed : {A : Type 0} (P : A → Type 0) (error : Option (List ℕ)) (reply : Reply) (fault : Fault) → Tried error P (Err fault) → Answers (unless error reply) (Err fault)
failed P error reply (Error text) e = rw e refl
failed P error reply NoMemory e = no_memory (unless error reply)

-- where it passes, the command goes on
pub passed : {A : Type 0} (P : A → Type 0) (error : Option (List ℕ)) (reply : Reply) (value : A) (result : Result (List ℕ) Fault) → Tried error P (Ok value) → Answers reply result → Answers (unless error reply) result
passed P error reply value result e h = rw e.0 h

-- two indexes of a command, one behind the other
pub placed_twice : (command a b : List ℕ) (last p q : ℤ) (reply : ℤ → ℤ → Reply) (result : Result (List ℕ) Fault)
    → Tried (index_error command last a) (λ (place : ℤ). place ≡ index last a) (Ok p)
    → Tried (index_error command last b) (λ (place : ℤ). place ≡ index last b) (Ok q)
    → Answers (reply p q) result
    → Answers (unless (index_error command last a) (unless (index_error command last b) (reply (index last a) (index last b)))) result
placed_twice command a b last p q reply result h k r = rw (h.0, k.0, ← h.1, ← k.1) r

-- what is over the limit is said to be so, once
limited_text : (long : Bool) (text : List ℕ) → is_long text ≡ long → limited (limited (Ok text)) ≡ limited (Ok text)
limited_text true text e = rw e refl
limited_text false text e = rw (e, e) refl

limited_error : (long : Bool) (text : List ℕ) → is_long text ≡ long → limited (limited (Err text)) ≡ limited (Err text)
limited_error true text e = rw e refl
limited_error false text e = rw (e, e) refl

pub limited_again : (reply : Reply) → limited (limited reply) ≡ limited reply
limited_again (Ok text) = limited_text (is_long text) text refl
limited_again (Err text) = limited_error (is_long text) text refl

-- an answer comes, and so does one that is over the limit
pub comes : (reply : Reply) (result : Result (List ℕ) Fault) → Answers reply result → Comes reply result
comes reply (Ok text) h = h
comes reply (Err (Error text)) h = inl h
comes reply (Err NoMemory) h = tt

pub comes_limited : (reply : Reply) (fault : Fault) → Answers (limited reply) (Err fault) → Comes reply (Err fault)
comes_limited reply (Error text) h = inr h
comes_limited reply NoMemory h = tt

-- a text that is over the limit
pub comes_long : (text : List ℕ) (fault : Fault) → is_long text ≡ true → Says too_long fault → Comes (Ok text) (Err fault)
comes_long text fault e says = comes_limited (Ok text) fault (rw e (answers_said too_long fault says))

-- where a check passes, the command goes on
pub comes_on : {A : Type 0} (P : A → Type 0) (error : Option (List ℕ)) (reply : Reply) (value : A) (result : Result (List ℕ) Fault) → Tried error P (Ok value) → Comes reply result → Comes (unless error reply) result
comes_on P error reply value result e h = rw e.0 h

-- what comes of a command is its answer, once its length is judged
pub comes_within : (reply : Reply) (early result : Result (List ℕ) Fault) → Comes reply early → ((r : Reply) → Answers r early → Answers (limited r) result) → Answers (limited reply) result
comes_within reply (Ok text) result h within = within reply h
comes_within reply (Err (Error text)) result (inl h) within = within reply h
comes_within reply (Err (Error text)) result (inr h) within = subst (λ (r : Reply). Answers r result) (limited_again reply) (within (limited reply) h)
comes_within reply (Err NoMemory) result h within = within reply (no_memory reply)
