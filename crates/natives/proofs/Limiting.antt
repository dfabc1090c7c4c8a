-- Answers over the limit, and what they come to.
use Rattle.std.proofs.Common.{◌≡◌, ◌∙◌, true, false, ap, sym, List, ℕ, Result, Ok, Err}
use Rattle.std.proofs.lemmas.Bool.{true≢false}
use Rattle.txt_core.specs.ErrorTexts.{too_long}
use Rattle.txt_core.specs.Limits.{is_long}
use Rattle.natives.specs.declared.fault.Fault.{Fault}
use Rattle.natives.specs.declared.fault.Fault.TheVariants.{Error, NoMemory}
use Rattle.natives.specs.Answers.{Reply, Answers, Says, limited, has_long_text}

-- want of memory may be answered for every reply
no_room : (reply : Reply) → Answers reply (Err NoMemory)
no_room (Ok text) = tt
no_room (Err text) = tt

-- one that is over the limit is the error of that
pub limited_long : (reply : Reply) (answer : Result (List ℕ) Fault) (fault : Fault) → Answers reply answer → has_long_text answer ≡ true → Says too_long fault → Answers (limited reply) (Err fault)
limited_long (Ok text) (Ok result) (Error error) h long says = rw (sym (ap is_long h) ∙ long) says
limited_long (Ok text) (Err (Error said)) (Error error) h long says = absurd h
limited_long (Err text) (Ok result) (Error error) h long says = absurd h
limited_long (Err text) (Err (Error said)) (Error error) h long says = rw (sym (ap is_long h) ∙ long) says
limited_long reply (Err NoMemory) (Error error) h long says = absurd (true≢false (sym long))
limited_long reply answer NoMemory h long says = no_room (limited reply)

-- any other stands
pub limited_short : (reply : Reply) (answer : Result (List ℕ) Fault) → Answers reply answer → has_long_text answer ≡ false → Answers (limited reply) answer
limited_short (Ok text) (Ok result) h short = rw (sym (ap is_long h) ∙ short) h
limited_short (Ok text) (Err (Error said)) h short = absurd h
limited_short (Err text) (Ok result) h short = absurd h
limited_short (Err text) (Err (Error said)) h short = rw (sym (ap is_long h) ∙ short) h
limited_short reply (Err NoMemory) h short = no_room (limited reply)
