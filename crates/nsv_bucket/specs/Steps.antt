-- What words do to a bucket: the reply, and the arrays after it.
use Rattle.std.specs.Prelude.{◌≡◌, ◌⊎◌, [], Option, None, Some}
use Rattle.txt_core.specs.Names.{Words}
use Rattle.nsv_bucket.specs.declared.reply.NsvReply.{NsvReply}
use Rattle.nsv_bucket.specs.declared.reply.NsvReply.TheVariants.{Failed, NoMemory}
use Rattle.nsv_bucket.specs.declared.question.ArrayQuestion.{ArrayQuestion}
use Rattle.nsv_bucket.specs.declared.question.ArrayQuestion.TheVariants.{Set, Get, Exists, Incr, Append, Lappend, Unset, Names, ArraySet, ArrayReset, ArrayGet, ArrayNames, ArraySize, ArrayExists}
use Rattle.nsv_bucket.specs.Arrays.{Arrays}
use Rattle.nsv_bucket.specs.Questions.{question_of}
use Rattle.nsv_bucket.specs.Replies.{Outcome}
use Rattle.nsv_bucket.specs.Reads.{get_step, exists_step, names_step, array_get_step, array_names_step, array_size_step, array_exists_step}
use Rattle.nsv_bucket.specs.Writes.{set_step, incr_step, append_step, unset_step}
use Rattle.nsv_bucket.specs.Lists.{lappend_step, array_set_step, array_reset_step}

-- each question has its step
abbrev pub question_step : ArrayQuestion → Arrays → Words → Outcome
question_step Set arrays words = set_step arrays words
question_step Get arrays words = get_step arrays words
question_step Exists arrays words = exists_step arrays words
question_step Incr arrays words = incr_step arrays words
question_step Append arrays words = append_step arrays words
question_step Lappend arrays words = lappend_step arrays words
question_step Unset arrays words = unset_step arrays words
question_step Names arrays words = names_step arrays words
question_step ArraySet arrays words = array_set_step arrays words
question_step ArrayReset arrays words = array_reset_step arrays words
question_step ArrayGet arrays words = array_get_step arrays words
question_step ArrayNames arrays words = array_names_step arrays words
question_step ArraySize arrays words = array_size_step arrays words
question_step ArrayExists arrays words = array_exists_step arrays words

-- words that are no question are refused with the empty text, and leave the arrays
abbrev pub step_by : Option ArrayQuestion → Arrays → Words → Outcome
step_by None arrays words = (Failed [], arrays)
step_by (Some question) arrays words = question_step question arrays words

-- the step of words
abbrev pub array_step : Arrays → Words → Outcome
array_step arrays words = step_by (question_of words) arrays words

-- the words take the first arrays to this reply and the second arrays; for want of memory the arrays are as they were
abbrev pub ArraySteps : Arrays → Words → NsvReply → Arrays → Type 0
ArraySteps before words reply after = ((reply ≡ (array_step before words).0) × (after ≡ (array_step before words).1)) ⊎ ((reply ≡ NoMemory) × (after ≡ before))

-- words have one reply and one map of arrays after it, but for want of memory
abbrev pub StepsAreDetermined : Type 0
StepsAreDetermined = (before one other : Arrays) (words : Words) (r s : NsvReply) → ArraySteps before words r one → ArraySteps before words s other → (r ≡ NoMemory → ⊥) → (s ≡ NoMemory → ⊥) → (r ≡ s) × (one ≡ other)
