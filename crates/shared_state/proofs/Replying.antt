-- A bucket's step never replies that memory wants.
use Rattle.std.proofs.Common.{◌≡◌, ℕ, ℤ, Bool, true, false, List, Option, None, Some, refl}
use Rattle.std.specs.FinMap as map
use Rattle.std.specs.Option.{option_map_or, unwrap_or}
use Rattle.std.specs.Prelude.{slice_get, codes, if◌then◌else◌}
use Rattle.std.specs.List.{concat}
use Rattle.txt_core.specs.Number.{number}
use Rattle.txt_core.specs.Lists.{Listing, elements, bad_at}
use Rattle.txt_core.specs.Listing.{listing}
use Rattle.nsv_bucket.specs.declared.reply.NsvReply.{NsvReply}
use Rattle.nsv_bucket.specs.declared.reply.NsvReply.TheVariants.{Said, Failed}
use Rattle.nsv_bucket.specs.declared.question.ArrayQuestion.{ArrayQuestion}
use Rattle.nsv_bucket.specs.declared.question.ArrayQuestion.TheVariants.{Set, Get, Exists, Incr, Append, Lappend, Unset, Names, ArraySet, ArrayReset, ArrayGet, ArrayNames, ArraySize, ArrayExists}
use Rattle.nsv_bucket.specs.Arrays.{Array, Arrays, array_of, value_of, text_at}
use Rattle.nsv_bucket.specs.Questions.{question_of}
use Rattle.txt_core.specs.Limits.{is_long}
use Rattle.txt_core.specs.ErrorTexts.{no_integer, no_list}
use Rattle.txt_core.specs.Words.{arg}
use Rattle.nsv_bucket.specs.Replies.{Outcome, over_limit, refusal, result_of, refused, answered, no_shared_array, no_key, bad_pairs}
use Rattle.nsv_bucket.specs.Reads.{at_array, at_key}
use Rattle.nsv_bucket.specs.Writes.{stored, at_number, incr_step, unset_key, unset_array, sum_of}
use Rattle.nsv_bucket.specs.Lists.{lappended, lappend_step, paired, is_even, has_long_value, array_set_step, array_reset_step}
use Rattle.nsv_bucket.specs.Steps.{question_step, step_by, array_step}
use Rattle.shared_state.specs.Lines.{is_wanting}

abbrev pub Answers : Outcome → Type 0
Answers outcome = is_wanting outcome.0 ≡ false

by_test : (test : Bool) (x y : NsvReply) → is_wanting x ≡ false → is_wanting y ≡ false → is_wanting (if test then x else y) ≡ false
by_test true x y p q = p
by_test false x y p q = q

by_case : (test : Bool) (x y : Outcome) → Answers x → Answers y → Answers (if test then x else y)
by_case true x y p q = p
by_case false x y p q = q

by_option : {A : Type 0} (f : A → Outcome) (o : Option A) (d : Outcome) → ((a : A) → Answers (f a)) → Answers d → Answers (option_map_or f o d)
by_option f None d p q = q
by_option f (Some a) d p q = p a

refused_answers : (arrays : Arrays) (text : List ℕ) → Answers (refused arrays text)
refused_answers arrays text = by_test (is_long text) (Failed (codes "value too long")) (Failed text) refl refl

answered_answers : (arrays : Arrays) (text : List ℕ) → Answers (answered arrays text)
answered_answers arrays text = by_test (is_long text) (Failed (codes "value too long")) (Said text) refl refl

stored_answers : (arrays : Arrays) (name key value : List ℕ) → Answers (stored arrays name key value)
stored_answers arrays name key value = by_case (is_long value) (over_limit arrays) _ refl refl

at_array_answers : (arrays : Arrays) (name : List ℕ) (next : Array → Outcome) → ((a : Array) → Answers (next a)) → Answers (at_array arrays name next)
at_array_answers arrays name next p = by_option next (map.get arrays name) (refused arrays (no_shared_array name)) p (refused_answers arrays (no_shared_array name))

at_key_answers : (arrays : Arrays) (name key : List ℕ) (next : List ℕ → Outcome) → ((v : List ℕ) → Answers (next v)) → Answers (at_key arrays name key next)
at_key_answers arrays name key next p =
    at_array_answers arrays name (λ array. option_map_or next (map.get array key) (refused arrays (no_key key name)))
    (λ array. by_option next (map.get array key) (refused arrays (no_key key name)) p (refused_answers arrays (no_key key name)))

at_number_answers : (arrays : Arrays) (text : List ℕ) (next : ℤ → Outcome) → ((n : ℤ) → Answers (next n)) → Answers (at_number arrays text next)
at_number_answers arrays text next p = by_option next (number text) (refused arrays (no_integer text)) p (refused_answers arrays (no_integer text))

incr_answers : (arrays : Arrays) (words : List (List ℕ)) → Answers (incr_step arrays words)
incr_answers arrays words =
    at_number_answers arrays _ _ (λ old.
    at_number_answers arrays _ _ (λ more.
    by_option _ (sum_of old more) _ (λ sum. stored_answers arrays _ _ _) (refused_answers arrays (codes "integer overflow"))))

lappended_answers : (arrays : Arrays) (words : List (List ℕ)) (l : Listing) → Answers (lappended arrays words l)
lappended_answers arrays words (bad_at place) = refused_answers arrays (no_list place)
lappended_answers arrays words (elements standing) = stored_answers arrays _ _ _

paired_answers : (arrays : Arrays) (words : List (List ℕ)) (array : Array) (l : Listing) → Answers (paired arrays words array l)
paired_answers arrays words array (bad_at place) = refused_answers arrays (no_list place)
paired_answers arrays words array (elements pairs) =
    by_case (is_even pairs) _ _ (by_case (has_long_value pairs) (over_limit arrays) _ refl refl) (refused_answers arrays (bad_pairs (arg words 3)))

question_answers : (q : ArrayQuestion) (arrays : Arrays) (words : List (List ℕ)) → Answers (question_step q arrays words)
question_answers Set arrays words = stored_answers arrays _ _ _
question_answers Get arrays words = at_key_answers arrays _ _ _ (λ v. answered_answers arrays v)
question_answers Exists arrays words = answered_answers arrays _
question_answers Incr arrays words = incr_answers arrays words
question_answers Append arrays words = stored_answers arrays _ _ _
question_answers Lappend arrays words = lappended_answers arrays words (listing (text_at (array_of arrays (arg words 1)) (arg words 2)))
question_answers Unset arrays words =
    by_option (unset_key arrays (arg words 1)) (slice_get words 2) (unset_array arrays (arg words 1))
    (λ key. at_key_answers arrays _ _ _ (λ v. refl)) (at_array_answers arrays _ _ (λ a. refl))
question_answers Names arrays words = answered_answers arrays _
question_answers ArraySet arrays words = paired_answers arrays words (array_of arrays (arg words 2)) (listing (arg words 3))
question_answers ArrayReset arrays words = paired_answers arrays words map.empty (listing (arg words 3))
question_answers ArrayGet arrays words = answered_answers arrays _
question_answers ArrayNames arrays words = answered_answers arrays _
question_answers ArraySize arrays words = answered_answers arrays _
question_answers ArrayExists arrays words = answered_answers arrays _

by_question : (q : Option ArrayQuestion) (arrays : Arrays) (words : List (List ℕ)) → Answers (step_by q arrays words)
by_question None arrays words = refl
by_question (Some q) arrays words = question_answers q arrays words

pub step_answers : (arrays : Arrays) (words : List (List ℕ)) → Answers (array_step arrays words)
step_answers arrays words = by_question (question_of words) arrays words
