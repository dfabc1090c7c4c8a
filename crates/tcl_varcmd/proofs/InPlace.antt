-- Commands that change a variable's value in its place.
use Rattle.std.proofs.Common.{◌≡◌, ℕ, List, ◌++◌, Option, Some, None, Result, Ok, Err, refl, sym, ap, subst, ◌∙◌, ◌+ℤ◌}
use Rattle.std.specs.Fmt.{signed_decimal}
use Rattle.txt_core.specs.Quoting.{quoting}
use Rattle.tcl_list.specs.Answers.{AppendsTo}
use Rattle.tcl_frame.specs.Names.{named}
use Rattle.tcl_frame.specs.Meaning.{Found, Nothing, Value, AnArray, InScalar, no_read, no_write}
use Rattle.tcl_frame.specs.Stack.{Stack}
use Rattle.tcl_frame.specs.Frames.{found_in, read_of, written}
use Rattle.natives.specs.declared.fault.Fault.{Fault}
use Rattle.natives.specs.declared.fault.Fault.TheVariants.{Error, NoMemory}
use Rattle.natives.specs.Answers.{Reply, Answers as Replies, Says}
use Rattle.natives.specs.Answers as replies
use Rattle.natives.specs.Checks.{integer_error, integer, list_error, items}
use Rattle.tcl_varcmd.specs.Answers.{Came, gives, fails, unless, Answers, IfNoMemory}
use Rattle.tcl_varcmd.specs.Errors.{refused, read_error, write_error, sum_error, long_error}
use Rattle.tcl_varcmd.specs.Scalars.{stored, step_error, step_of, added, incr_by, lappend_to}
use Rattle.tcl_varcmd.specs.Growing.{grown}
use Rattle.tcl_varcmd.proofs.Values.{appended}
use Rattle.tcl_varcmd.specs.InPlace.{storing, adding, lappending, Leaves}

-- want of memory may be answered for every reply
pub no_room : (reply : Reply) → Replies reply (Err NoMemory)
no_room (Ok text) = tt
no_room (Err text) = tt

-- a reply that says its error
pub reply_said : (error : Option (List ℕ)) (message : List ℕ) (reply : Reply) (x : Fault) → error ≡ Some message → Says message x → Replies (replies.unless error reply) (Err x)
reply_said error message reply (Error text) e s = rw e s
reply_said error message reply NoMemory e s = no_room (replies.unless error reply)

-- a reply behind a check
pub reply_on : (error : Option (List ℕ)) (reply : Reply) (r : Result (List ℕ) Fault) → error ≡ None → Replies reply r → Replies (replies.unless error reply) r
reply_on error reply r none h = rw none h

-- ---- variables that can be read

pub value_read : (stack : Stack) (name value : List ℕ) → found_in stack (named name) ≡ Value value → read_error stack name ≡ None
unfolding read_error
value_read stack name value is = ap (λ f. refused name (no_read f)) is

pub value_written : (stack : Stack) (name value : List ℕ) → found_in stack (named name) ≡ Value value → write_error stack name ≡ None
unfolding write_error
value_written stack name value is = ap (λ f. refused name (no_write f)) is

readable_at : (name : List ℕ) (found : Found) → refused name (no_read found) ≡ None → refused name (no_write found) ≡ None
readable_at name Nothing h = absurd (cc)
readable_at name (Value value) h = refl
readable_at name (AnArray elements) h = absurd (cc)
readable_at name InScalar h = absurd (cc)

pub readable : (stack : Stack) (name : List ℕ) → read_error stack name ≡ None → write_error stack name ≡ None
unfolding read_error write_error
readable stack name h = readable_at name (found_in stack (named name)) h

-- ---- what a reply in the place of a variable's value comes to

-- the value is written, and an error changes nothing
abbrev pub came_of : Stack → List ℕ → Reply → Came
came_of stack name (Ok value) = gives value (written stack name value)
came_of stack name (Err text) = fails text stack

came_unless : (stack : Stack) (name : List ℕ) (error : Option (List ℕ)) (reply : Reply)
    → came_of stack name (replies.unless error reply) ≡ unless error stack (came_of stack name reply)
came_unless stack name None reply = refl
came_unless stack name (Some text) reply = refl

pub came_ok : (stack : Stack) (name value new : List ℕ) (reply : Reply) → Replies reply (Ok value) → new ≡ value → Answers (came_of stack name reply) (Ok value) (written stack name new)
came_ok stack name value new (Ok text) h left = (h, ap (written stack name) (left ∙ h))
came_ok stack name value new (Err text) h left = absurd h

pub came_err : (stack new : Stack) (name : List ℕ) (reply : Reply) (x : Fault) → Replies reply (Err x) → new ≡ stack → Answers (came_of stack name reply) (Err x) new
came_err stack new name (Ok text) (Error error) h same = absurd h
came_err stack new name (Err text) (Error error) h same = (h, same)
came_err stack new name (Ok text) NoMemory h same = tt
came_err stack new name (Err text) NoMemory h same = tt

pub came_in_place : (stack : Stack) (name old new : List ℕ) (reply : Reply) (r : Result (List ℕ) Fault) → written stack name old ≡ stack → Replies reply r → Leaves old r new
    → Answers (came_of stack name reply) r (written stack name new)
came_in_place stack name old new reply (Ok value) same h left = came_ok stack name value new reply h left
came_in_place stack name old new reply (Err x) same h left = came_err stack (written stack name new) name reply x h (ap (written stack name) left ∙ same)

-- where memory wants, nothing changes
pub kept_in_place : (stack : Stack) (name old new : List ℕ) (r : Result (List ℕ) Fault) → written stack name old ≡ stack → Leaves old r new
    → IfNoMemory r (written stack name new ≡ stack)
kept_in_place stack name old new (Ok value) same left = tt
kept_in_place stack name old new (Err (Error text)) same left = tt
kept_in_place stack name old new (Err NoMemory) same left = ap (written stack name) left ∙ same

-- ---- the commands

pub stored_in_place : (stack : Stack) (name value : List ℕ) → write_error stack name ≡ None → came_of stack name (storing value) ≡ stored stack name value
stored_in_place stack name value none =
    came_unless stack name (long_error value) (Ok value)
    ∙ ap (λ e. unless (long_error value) stack (unless e stack (gives value (written stack name value)))) (sym none)

pub added_in_place : (stack : Stack) (name : List ℕ) (n : Option (List ℕ)) → read_error stack name ≡ None → write_error stack name ≡ None
    → came_of stack name (adding (read_of stack name) n) ≡ incr_by stack name n
added_in_place stack name n read none =
    let old = read_of stack name in
    let total = integer old +ℤ step_of n in
    came_unless stack name (integer_error old) (replies.unless (step_error n) (replies.unless (sum_error total) (storing (signed_decimal total))))
    ∙ ap (unless (integer_error old) stack) (came_unless stack name (step_error n) (replies.unless (sum_error total) (storing (signed_decimal total)))
    ∙ ap (unless (step_error n) stack) (came_unless stack name (sum_error total) (storing (signed_decimal total))
    ∙ ap (unless (sum_error total) stack) (stored_in_place stack name (signed_decimal total) none)))
    ∙ ap (λ e. unless e stack (unless (integer_error old) stack (unless (step_error n) stack (added stack name total)))) (sym read)

pub grown_in_place : (stack : Stack) (name more : List ℕ) → write_error stack name ≡ None → came_of stack name (storing (read_of stack name ++ more)) ≡ grown stack name more
grown_in_place stack name more none =
    stored_in_place stack name (read_of stack name ++ more) none
    ∙ ap (λ e. unless e stack (stored stack name (read_of stack name ++ more))) (sym none)

pub lappended_in_place : (stack : Stack) (name : List ℕ) (values : List (List ℕ)) → write_error stack name ≡ None
    → came_of stack name (lappending (read_of stack name) values) ≡ lappend_to stack name values
lappended_in_place stack name values none =
    let old = read_of stack name in
    let whole = quoting (items old ++ values) in
    came_unless stack name (list_error old) (storing whole)
    ∙ ap (unless (list_error old) stack) (stored_in_place stack name whole none)
    ∙ ap (λ e. unless e stack (unless (list_error old) stack (stored stack name whole))) (sym none)

-- what stands behind a list with elements at its end is put behind it
pub lappending_behind : (old more : List ℕ) (values : List (List ℕ)) (r : Result (List ℕ) Fault) → AppendsTo old values (Ok (old ++ more))
    → Replies (storing (old ++ more)) r → Replies (lappending old values) r
lappending_behind old more values r appends h =
    let is = appended old values (old ++ more) appends in
    reply_on (list_error old) (storing (quoting (items old ++ values))) r is.0 (subst (λ t. Replies (storing t) r) is.1 h)

-- a list that is written anew
pub lappending_anew : (old whole : List ℕ) (values : List (List ℕ)) (r : Result (List ℕ) Fault) → list_error old ≡ None → whole ≡ quoting (items old ++ values)
    → Replies (storing whole) r → Replies (lappending old values) r
lappending_anew old whole values r none is h =
    reply_on (list_error old) (storing (quoting (items old ++ values))) r none (subst (λ t. Replies (storing t) r) is h)
