-- Answers over the limit: what they come to, and which frames they leave.
use Rattle.std.proofs.Common.{◌≡◌, ℕ, List, ◌++◌, Bool, true, false, Option, Some, None, Result, Ok, Err, refl, sym, ap, subst, ◌∙◌, ◌+ℤ◌}
use Rattle.std.specs.Fmt.{signed_decimal}
use Rattle.std.specs.Prelude.{slice_get, drop, codes}
use Rattle.std.specs.List.{concat}
use Rattle.std.proofs.lemmas.Bool.{true≢false}
use Rattle.txt_core.specs.Limits.{is_long}
use Rattle.txt_core.specs.ErrorTexts.{too_long}
use Rattle.txt_core.specs.Quoting.{quoting}
use Rattle.txt_core.specs.Truth.{truth_text}
use Rattle.tcl_frame.specs.Stack.{Stack}
use Rattle.tcl_frame.specs.Frames.{read_of, written, has}
use Rattle.natives.specs.declared.fault.Fault.{Fault}
use Rattle.natives.specs.declared.fault.Fault.TheVariants.{Error, NoMemory}
use Rattle.natives.specs.Answers.{Says, has_long_text}
use Rattle.natives.specs.Checks.{integer_error, integer, list_error, items}
use Rattle.natives.specs.Words.{arg}
use Rattle.tcl_varcmd.specs.declared.command.Command.{Command}
use Rattle.tcl_varcmd.specs.declared.command.Command.TheVariants.{Set, Unset, Incr, Append, Lappend, Global, Array, Info}
use Rattle.tcl_varcmd.specs.Answers.{Came, gives, fails, unless, Answers, IfNoMemory}
use Rattle.tcl_varcmd.specs.Errors.{read_error, write_error, count_error, least_error, sum_error, long_error}
use Rattle.tcl_varcmd.specs.Scalars.{stored, set_to, step_error, step_of, added, incr_by, append_to, lappend_to}
use Rattle.tcl_varcmd.specs.Commands.{command_came, bounded}
use Rattle.tcl_varcmd.specs.Judging.{is_on_one, LongKeeps}
use Rattle.tcl_varcmd.proofs.Counts.{is_too_long}

-- ---- answers

-- one that is over the limit is the error of that
pub bounded_long : (came : Came) (r : Result (List ℕ) Fault) (x : Fault) (new : Stack) → Answers came r new → has_long_text r ≡ true → Says too_long x → Answers (bounded came) (Err x) new
bounded_long (gives text stack) (Ok value) (Error error) new h long s = rw (sym (ap is_long h.0) ∙ long) (s, h.1)
bounded_long (fails text stack) (Ok value) (Error error) new h long s = absurd h
bounded_long (gives text stack) (Err (Error said)) (Error error) new h long s = absurd h
bounded_long (fails text stack) (Err (Error said)) (Error error) new h long s = rw (sym (ap is_long h.0) ∙ long) (s, h.1)
bounded_long came (Err NoMemory) (Error error) new h long s = absurd (true≢false (sym long))
bounded_long came r NoMemory new h long s = tt

-- any other stands
pub bounded_short : (came : Came) (r : Result (List ℕ) Fault) (new : Stack) → Answers came r new → has_long_text r ≡ false → Answers (bounded came) r new
bounded_short (gives text stack) (Ok value) new h short = rw (sym (ap is_long h.0) ∙ short) h
bounded_short (fails text stack) (Ok value) new h short = absurd h
bounded_short (gives text stack) (Err (Error said)) new h short = absurd h
bounded_short (fails text stack) (Err (Error said)) new h short = rw (sym (ap is_long h.0) ∙ short) h
bounded_short came (Err NoMemory) new h short = tt

-- the frames that one over the limit leaves
pub long_kept : (stack new : Stack) (came : Came) (r : Result (List ℕ) Fault) → LongKeeps stack came → Answers came r new → has_long_text r ≡ true → new ≡ stack
long_kept stack new (gives text after) (Ok value) keeps h long = h.1 ∙ keeps (sym (ap is_long h.0) ∙ long)
long_kept stack new (fails text after) (Ok value) keeps h long = absurd h
long_kept stack new (gives text after) (Err (Error said)) keeps h long = absurd h
long_kept stack new (fails text after) (Err (Error said)) keeps h long = h.1 ∙ keeps
long_kept stack new came (Err NoMemory) keeps h long = absurd (true≢false (sym long))

pub kept_at : (x : Fault) (fact : Type 0) → fact → IfNoMemory {A = List ℕ} (Err x) fact
kept_at (Error text) fact h = tt
kept_at NoMemory fact h = h

-- ---- commands

keeps_unless : (error : Option (List ℕ)) (stack : Stack) (came : Came) → LongKeeps stack came → LongKeeps stack (unless error stack came)
keeps_unless None stack came h = h
keeps_unless (Some text) stack came h = refl

stored_by : (stack : Stack) (name value : List ℕ) (long : Bool) → is_long value ≡ long → LongKeeps stack (stored stack name value)
stored_by stack name value true is =
    subst (λ e. LongKeeps stack (unless e stack (unless (write_error stack name) stack (gives value (written stack name value))))) (sym (is_too_long value is)) refl
stored_by stack name value false is =
    keeps_unless (long_error value) stack (unless (write_error stack name) stack (gives value (written stack name value)))
    (keeps_unless (write_error stack name) stack (gives value (written stack name value)) (λ long. absurd (true≢false (sym long ∙ is))))

stored_keeps : (stack : Stack) (name value : List ℕ) → LongKeeps stack (stored stack name value)
stored_keeps stack name value = stored_by stack name value (is_long value) refl

set_keeps : (stack : Stack) (name : List ℕ) (value : Option (List ℕ)) → LongKeeps stack (set_to stack name value)
set_keeps stack name None = keeps_unless (read_error stack name) stack (gives (read_of stack name) stack) (λ long. refl)
set_keeps stack name (Some value) = stored_keeps stack name value

incr_keeps : (stack : Stack) (name : List ℕ) (n : Option (List ℕ)) → LongKeeps stack (incr_by stack name n)
incr_keeps stack name n =
    let old = read_of stack name in
    let total = integer old +ℤ step_of n in
    keeps_unless (read_error stack name) stack (unless (integer_error old) stack (unless (step_error n) stack (added stack name total)))
    (keeps_unless (integer_error old) stack (unless (step_error n) stack (added stack name total))
    (keeps_unless (step_error n) stack (added stack name total)
    (keeps_unless (sum_error total) stack (stored stack name (signed_decimal total)) (stored_keeps stack name (signed_decimal total)))))

append_keeps : (stack : Stack) (name : List ℕ) (values : List (List ℕ)) → LongKeeps stack (append_to stack name values)
append_keeps stack name values =
    keeps_unless (write_error stack name) stack (stored stack name (read_of stack name ++ concat values)) (stored_keeps stack name (read_of stack name ++ concat values))

lappend_keeps : (stack : Stack) (name : List ℕ) (values : List (List ℕ)) → LongKeeps stack (lappend_to stack name values)
lappend_keeps stack name values =
    let old = read_of stack name in
    let whole = quoting (items old ++ values) in
    keeps_unless (write_error stack name) stack (unless (list_error old) stack (stored stack name whole))
    (keeps_unless (list_error old) stack (stored stack name whole) (stored_keeps stack name whole))

-- a command on one variable
pub one_keeps : (stack : Stack) (command : Command) (words : List (List ℕ)) → is_on_one command ≡ true → LongKeeps stack (command_came stack (Some command) words)
one_keeps stack Set words one =
    keeps_unless (count_error 2 3 words (codes "set")) stack (set_to stack (arg words 1) (slice_get words 2)) (set_keeps stack (arg words 1) (slice_get words 2))
one_keeps stack Unset words one = absurd (true≢false (sym one))
one_keeps stack Incr words one =
    keeps_unless (count_error 2 3 words (codes "incr")) stack (incr_by stack (arg words 1) (slice_get words 2)) (incr_keeps stack (arg words 1) (slice_get words 2))
one_keeps stack Append words one =
    keeps_unless (least_error 2 words (codes "append")) stack (append_to stack (arg words 1) (drop 2 words)) (append_keeps stack (arg words 1) (drop 2 words))
one_keeps stack Lappend words one =
    keeps_unless (least_error 2 words (codes "lappend")) stack (lappend_to stack (arg words 1) (drop 2 words)) (lappend_keeps stack (arg words 1) (drop 2 words))
one_keeps stack Global words one = absurd (true≢false (sym one))
one_keeps stack Array words one = absurd (true≢false (sym one))
one_keeps stack Info words one =
    keeps_unless (count_error 3 3 words (codes "info")) stack (gives (truth_text (has stack (arg words 2))) stack) (λ long. refl)
