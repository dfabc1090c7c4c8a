-- Bytes that are put behind a variable's value.
use Rattle.std.proofs.Common.{◌≡◌, ◌+◌, ℕ, List, ◌++◌, length, true, false, Some, None, Result, Ok, sym, ap, subst, ◌∙◌}
use Rattle.std.specs.Bool.{nat_lt}
use Rattle.std.specs.List.{concat}
use Rattle.std.proofs.lemmas.List.{length-append}
use Rattle.txt_core.specs.Quoting.{quoting}
use Rattle.tcl_list.specs.Answers.{AppendsTo}
use Rattle.natives.specs.declared.fault.Fault.{Fault}
use Rattle.txt_core.specs.ErrorTexts.{too_long}
use Rattle.natives.specs.Checks.{list_error, items}
use Rattle.tcl_frame.specs.Stack.{Stack}
use Rattle.tcl_frame.specs.Frames.{read_of}
use Rattle.tcl_varcmd.specs.Answers.{Answers, unless}
use Rattle.tcl_varcmd.specs.Errors.{write_error, long_error}
use Rattle.tcl_varcmd.specs.Scalars.{stored, append_to, lappend_to}
use Rattle.tcl_varcmd.specs.Growing.{grown}
use Rattle.tcl_varcmd.proofs.Exits.{answers_past, answers_on}
use Rattle.tcl_varcmd.proofs.Counts.{is_too_long, is_short}
use Rattle.tcl_varcmd.proofs.Values.{appended}

-- the length of a whole, by those of its parts
whole_length : (front : ℕ) (old more : List ℕ) → front ≡ length old → length (old ++ more) ≡ front + length more
whole_length front old more e = length-append old more ∙ ap (λ n. n + length more) (sym e)

pub too_many : (front : ℕ) (old more : List ℕ) → front ≡ length old → nat_lt 1048576 (front + length more) ≡ true → long_error (old ++ more) ≡ Some too_long
too_many front old more e h = is_too_long (old ++ more) (ap (nat_lt 1048576) (whole_length front old more e) ∙ h)

pub few_enough : (front : ℕ) (old more : List ℕ) → front ≡ length old → nat_lt 1048576 (front + length more) ≡ false → long_error (old ++ more) ≡ None
few_enough front old more e h = is_short (old ++ more) (ap (nat_lt 1048576) (whole_length front old more e) ∙ h)

pub append_grown : (stack new : Stack) (name more : List ℕ) (values : List (List ℕ)) (r : Result (List ℕ) Fault) → more ≡ concat values
    → Answers (grown stack name more) r new → Answers (append_to stack name values) r new
append_grown stack new name more values r e =
    subst (λ whole. Answers (unless (write_error stack name) stack (stored stack name whole)) r new)
    (ap (λ t. read_of stack name ++ t) e)

grown_list : (stack new : Stack) (name more : List ℕ) (values : List (List ℕ)) (r : Result (List ℕ) Fault) → write_error stack name ≡ None
    → AppendsTo (read_of stack name) values (Ok (read_of stack name ++ more)) → Answers (grown stack name more) r new → Answers (lappend_to stack name values) r new
grown_list stack new name more values r none appends h =
    let old = read_of stack name in
    let is = appended old values (old ++ more) appends in
    answers_on (write_error stack name) stack new (unless (list_error old) stack (stored stack name (quoting (items old ++ values)))) r none
    (answers_on (list_error old) stack new (stored stack name (quoting (items old ++ values))) r is.0
    (subst (λ whole. Answers (stored stack name whole) r new) is.1 (answers_past (write_error stack name) stack new (stored stack name (old ++ more)) r none h)))

-- what stands behind a list with elements at its end
pub lappend_grown : (stack new : Stack) (name old more : List ℕ) (values : List (List ℕ)) (r : Result (List ℕ) Fault) → old ≡ read_of stack name → write_error stack name ≡ None
    → AppendsTo old values (Ok (old ++ more)) → Answers (grown stack name more) r new → Answers (lappend_to stack name values) r new
lappend_grown stack new name old more values r at none appends h =
    grown_list stack new name more values r none (subst (λ t. AppendsTo t values (Ok (t ++ more))) at appends) h
