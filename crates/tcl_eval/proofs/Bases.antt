-- The base scalars that were kept stay as they are, whatever becomes of variables.
use Rattle.std.proofs.Common.{◌≡◌, ℕ, List, [], ◌∷◌, ◌++◌, drop, slice_get, Bool, true, false, cond, Option, Some, None, Result, Ok, Err, refl, ap, ◌∙◌}
use Rattle.std.specs.Prelude.{codes, ◌+ℤ◌}
use Rattle.std.specs.List.{concat}
use Rattle.std.specs.Fmt.{signed_decimal}
use Rattle.txt_core.specs.Quoting.{quoting}
use Rattle.txt_core.specs.Limits.{is_long}
use Rattle.natives.specs.Checks.{integer_error, integer, list_error, items}
use Rattle.natives.specs.declared.fault.Fault.{Fault}
use Rattle.natives.specs.declared.fault.Fault.TheVariants as faults
use Rattle.tcl_frame.specs.Variables.{Table}
use Rattle.tcl_frame.specs.Stack.{Stack}
use Rattle.tcl_frame.specs.Frames.{links_name, with_top, with_table, read_of, written, removed, linked, has, is_array, pairs_written}
use Rattle.tcl_varcmd.specs.Answers.{Came, gives, fails, unless, IsAnswer, IfNoMemory}
use Rattle.tcl_varcmd.specs.Scalars.{stored, set_to, step_error, step_of, added, incr_by, append_to, lappend_to, unset_all, global_all}
use Rattle.tcl_varcmd.specs.Arrays.{pairs_error, array_set, unset_array, array_part, part_named}
use Rattle.tcl_varcmd.specs.Errors.{read_error, write_error, remove_error, global_error, array_error, count_error, least_error, sum_error, long_error}
use Rattle.tcl_varcmd.specs.Commands.{command_named, command_came, bounded, var_came}
use Rattle.tcl_varcmd.specs.declared.part.Part.{Part}
use Rattle.tcl_varcmd.specs.declared.part.Part.TheVariants.{Exists, Size, Unset as Unset_part, Get, Names, Set as Set_part}
use Rattle.tcl_varcmd.specs.declared.command.Command.{Command}
use Rattle.tcl_varcmd.specs.declared.command.Command.TheVariants.{Set, Unset, Incr, Append, Lappend, Global, Array, Info}
use Rattle.txt_core.specs.ErrorTexts.{too_long}
use Rattle.txt_core.specs.Truth.{truth_text}
use Rattle.natives.specs.Words.{arg}

-- a command keeps the base scalars of these frames
abbrev Keeps : Came → Stack → Type 0
Keeps (gives text frames) stack = frames.keeps ≡ stack.keeps
Keeps (fails text frames) stack = frames.keeps ≡ stack.keeps

by_table : (linked : Bool) (stack : Stack) (table : Table) → (cond linked (record stack { global = table }) (record stack { above = with_top stack.above table })).keeps ≡ stack.keeps
by_table true stack table = refl
by_table false stack table = refl

with_table_keeps : (stack : Stack) (name : List ℕ) (table : Table) → (with_table stack name table).keeps ≡ stack.keeps
with_table_keeps stack name table = by_table (links_name stack.above name) stack table

-- a value was written
pub written_keeps : (stack : Stack) (name value : List ℕ) → (written stack name value).keeps ≡ stack.keeps
written_keeps stack name value = with_table_keeps stack _ _

removed_keeps : (stack : Stack) (name : List ℕ) → (removed stack name).keeps ≡ stack.keeps
removed_keeps stack name = with_table_keeps stack _ _

unless_keeps : (error : Option (List ℕ)) (stack : Stack) (came : Came) → Keeps came stack → Keeps (unless error stack came) stack
unless_keeps None stack came h = h
unless_keeps (Some text) stack came h = refl

stored_keeps : (stack : Stack) (name value : List ℕ) → Keeps (stored stack name value) stack
stored_keeps stack name value =
    unless_keeps (long_error value) stack (unless (write_error stack name) stack (gives value (written stack name value)))
    (unless_keeps (write_error stack name) stack (gives value (written stack name value)) (written_keeps stack name value))

set_keeps : (stack : Stack) (name : List ℕ) (value : Option (List ℕ)) → Keeps (set_to stack name value) stack
set_keeps stack name None = unless_keeps (read_error stack name) stack (gives (read_of stack name) stack) refl
set_keeps stack name (Some value) = stored_keeps stack name value

incr_keeps : (stack : Stack) (name : List ℕ) (n : Option (List ℕ)) → Keeps (incr_by stack name n) stack
incr_keeps stack name n =
    let sum = integer (read_of stack name) +ℤ step_of n in
    unless_keeps (read_error stack name) stack (unless (integer_error (read_of stack name)) stack (unless (step_error n) stack (added stack name sum)))
    (unless_keeps (integer_error (read_of stack name)) stack (unless (step_error n) stack (added stack name sum))
    (unless_keeps (step_error n) stack (added stack name sum)
    (unless_keeps (sum_error sum) stack (stored stack name (signed_decimal sum)) (stored_keeps stack name (signed_decimal sum)))))

append_keeps : (stack : Stack) (name : List ℕ) (values : List (List ℕ)) → Keeps (append_to stack name values) stack
append_keeps stack name values =
    let value = read_of stack name ++ concat values in
    unless_keeps (write_error stack name) stack (stored stack name value) (stored_keeps stack name value)

lappend_keeps : (stack : Stack) (name : List ℕ) (values : List (List ℕ)) → Keeps (lappend_to stack name values) stack
lappend_keeps stack name values =
    let value = quoting (items (read_of stack name) ++ values) in
    unless_keeps (write_error stack name) stack (unless (list_error (read_of stack name)) stack (stored stack name value))
    (unless_keeps (list_error (read_of stack name)) stack (stored stack name value) (stored_keeps stack name value))

kept_through : (came : Came) (new old : Stack) → Keeps came new → new.keeps ≡ old.keeps → Keeps came old
kept_through (gives text frames) new old h e = h ∙ e
kept_through (fails text frames) new old h e = h ∙ e

unset_keeps : (stack : Stack) (names : List (List ℕ)) → Keeps (unset_all stack names) stack
unset_keeps stack [] = refl
unset_keeps stack (name ∷ names) =
    unless_keeps (remove_error stack name) stack (unset_all (removed stack name) names)
    (kept_through (unset_all (removed stack name) names) (removed stack name) stack (unset_keeps (removed stack name) names) (removed_keeps stack name))

global_keeps : (stack : Stack) (names : List (List ℕ)) → Keeps (global_all stack names) stack
global_keeps stack [] = refl
global_keeps stack (name ∷ names) =
    unless_keeps (global_error stack name) stack (global_all (linked stack name) names)
    (kept_through (global_all (linked stack name) names) (linked stack name) stack (global_keeps (linked stack name) names) refl)

set_array_keeps : (stack : Stack) (array list : List ℕ) → Keeps (array_set stack array list) stack
set_array_keeps stack array list =
    let came = gives [] (pairs_written stack array (items list)) in
    unless_keeps (array_error stack array) stack (unless (pairs_error list) stack came)
    (unless_keeps (pairs_error list) stack came (with_table_keeps stack array _))

if_removed : (there : Bool) (stack : Stack) (array : List ℕ) → (cond there (removed stack array) stack).keeps ≡ stack.keeps
if_removed true stack array = removed_keeps stack array
if_removed false stack array = refl

part_keeps : (stack : Stack) (part : Option Part) (words : List (List ℕ)) → Keeps (array_part stack part words) stack
part_keeps stack None words = refl
part_keeps stack (Some Exists) words = unless_keeps (count_error 3 3 words (codes "array")) stack (gives _ stack) refl
part_keeps stack (Some Size) words = unless_keeps (count_error 3 3 words (codes "array")) stack (gives _ stack) refl
part_keeps stack (Some Unset_part) words =
    unless_keeps (count_error 3 3 words (codes "array")) stack (unset_array stack (arg words 2)) (if_removed (is_array stack (arg words 2)) stack (arg words 2))
part_keeps stack (Some Get) words = refl
part_keeps stack (Some Names) words = refl
part_keeps stack (Some Set_part) words =
    unless_keeps (count_error 4 4 words (codes "array")) stack (array_set stack (arg words 2) (arg words 3)) (set_array_keeps stack (arg words 2) (arg words 3))

command_keeps : (stack : Stack) (command : Option Command) (words : List (List ℕ)) → Keeps (command_came stack command words) stack
command_keeps stack (Some Set) words =
    unless_keeps (count_error 2 3 words (codes "set")) stack (set_to stack (arg words 1) (slice_get words 2)) (set_keeps stack (arg words 1) (slice_get words 2))
command_keeps stack (Some Unset) words =
    unless_keeps (least_error 2 words (codes "unset")) stack (unset_all stack (drop 1 words)) (unset_keeps stack (drop 1 words))
command_keeps stack (Some Incr) words =
    unless_keeps (count_error 2 3 words (codes "incr")) stack (incr_by stack (arg words 1) (slice_get words 2)) (incr_keeps stack (arg words 1) (slice_get words 2))
command_keeps stack (Some Append) words =
    unless_keeps (least_error 2 words (codes "append")) stack (append_to stack (arg words 1) (drop 2 words)) (append_keeps stack (arg words 1) (drop 2 words))
command_keeps stack (Some Lappend) words =
    unless_keeps (least_error 2 words (codes "lappend")) stack (lappend_to stack (arg words 1) (drop 2 words)) (lappend_keeps stack (arg words 1) (drop 2 words))
command_keeps stack (Some Global) words =
    unless_keeps (least_error 2 words (codes "global")) stack (global_all stack (drop 1 words)) (global_keeps stack (drop 1 words))
command_keeps stack (Some Array) words =
    unless_keeps (count_error 3 4 words (codes "array")) stack (array_part stack (part_named (arg words 1)) words) (part_keeps stack (part_named (arg words 1)) words)
command_keeps stack (Some Info) words =
    unless_keeps (count_error 3 3 words (codes "info")) stack (gives (truth_text (has stack (arg words 2))) stack) refl
command_keeps stack None words = refl

if_short : (long : Bool) (came other : Came) (stack : Stack) → Keeps came stack → Keeps other stack → Keeps (cond long other came) stack
if_short true came other stack h i = i
if_short false came other stack h i = h

bounded_keeps : (came : Came) (stack : Stack) → Keeps came stack → Keeps (bounded came) stack
bounded_keeps (gives text frames) stack h = if_short (is_long text) (gives text frames) (fails too_long frames) stack h h
bounded_keeps (fails text frames) stack h = if_short (is_long text) (fails text frames) (fails too_long frames) stack h h

came_keeps : (stack : Stack) (words : List (List ℕ)) → Keeps (var_came stack words) stack
came_keeps stack words =
    bounded_keeps (command_came stack (command_named (arg words 0)) words) stack (command_keeps stack (command_named (arg words 0)) words)

answer_keeps : (answer : Result (List ℕ) Fault) (came : Came) (new old : Stack) → Keeps came old → IsAnswer answer came new → IfNoMemory answer (new ≡ old) → new.keeps ≡ old.keeps
answer_keeps (Ok result) (gives text frames) new old h i j = ap (λ (s : Stack). s.keeps) i.1 ∙ h
answer_keeps (Ok result) (fails text frames) new old h i j = absurd i
answer_keeps (Err (faults.Error error)) (gives text frames) new old h i j = absurd i
answer_keeps (Err (faults.Error error)) (fails text frames) new old h i j = ap (λ (s : Stack). s.keeps) i.1 ∙ h
answer_keeps (Err faults.NoMemory) came new old h i j = ap (λ (s : Stack). s.keeps) j

-- what a command on variables answers, of which memory may have wanted
pub variables_keep : (answer : Result (List ℕ) Fault) (words : List (List ℕ)) (new old : Stack) → IsAnswer answer (var_came old words) new → IfNoMemory answer (new ≡ old) → new.keeps ≡ old.keeps
variables_keep answer words new old i j = answer_keeps answer (var_came old words) new old (came_keeps old words) i j
