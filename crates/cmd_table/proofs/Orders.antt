-- Each change keeps the names in their order.
use Rattle.std.proofs.Common.{◌≡◌, ℕ, Bool, true, false, cond, List, [], ◌∷◌, ◌++◌, Option, Some, None, refl, ap, ◌∙◌, fold}
use Rattle.std.specs.declared.cmp.Ordering.{Ordering}
use Rattle.std.specs.declared.cmp.Ordering.TheVariants.{Less, Equal, Greater}
use Rattle.std.specs.Cmp.Lexicographic.{nat_list_cmp_total}
use Rattle.std.specs.Ordering.{ordering_reverse, match_ordering}
use Rattle.std.specs.List.Sorted.{IsStrictlySortedBy}
use Rattle.std.specs.Map.{remove_entry, keys_of}
use Rattle.std.specs.BTreeMap.{insert_entry}
use Rattle.std.specs.Str.{bytes_eq}
use Rattle.txt_core.specs.Order.{text_cmp}
use Rattle.cmd_table.specs.declared.command.Cmd.{Cmd}
use Rattle.cmd_table.specs.declared.command.Cmd.TheVariants as commands
use Rattle.cmd_table.specs.declared.definition.Def.{Def}
use Rattle.cmd_table.specs.declared.definition.Def.TheVariants.{Proc, Rename, Route, Filter, Cleanup, Set}
use Rattle.cmd_table.specs.declared.renaming.Renamed.{Renamed}
use Rattle.cmd_table.specs.declared.renaming.Renamed.TheVariants.{Done, NoOld, NewExists}
use Rattle.cmd_table.specs.Table.{Table, IsInOrder, command_of, with_command, without_command}
use Rattle.cmd_table.specs.Renaming.{rename_answer, renamed, renamed_by}
use Rattle.cmd_table.specs.Commands.{built_ins, built, defined}
use Rattle.cmd_table.specs.Laws.{CommandsAreInOrder}
use Rattle.cmd_table.proofs.Changes.{IsBelow, below_more}

put_above_step : (n k m : List ℕ) (v x : Cmd) (es : Table) (o : Ordering) → text_cmp n k ≡ Less → text_cmp n m ≡ Less → IsBelow n (keys_of es) → IsBelow n (keys_of (insert_entry text_cmp es k v))
    → IsBelow n (keys_of (match_ordering o ((k, v) ∷ (m, x) ∷ es) ((m, v) ∷ es) ((m, x) ∷ insert_entry text_cmp es k v)))
put_above_step n k m v x es Less lt le b ih = (lt, (le, b))
put_above_step n k m v x es Equal lt le b ih = (le, b)
put_above_step n k m v x es Greater lt le b ih = (le, ih)

put_above : (n k : List ℕ) (v : Cmd) (es : Table) → text_cmp n k ≡ Less → IsBelow n (keys_of es) → IsBelow n (keys_of (insert_entry text_cmp es k v))
put_above n k v [] lt b = (lt, tt)
put_above n k v (e ∷ es) lt b = put_above_step n k e.0 v e.1 es (text_cmp k e.0) lt b.0 b.1 (put_above n k v es lt b.1)

put_step : (k n : List ℕ) (v x : Cmd) (es : Table) (o : Ordering) → text_cmp k n ≡ o → IsBelow n (keys_of es) → IsStrictlySortedBy text_cmp (keys_of es) → IsStrictlySortedBy text_cmp (keys_of (insert_entry text_cmp es k v))
    → IsStrictlySortedBy text_cmp (keys_of (match_ordering o ((k, v) ∷ (n, x) ∷ es) ((n, v) ∷ es) ((n, x) ∷ insert_entry text_cmp es k v)))
unfolding IsStrictlySortedBy
put_step k n v x es Less at b s ih = ((at, below_more k n (keys_of es) at b), (b, s))
put_step k n v x es Equal at b s ih = (b, s)
put_step k n v x es Greater at b s ih = (put_above n k v es (nat_list_cmp_total.antisymm n k ∙ ap ordering_reverse at) b, ih)

put_in_order : (k : List ℕ) (v : Cmd) (es : Table) → IsStrictlySortedBy text_cmp (keys_of es) → IsStrictlySortedBy text_cmp (keys_of (insert_entry text_cmp es k v))
unfolding IsStrictlySortedBy
put_in_order k v [] s = (tt, tt)
put_in_order k v (e ∷ es) s = put_step k e.0 v e.1 es (text_cmp k e.0) refl s.0 s.1 (put_in_order k v es s.1)

out_above_step : (n m : List ℕ) (x : Cmd) (es fs : Table) (b : Bool) → text_cmp n m ≡ Less → IsBelow n (keys_of es) → IsBelow n (keys_of fs) → IsBelow n (keys_of (cond b es ((m, x) ∷ fs)))
out_above_step n m x es fs true lt b ih = b
out_above_step n m x es fs false lt b ih = (lt, ih)

out_above : (n : List ℕ) (test : List ℕ → Bool) (es : Table) → IsBelow n (keys_of es) → IsBelow n (keys_of (remove_entry test es))
out_above n test [] b = tt
out_above n test (e ∷ es) b = out_above_step n e.0 e.1 es (remove_entry test es) (test e.0) b.0 b.1 (out_above n test es b.1)

out_step : (n : List ℕ) (x : Cmd) (es fs : Table) (t : Bool) → IsBelow n (keys_of fs) → IsStrictlySortedBy text_cmp (keys_of es) → IsStrictlySortedBy text_cmp (keys_of fs) → IsStrictlySortedBy text_cmp (keys_of (cond t es ((n, x) ∷ fs)))
unfolding IsStrictlySortedBy
out_step n x es fs true b s ih = s
out_step n x es fs false b s ih = (b, ih)

out_in_order : (test : List ℕ → Bool) (es : Table) → IsStrictlySortedBy text_cmp (keys_of es) → IsStrictlySortedBy text_cmp (keys_of (remove_entry test es))
unfolding IsStrictlySortedBy
out_in_order test [] s = tt
out_in_order test (e ∷ es) s = out_step e.0 e.1 es (remove_entry test es) (test e.0) (out_above e.0 test es s.0) s.1 (out_in_order test es s.1)

pub with_in_order : (t : Table) (name : List ℕ) (cmd : Cmd) → IsInOrder t → IsInOrder (with_command t name cmd)
unfolding with_command
with_in_order t name cmd s = put_in_order name cmd t s

without_in_order : (t : Table) (name : List ℕ) → IsInOrder t → IsInOrder (without_command t name)
unfolding without_command
without_in_order t name s = out_in_order (bytes_eq name) t s

by_answer : (t : Table) (answer : Renamed) (found : Option Cmd) (old new : List ℕ) → IsInOrder t → IsInOrder (renamed_by t answer found old new)
by_answer t Done (Some cmd) old [] s = without_in_order t old s
by_answer t Done (Some cmd) old (b ∷ r) s = with_in_order (without_command t old) (b ∷ r) cmd (without_in_order t old s)
by_answer t Done None old new s = s
by_answer t NoOld found old new s = s
by_answer t NewExists found old new s = s

renamed_in_order : (t : Table) (old new : List ℕ) → IsInOrder t → IsInOrder (renamed t old new)
unfolding renamed
renamed_in_order t old new s = by_answer t (rename_answer t old new) (command_of t old) old new s

defined_in_order : (t : Table) (def : Def) → IsInOrder t → IsInOrder (defined t def)
defined_in_order t (Proc name params body) s = with_in_order t name (commands.Proc params body) s
defined_in_order t (Rename old new) s = renamed_in_order t old new s
defined_in_order t (Route method url inherit words) s = s
defined_in_order t (Filter when method pattern words) s = s
defined_in_order t (Cleanup script) s = s
defined_in_order t (Set name value) s = s

all_in_order : (t : Table) (defs : List Def) → IsInOrder t → IsInOrder (fold defined t defs)
all_in_order t [] s = s
all_in_order t (def ∷ defs) s = all_in_order (defined t def) defs (defined_in_order t def s)

names_in_order : (t : Table) (names : List (List ℕ)) → IsInOrder t → IsInOrder (fold (λ table name. with_command table name (commands.Built name)) t names)
names_in_order t [] s = s
names_in_order t (name ∷ names) s = names_in_order (with_command t name (commands.Built name)) names (with_in_order t name (commands.Built name) s)

pub nothing_in_order : IsInOrder []
unfolding IsStrictlySortedBy
nothing_in_order = tt

pub in_order : CommandsAreInOrder
in_order natives defs = all_in_order (built natives) defs (names_in_order [] (built_ins ++ natives) nothing_in_order)
