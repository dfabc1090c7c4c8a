-- A table is a map: a change of one name changes that name alone.
use Rattle.std.proofs.Common.{◌≡◌, ℕ, Bool, true, false, cond, ◌||◌, ◌++◌, List, [], ◌∷◌, Option, Some, None, refl, sym, ap, ◌∙◌, subst}
use Rattle.std.specs.declared.cmp.Ordering.{Ordering}
use Rattle.std.specs.declared.cmp.Ordering.TheVariants.{Less, Equal, Greater}
use Rattle.std.specs.Cmp.Lexicographic.{nat_list_eq_equiv}
use Rattle.std.specs.Ordering.{is_eq, match_ordering, eq_by_cmp}
use Rattle.std.specs.List.{IsDistinct}
use Rattle.std.specs.Map.{lookup}
use Rattle.std.specs.BTreeMap.{insert_entry}
use Rattle.std.specs.Str.{bytes_eq}
use Rattle.std.proofs.lemmas.Map.{lookup-remove_entry}
use Rattle.std.proofs.lemmas.Map.Keys.{IsDistinct-from_sorted}
use Rattle.std.proofs.lemmas.Map.Text.{is_eq-slice_cmp}
use Rattle.std.proofs.lemmas.Slice.Eq.{bytes_eq-Decides}
use Rattle.txt_core.specs.Order.{text_cmp}
use Rattle.natives.specs.Names.{has_name}
use Rattle.cmd_table.specs.declared.command.Cmd.{Cmd}
use Rattle.cmd_table.specs.declared.command.Cmd.TheVariants as commands
use Rattle.cmd_table.specs.Table.{Table, names_of, IsInOrder, command_of, with_command, without_command}
use Rattle.cmd_table.specs.Commands.{built_ins, with_built}
use Rattle.cmd_table.specs.Laws.{PuttingSetsOneName, RemovingDropsOneName, BuiltInsAreThere}

-- the test of a look-up, by the order
test_at : (k n : List ℕ) (o : Ordering) → text_cmp k n ≡ o → bytes_eq k n ≡ is_eq o
test_at k n o at = sym (is_eq-slice_cmp k n) ∙ ap is_eq at

-- two entries whose first can't be the one that is asked for
front : {X : Type 0} (k q n : List ℕ) (v x : X) (rest : Option X) (s : Bool) → bytes_eq k q ≡ s → bytes_eq k n ≡ false → cond (bytes_eq q n) (Some x) (cond s (Some v) rest) ≡ cond s (Some v) (cond (bytes_eq q n) (Some x) rest)
front k q n v x rest true same apart = let e = sym (nat_list_eq_equiv.congr k q n same) ∙ apart in rw e refl
front k q n v x rest false same apart = refl

-- two entries of one name
both : {X : Type 0} (k q n : List ℕ) (v x : X) (rest : Option X) (s : Bool) → bytes_eq k q ≡ s → bytes_eq k n ≡ true → cond (bytes_eq q n) (Some v) rest ≡ cond s (Some v) (cond (bytes_eq q n) (Some x) rest)
both k q n v x rest true same is = let e = sym (nat_list_eq_equiv.congr k q n same) ∙ is in rw e refl
both k q n v x rest false same is = let e = nat_list_eq_equiv.symm q n ∙ (sym (nat_list_eq_equiv.congr k n q is) ∙ same) in rw e refl

put_step : {X : Type 0} (k q n : List ℕ) (v x : X) (es : List (List ℕ × X)) (o : Ordering) → text_cmp k n ≡ o
    → lookup (bytes_eq q) (insert_entry text_cmp es k v) ≡ cond (bytes_eq k q) (Some v) (lookup (bytes_eq q) es)
    → lookup (bytes_eq q) (match_ordering o ((k, v) ∷ (n, x) ∷ es) ((n, v) ∷ es) ((n, x) ∷ insert_entry text_cmp es k v)) ≡ cond (bytes_eq k q) (Some v) (cond (bytes_eq q n) (Some x) (lookup (bytes_eq q) es))
put_step {X} k q n v x es Less at ih = ap (λ (b : Bool). cond b (Some v) (cond (bytes_eq q n) (Some x) (lookup (bytes_eq q) es))) (nat_list_eq_equiv.symm q k)
put_step {X} k q n v x es Equal at ih = both k q n v x (lookup (bytes_eq q) es) (bytes_eq k q) refl (test_at k n Equal at)
put_step {X} k q n v x es Greater at ih = ap (λ (r : Option X). cond (bytes_eq q n) (Some x) r) ih ∙ front k q n v x (lookup (bytes_eq q) es) (bytes_eq k q) refl (test_at k n Greater at)

-- what is found after an entry was put
pub lookup_put : {X : Type 0} (k q : List ℕ) (v : X) (es : List (List ℕ × X)) → lookup (bytes_eq q) (insert_entry text_cmp es k v) ≡ cond (bytes_eq k q) (Some v) (lookup (bytes_eq q) es)
lookup_put k q v [] = ap (λ (b : Bool). cond b (Some v) None) (nat_list_eq_equiv.symm q k)
lookup_put k q v (e ∷ es) = put_step k q e.0 v e.1 es (text_cmp k e.0) refl (lookup_put k q v es)

pub putting : PuttingSetsOneName
unfolding command_of with_command
putting table name other cmd = lookup_put name other cmd table

same_equality : eq_by_cmp text_cmp ≡ bytes_eq
same_equality i k q = is_eq-slice_cmp k q i

distinct : (table : Table) → IsInOrder table → IsDistinct bytes_eq (names_of table)
distinct table s = subst (λ (e : List ℕ → List ℕ → Bool). IsDistinct e (names_of table)) same_equality (IsDistinct-from_sorted text_cmp (names_of table) s)

pub removing : RemovingDropsOneName
unfolding command_of without_command
removing table name other s = lookup-remove_entry nat_list_eq_equiv (bytes_eq name) (λ x y at. nat_list_eq_equiv.congr name x y at) other table (distinct table s)

-- a name and the others: whichever of them is asked for has its own built-in
built_step : (n name : List ℕ) (b c : Bool) (rest : Option Cmd) → bytes_eq n name ≡ b → cond c (Some (commands.Built name)) (cond b (Some (commands.Built n)) rest) ≡ cond (b || c) (Some (commands.Built name)) rest
built_step n name true true rest same = refl
built_step n name true false rest same = ap (λ (k : List ℕ). Some (commands.Built k)) ((bytes_eq-Decides n name).0 same)
built_step n name false c rest same = refl

-- what is found once these names have their built-ins
built_found : (table : Table) (names : List (List ℕ)) (name : List ℕ) → command_of (with_built table names) name ≡ cond (has_name names name) (Some (commands.Built name)) (command_of table name)
built_found table [] name = refl
built_found table (n ∷ names) name =
    built_found (with_command table n (commands.Built n)) names name
    ∙ (ap (λ (r : Option Cmd). cond (has_name names name) (Some (commands.Built name)) r) (putting table n name (commands.Built n))
    ∙ built_step n name (bytes_eq n name) (has_name names name) (command_of table name) refl)

pub nothing_found : (name : List ℕ) → command_of [] name ≡ None
unfolding command_of
nothing_found name = refl

pub all_built : BuiltInsAreThere
all_built natives name =
    built_found [] (built_ins ++ natives) name
    ∙ ap (λ (r : Option Cmd). cond (has_name (built_ins ++ natives) name) (Some (commands.Built name)) r) (nothing_found name)
