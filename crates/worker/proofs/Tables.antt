-- The commands of a blueprint go by the set of the natives' names, in whatever order they stand.
use Rattle.std.proofs.Common.{◌≡◌, ◌⊎◌, ⊎_elim, inl, inr, ℕ, Bool, true, false, cond, ◌||◌, ◌&&◌, T, List, [], ◌∷◌, ◌++◌, Option, Some, None, refl, sym, ap, ◌∙◌, subst, fold}
use Rattle.std.specs.declared.cmp.Ordering.{Ordering}
use Rattle.std.specs.declared.cmp.Ordering.TheVariants.{Less, Equal, Greater}
use Rattle.std.specs.Cmp.Lexicographic.{nat_list_cmp_total}
use Rattle.std.specs.FinMap.Entries.{find, below_all, is_sorted, same_entries}
use Rattle.std.specs.List.{AllByRecursion}
use Rattle.std.specs.List.Sorted.{IsStrictlySortedBy}
use Rattle.std.specs.Map.{lookup, keys_of}
use Rattle.std.specs.Ordering.{is_lt}
use Rattle.std.specs.Str.{bytes_eq}
use Rattle.std.proofs.lemmas.Map.Lookups.{exact_bytes}
use Rattle.std.proofs.lemmas.Map.Text.{is_eq-slice_cmp}
use Rattle.std.proofs.lemmas.Slice.Eq.{bytes_eq-Decides}
use Rattle.natives.specs.Names.{has_name}
use Rattle.cmd_table.specs.declared.command.Cmd.{Cmd}
use Rattle.cmd_table.specs.declared.command.Cmd.TheVariants as commands
use Rattle.cmd_table.specs.declared.definition.Def.{Def}
use Rattle.cmd_table.specs.Table.{Table, IsInOrder, command_of}
use Rattle.cmd_table.specs.Commands.{built_ins, built, defined, Commands}
use Rattle.cmd_table.specs.Laws.{CommandsAreInOrder, BuiltInsAreThere}
use Rattle.txt_core.specs.Members.{Has}
use Rattle.txt_core.specs.Order.{text_cmp}
use Rattle.txt_core.proofs.Members.{has_front, has_back, has_either}
use Rattle.shared_state.specs.Cells.{HaveSameNames}

-- ---- two tables in order in which each name has the same command

both_hold : (a b : Bool) → T a → T b → T (a && b)
both_hold true b x y = y
both_hold false b x y = absurd x

below_of : (x : List ℕ) (es : Table) → AllByRecursion (λ y. text_cmp x y ≡ Less) (keys_of es) → T (below_all text_cmp x es)
below_of x [] h = tt
below_of x (e ∷ es) h = both_hold (is_lt (text_cmp x e.0)) (below_all text_cmp x es) (subst (λ (o : Ordering). T (is_lt o)) (sym h.0) tt) (below_of x es h.1)

sorted_of : (es : Table) → IsStrictlySortedBy text_cmp (keys_of es) → T (is_sorted text_cmp es)
unfolding IsStrictlySortedBy
sorted_of [] h = tt
sorted_of (e ∷ es) h = both_hold (below_all text_cmp e.0 es) (is_sorted text_cmp es) (below_of e.0 es h.0) (sorted_of es h.1)

find_of : (q : List ℕ) (es : Table) → find text_cmp q es ≡ lookup (bytes_eq q) es
find_of q [] = refl
find_of q (e ∷ es) =
    ap (λ (b : Bool). cond b (Some e.1) (find text_cmp q es)) (is_eq-slice_cmp q e.0)
    ∙ ap (λ (r : Option Cmd). cond (bytes_eq q e.0) (Some e.1) r) (find_of q es)

tables_same : (s t : Table) → IsInOrder s → IsInOrder t → ((name : List ℕ) → command_of s name ≡ command_of t name) → s ≡ t
unfolding command_of
tables_same s t g h is = same_entries text_cmp nat_list_cmp_total exact_bytes s t (sorted_of s g) (sorted_of t h) (λ q. find_of q s ∙ (is q ∙ sym (find_of q t)))

-- ---- names

has_true_step : (b c : Bool) → b ≡ true → (b || c) ≡ true
has_true_step true c h = refl
has_true_step false c h = absurd (cc)

has_later_step : (b c : Bool) → c ≡ true → (b || c) ≡ true
has_later_step true c h = refl
has_later_step false c h = h

has_either_step : (b c : Bool) → (b || c) ≡ true → (b ≡ true) ⊎ (c ≡ true)
has_either_step true c h = inl refl
has_either_step false c h = inr h

is_named : (names : List (List ℕ)) (name : List ℕ) → Has names name → has_name names name ≡ true
is_named [] name h = absurd h
is_named (x ∷ xs) name h = ⊎_elim
    (λ (is : x ≡ name). has_true_step (bytes_eq x name) (has_name xs name) ((bytes_eq-Decides x name).1 is))
    (λ (there : Has xs name). has_later_step (bytes_eq x name) (has_name xs name) (is_named xs name there)) h

names_it : (names : List (List ℕ)) (name : List ℕ) → has_name names name ≡ true → Has names name
names_it [] name h = absurd (cc)
names_it (x ∷ xs) name h = ⊎_elim
    (λ (is : bytes_eq x name ≡ true). inl ((bytes_eq-Decides x name).0 is))
    (λ (there : has_name xs name ≡ true). inr (names_it xs name there)) (has_either_step (bytes_eq x name) (has_name xs name) h)

same_truth : (a b : Bool) → (a ≡ true → b ≡ true) → (b ≡ true → a ≡ true) → a ≡ b
same_truth true b f g = sym (f refl)
same_truth false true f g = g refl
same_truth false false f g = refl

one_way : (names others : List (List ℕ)) (name : List ℕ) → (Has names name → Has others name) → has_name (built_ins ++ names) name ≡ true → has_name (built_ins ++ others) name ≡ true
one_way names others name f h =
    is_named (built_ins ++ others) name
    (⊎_elim (λ (a : Has built_ins name). has_front built_ins others name a) (λ (b : Has names name). has_back built_ins others name (f b))
    (has_either built_ins names name (names_it (built_ins ++ names) name h)))

module _ (order : CommandsAreInOrder) (there : BuiltInsAreThere) where
  same_found : (names others : List (List ℕ)) → HaveSameNames names others → (name : List ℕ) → command_of (built names) name ≡ command_of (built others) name
  same_found names others same name =
      there names name
      ∙ (ap (λ (b : Bool). cond b (Some (commands.Built name)) None) (same_truth (has_name (built_ins ++ names) name) (has_name (built_ins ++ others) name) (one_way names others name (same name).0) (one_way others names name (same name).1))
      ∙ sym (there others name))

  pub same_built : (names others : List (List ℕ)) → HaveSameNames names others → built names ≡ built others
  same_built names others same = tables_same (built names) (built others) (order names []) (order others []) (same_found names others same)

  pub same_commands : (names others : List (List ℕ)) (defs : List Def) → HaveSameNames names others → Commands names defs ≡ Commands others defs
  same_commands names others defs same = ap (λ (t : List (List ℕ × Cmd)). fold defined t defs) (same_built names others same)
