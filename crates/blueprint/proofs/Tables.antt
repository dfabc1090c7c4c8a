-- What definitions do to the names that are commands.
use Rattle.std.proofs.Common.{◌≡◌, ℕ, Bool, true, false, cond, ◌||◌, List, [], ◌∷◌, Option, Some, None, refl, sym, ap, ◌∙◌}
use Rattle.std.specs.Option.{is_some}
use Rattle.std.specs.List.{list_any}
use Rattle.std.specs.Str.{bytes_eq}
use Rattle.std.specs.Cmp.Lexicographic.{nat_list_eq_equiv}
use Rattle.std.proofs.lemmas.Map.Text.{is_eq-slice_cmp}
use Rattle.cmd_table.specs.declared.command.Cmd.{Cmd}
use Rattle.cmd_table.specs.Table.{Table, IsInOrder, names_of, command_of, with_command, without_command}
use Rattle.cmd_table.specs.Renaming.{rename_answer, renamed}
use Rattle.cmd_table.specs.Commands.{is_done}
use Rattle.cmd_table.specs.Laws.{PuttingSetsOneName, RemovingDropsOneName}
use Rattle.blueprint.specs.Kept.{same_name, Slots, is_there, with_name, AreCommands}

-- ---- commands that are put and removed

put_if : (b : Bool) (cmd : Cmd) (o : Option Cmd) → cond b true (is_some o) ≡ is_some (cond b (Some cmd) o)
put_if true cmd o = refl
put_if false cmd o = refl

gone_if : (b : Bool) (o : Option Cmd) → cond b false (is_some o) ≡ is_some (cond b None o)
gone_if true o = refl
gone_if false o = refl

named : (old new : Slots) (table : Table) (name : List ℕ) (there : Bool) → AreCommands old table → ((q : List ℕ) → is_there new q ≡ with_name name there (is_there old) q)
    → (q : List ℕ) → is_there new q ≡ cond (bytes_eq name q) there (is_some (command_of table q))
named old new table name there are set q =
    set q ∙ ap (λ (b : Bool). cond b there (is_there old q)) (is_eq-slice_cmp name q) ∙ ap (λ (b : Bool). cond (bytes_eq name q) there b) (are q)

-- a name that is put is a command
pub command_put : PuttingSetsOneName → (old new : Slots) (table : Table) (name : List ℕ) (cmd : Cmd) → AreCommands old table
    → ((q : List ℕ) → is_there new q ≡ with_name name true (is_there old) q) → AreCommands new (with_command table name cmd)
command_put law old new table name cmd are set q =
    named old new table name true are set q ∙ put_if (bytes_eq name q) cmd (command_of table q) ∙ ap is_some (sym (law table name q cmd))

-- a name that is removed is none
pub command_gone : RemovingDropsOneName → (old new : Slots) (table : Table) (name : List ℕ) → IsInOrder table → AreCommands old table
    → ((q : List ℕ) → is_there new q ≡ with_name name false (is_there old) q) → AreCommands new (without_command table name)
command_gone law old new table name order are set q =
    named old new table name false are set q ∙ gone_if (bytes_eq name q) (command_of table q) ∙ ap is_some (sym (law table name q order))

-- ---- renames

no_old_at : (t : Table) (old new : List ℕ) (found : Option Cmd) → command_of t old ≡ found → is_some found ≡ false → (is_done (rename_answer t old new) ≡ false) × (renamed t old new ≡ t)
unfolding rename_answer renamed
no_old_at t old new None at h = rw at (refl, refl)
no_old_at t old new (Some cmd) at h = absurd (cc)

-- without an old command
pub no_old : (t : Table) (old new : List ℕ) → is_some (command_of t old) ≡ false → (is_done (rename_answer t old new) ≡ false) × (renamed t old new ≡ t)
no_old t old new h = no_old_at t old new (command_of t old) refl h

removed_at : (t : Table) (old new : List ℕ) (found : Option Cmd) → command_of t old ≡ found → is_some found ≡ true → new ≡ [] → (is_done (rename_answer t old new) ≡ true) × (renamed t old new ≡ without_command t old)
unfolding rename_answer renamed
removed_at t old new None at h e = absurd (cc)
removed_at t old new (Some cmd) at h e = rw (e, at) (refl, refl)

-- to the empty name
pub removed : (t : Table) (old new : List ℕ) → is_some (command_of t old) ≡ true → new ≡ [] → (is_done (rename_answer t old new) ≡ true) × (renamed t old new ≡ without_command t old)
removed t old new h e = removed_at t old new (command_of t old) refl h e

refused_at : (t : Table) (old new : List ℕ) (found other : Option Cmd) → command_of t old ≡ found → command_of t new ≡ other → is_some found ≡ true → is_some other ≡ true → (new ≡ [] → ⊥)
    → (is_done (rename_answer t old new) ≡ false) × (renamed t old new ≡ t)
unfolding rename_answer renamed
refused_at t old [] found other at there h k some = absurd (some refl)
refused_at t old (b ∷ r) None other at there h k some = absurd (cc)
refused_at t old (b ∷ r) (Some cmd) None at there h k some = absurd (cc)
refused_at t old (b ∷ r) (Some cmd) (Some x) at there h k some = rw (at, there) (refl, refl)

-- to a name that has a command
pub refused : (t : Table) (old new : List ℕ) → is_some (command_of t old) ≡ true → is_some (command_of t new) ≡ true → (new ≡ [] → ⊥) → (is_done (rename_answer t old new) ≡ false) × (renamed t old new ≡ t)
refused t old new h k some = refused_at t old new (command_of t old) (command_of t new) refl refl h k some

moved_at : (t : Table) (old new : List ℕ) (found other : Option Cmd) → command_of t old ≡ found → command_of t new ≡ other → is_some found ≡ true → is_some other ≡ false → (new ≡ [] → ⊥)
    → (is_done (rename_answer t old new) ≡ true) × ((cmd : Cmd) × (renamed t old new ≡ with_command (without_command t old) new cmd))
unfolding rename_answer renamed
moved_at t old [] found other at there h k some = absurd (some refl)
moved_at t old (b ∷ r) None other at there h k some = absurd (cc)
moved_at t old (b ∷ r) (Some cmd) None at there h k some = rw (at, there) (refl, (cmd, refl))
moved_at t old (b ∷ r) (Some cmd) (Some x) at there h k some = absurd (cc)

-- to a new name
pub moved : (t : Table) (old new : List ℕ) → is_some (command_of t old) ≡ true → is_some (command_of t new) ≡ false → (new ≡ [] → ⊥)
    → (is_done (rename_answer t old new) ≡ true) × ((cmd : Cmd) × (renamed t old new ≡ with_command (without_command t old) new cmd))
moved t old new h k some = moved_at t old new (command_of t old) (command_of t new) refl refl h k some

-- ---- the names of a table

any_step : (first name : List ℕ) (cmd : Cmd) (rest : Bool) (o : Option Cmd) (b : Bool) → bytes_eq name first ≡ b → rest ≡ is_some o → (bytes_eq first name || rest) ≡ is_some (cond b (Some cmd) o)
any_step first name cmd rest o true at h = let e = nat_list_eq_equiv.symm first name ∙ at in rw e refl
any_step first name cmd rest o false at h = let e = nat_list_eq_equiv.symm first name ∙ at in rw e h

-- a name is a command where it is among the names
pub among : (t : Table) (name : List ℕ) → list_any (λ (other : List ℕ). same_name other name) (names_of t) ≡ is_some (command_of t name)
unfolding command_of
among [] name = refl
among (e ∷ t) name =
    ap (λ (b : Bool). b || list_any (λ (other : List ℕ). same_name other name) (names_of t)) (is_eq-slice_cmp e.0 name)
    ∙ any_step e.0 name e.1 (list_any (λ (other : List ℕ). same_name other name) (names_of t)) (command_of t name) (bytes_eq name e.0) refl (among t name)
