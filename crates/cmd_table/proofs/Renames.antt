-- What a rename answers and does, case by case.
use Rattle.std.proofs.Common.{◌≡◌, ◌⊎◌, ℕ, true, false, List, [], ◌∷◌, Option, Some, None, Bor, refl, inl, inr}
use Rattle.std.specs.Option.{is_some, IsSome, option_copied}
use Rattle.cmd_table.specs.declared.command.Cmd.{Cmd}
use Rattle.cmd_table.specs.declared.renaming.Renamed.TheVariants.{Done, NoOld, NewExists}
use Rattle.cmd_table.specs.Table.{Table, command_of, without_command}
use Rattle.cmd_table.specs.Renaming.{rename_answer, renamed}
use Rattle.cmd_table.specs.Slots.{with_option}

-- a reference is there where what it points to is
pub copied_some : {X : Type 0} (o : Option (Bor X)) → is_some (option_copied o) ≡ is_some o
copied_some None = refl
copied_some (Some r) = refl

no_old_at : (t : Table) (old new : List ℕ) (found : Option Cmd) → command_of t old ≡ found → is_some found ≡ false → (rename_answer t old new ≡ NoOld) × (renamed t old new ≡ t)
unfolding rename_answer renamed
no_old_at t old new None at h = rw at (refl, refl)
no_old_at t old new (Some cmd) at h = absurd (cc)

-- without an old command
pub no_old : (t : Table) (old new : List ℕ) → is_some (command_of t old) ≡ false → (rename_answer t old new ≡ NoOld) × (renamed t old new ≡ t)
no_old t old new h = no_old_at t old new (command_of t old) refl h

removed_at : (t : Table) (old new : List ℕ) (found : Option Cmd) → command_of t old ≡ found → is_some found ≡ true → new ≡ [] → (rename_answer t old new ≡ Done) × (renamed t old new ≡ without_command t old)
unfolding rename_answer renamed
removed_at t old new None at h e = absurd (cc)
removed_at t old new (Some cmd) at h e = rw (e, at) (refl, refl)

-- to the empty name
pub removed : (t : Table) (old new : List ℕ) → is_some (command_of t old) ≡ true → new ≡ [] → (rename_answer t old new ≡ Done) × (renamed t old new ≡ without_command t old)
removed t old new h e = removed_at t old new (command_of t old) refl h e

refused_at : (t : Table) (old new : List ℕ) (found other : Option Cmd) → command_of t old ≡ found → command_of t new ≡ other → is_some found ≡ true → is_some other ≡ true → (new ≡ [] → ⊥)
    → (rename_answer t old new ≡ NewExists) × (renamed t old new ≡ t)
unfolding rename_answer renamed
refused_at t old [] found other at there h k some = absurd (some refl)
refused_at t old (b ∷ r) None other at there h k some = absurd (cc)
refused_at t old (b ∷ r) (Some cmd) None at there h k some = absurd (cc)
refused_at t old (b ∷ r) (Some cmd) (Some x) at there h k some = rw (at, there) (refl, refl)

-- to a name that has a command
pub refused : (t : Table) (old new : List ℕ) → is_some (command_of t old) ≡ true → is_some (command_of t new) ≡ true → (new ≡ [] → ⊥) → (rename_answer t old new ≡ NewExists) × (renamed t old new ≡ t)
refused t old new h k some = refused_at t old new (command_of t old) (command_of t new) refl refl h k some

moved_at : (t : Table) (old new : List ℕ) (found other : Option Cmd) → command_of t old ≡ found → command_of t new ≡ other → is_some found ≡ true → is_some other ≡ false → (new ≡ [] → ⊥)
    → (rename_answer t old new ≡ Done) × (renamed t old new ≡ with_option (without_command t old) new (command_of t old))
unfolding rename_answer renamed
moved_at t old [] found other at there h k some = absurd (some refl)
moved_at t old (b ∷ r) None other at there h k some = absurd (cc)
moved_at t old (b ∷ r) (Some cmd) None at there h k some = rw (at, there) (refl, refl)
moved_at t old (b ∷ r) (Some cmd) (Some x) at there h k some = absurd (cc)

-- to a new name
pub moved : (t : Table) (old new : List ℕ) → is_some (command_of t old) ≡ true → is_some (command_of t new) ≡ false → (new ≡ [] → ⊥)
    → (rename_answer t old new ≡ Done) × (renamed t old new ≡ with_option (without_command t old) new (command_of t old))
moved t old new h k some = moved_at t old new (command_of t old) (command_of t new) refl refl h k some

none_is : (o : Option Cmd) → is_some o ≡ false → o ≡ None
none_is None h = refl
none_is (Some cmd) h = absurd (cc)

-- no command is there
pub absent : (t : Table) (name : List ℕ) → is_some (command_of t name) ≡ false → command_of t name ≡ None
absent t name h = none_is (command_of t name) h

done_at : (t : Table) (old new : List ℕ) (found : Option Cmd) → command_of t old ≡ found → IsSome found → ((new ≡ []) ⊎ (command_of t new ≡ None)) → rename_answer t old new ≡ Done
unfolding rename_answer
done_at t old new None at h or = absurd (cc)
done_at t old [] (Some cmd) at h or = rw at refl
done_at t old (b ∷ r) (Some cmd) at h (inl e) = absurd (cc)
done_at t old (b ∷ r) (Some cmd) at h (inr e) = rw (at, e) refl

-- a rename that applies is done
pub done : (t : Table) (old new : List ℕ) → IsSome (command_of t old) × ((new ≡ []) ⊎ (command_of t new ≡ None)) → rename_answer t old new ≡ Done
done t old new h = done_at t old new (command_of t old) refl h.0 h.1
