-- Where a definition applies.
use Rattle.std.proofs.Common.{◌≡◌, ℕ, List, [], ◌∷◌, ◌⊎◌, inl, inr, Bool, true, false, not, Option, Some, None, refl}
use Rattle.std.specs.Prelude.{◌↔◌, IsTrue, IsSome}
use Rattle.cmd_table.specs.declared.command.Cmd.{Cmd}
use Rattle.cmd_table.specs.declared.definition.Def.{Def}
use Rattle.cmd_table.specs.declared.definition.Def.TheVariants.{Proc, Rename, Route, Filter, Cleanup, Set}
use Rattle.tcl_frame.specs.Names.{named, is_element}
use Rattle.cmd_table.specs.Table.{Table, command_of}
use Rattle.cmd_table.specs.Renaming.{answer_at_new, answer_from, rename_answer}
use Rattle.cmd_table.specs.Commands.{Applies, is_done, fits}
use Rattle.cmd_table.specs.Laws.{FitsWhereApplies}

at_new : (found : Option Cmd) → IsTrue (is_done (answer_at_new found)) ↔ (found ≡ None)
at_new None = (λ e. refl, λ e. refl)
at_new (Some cmd) = (λ e. absurd (cc), λ e. absurd (cc))

from_old : (table : Table) (found : Option Cmd) (new : List ℕ) → IsTrue (is_done (answer_from table found new)) ↔ (IsSome found × ((new ≡ []) ⊎ (command_of table new ≡ None)))
from_old table None new = (λ e. absurd (cc), λ h. let none : false ≡ true = h.0 in absurd (cc))
from_old table (Some cmd) [] = (λ e. (refl, inl refl), λ h. refl)
from_old table (Some cmd) (b ∷ t) = (
  λ e. (refl, inr ((at_new (command_of table (b ∷ t))).0 e)),
  λ h. elim h.1 [ inl e ↦ absurd (cc) | inr e ↦ (at_new (command_of table (b ∷ t))).1 e ],
)

renames_where : (table : Table) (old new : List ℕ) → IsTrue (is_done (rename_answer table old new)) ↔ (IsSome (command_of table old) × ((new ≡ []) ⊎ (command_of table new ≡ None)))
unfolding rename_answer
renames_where table old new = from_old table (command_of table old) new

is_not : (b : Bool) → IsTrue (not b) ↔ (b ≡ false)
is_not true = (λ e. absurd (cc), λ h. absurd (cc))
is_not false = (λ e. refl, λ h. refl)

pub fits_where : FitsWhereApplies
fits_where table (Rename old new) = renames_where table old new
fits_where table (Proc name params body) = (λ e. tt, λ h. refl)
fits_where table (Route method url inherit words) = (λ e. tt, λ h. refl)
fits_where table (Filter when method pattern words) = (λ e. tt, λ h. refl)
fits_where table (Cleanup script) = (λ e. tt, λ h. refl)
fits_where table (Set name value) = is_not (is_element (named name))
