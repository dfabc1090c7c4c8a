-- Going over names that get their built-ins.
use Rattle.std.proofs.Common.{◌≡◌, ◌<◌, ◌+◌, ℕ, List, [], take, length, Some, None, ap, sym, ◌∙◌}
use Rattle.std.specs.List.{slice_get}
use Rattle.std.proofs.lemmas.Option.{slice_get_within, get_or_from_slice_get, slice_get-get_or}
use Rattle.std.proofs.lemmas.List.Sums.{fold_more, fold-append}
use Rattle.cmd_table.specs.declared.command.Cmd.TheVariants as commands
use Rattle.cmd_table.specs.Table.{Table, with_command}
use Rattle.cmd_table.specs.Commands.{built_ins, built, with_built}

-- the name at this place has its built-in too
pub one_more : (table old new : Table) (names : List (List ℕ)) (i : ℕ) (name : List ℕ) → old ≡ with_built table (take i names) → Some name ≡ slice_get names i → new ≡ with_command old name (commands.Built name) → new ≡ with_built table (take (i + 1) names)
one_more table old new names i name so_far at put =
    let is : slice_get names i ≡ Some name = sym at in
    put
    ∙ (ap (λ (t : Table). with_command t name (commands.Built name)) so_far
    ∙ (ap (λ (n : List ℕ). with_command (with_built table (take i names)) n (commands.Built n)) (sym (get_or_from_slice_get names i name name is))
    ∙ sym (fold_more (λ (t : Table) (n : List ℕ). with_command t n (commands.Built n)) table names i name (slice_get_within names i name is))))

-- at a place before the end there is a name
pub is_there : (names : List (List ℕ)) (i : ℕ) → i < length names → None ≡ slice_get names i → ⊥
is_there names i lt none = let is = slice_get-get_or names i [] lt in absurd (cc)

-- first the built-ins that are no natives, and then the natives
pub one_after_the_other : (start first last : Table) (natives : List (List ℕ)) → start ≡ [] → first ≡ with_built start built_ins → last ≡ with_built first natives → last ≡ built natives
one_after_the_other start first last natives empty front back =
    back
    ∙ (ap (λ (t : Table). with_built t natives) (front ∙ ap (λ (t : Table). with_built t built_ins) empty)
    ∙ sym (fold-append (λ (t : Table) (n : List ℕ). with_command t n (commands.Built n)) [] built_ins natives))
