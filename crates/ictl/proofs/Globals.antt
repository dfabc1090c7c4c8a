-- What a fresh state has of its definitions.
use Rattle.std.proofs.Common.{◌≡◌, ℕ, ◌+◌, List, [], ◌∷◌, ◌++◌, refl, sym, ap, ◌∙◌, arith, Bool, true, false, Option, None, Some}
use Rattle.std.specs.Prelude.{fold, if◌then◌else◌}
use Rattle.std.specs.FinMap as map
use Rattle.std.proofs.lemmas.List.Sums.{sum_by-cons}
use Rattle.tcl_frame.specs.Names.{named, is_element}
use Rattle.tcl_frame.specs.Variables.{Scalars}
use Rattle.tcl_frame.specs.Stack.{Kept}
use Rattle.cmd_table.specs.Table.{Table}
use Rattle.cmd_table.specs.Commands.{with_global, fits, defined, writes, Writes}
use Rattle.cmd_table.specs.declared.definition.Def.{Def}
use Rattle.cmd_table.specs.declared.definition.Def.TheVariants.{Proc, Rename, Route, Filter, Cleanup, Set}
use Rattle.blueprint.specs.States.{misfit_from}
use Rattle.ictl.specs.Fresh.{keeps_of, writes_in}

-- ---- global variables

abbrev keeping : Scalars → Kept → Scalars
keeping base keep = map.insert base keep.0 keep.1

by_name : (t : Bool) (base : Scalars) (name value : List ℕ) (defs : List Def) → ((b : Scalars) → fold keeping b (keeps_of defs) ≡ fold with_global b defs)
    → fold keeping base ((if t then [] else (name, value) ∷ []) ++ keeps_of defs) ≡ fold with_global (if t then base else map.insert base name value) defs
by_name true base name value defs rest = rest base
by_name false base name value defs rest = rest (map.insert base name value)

keeps_from : (base : Scalars) (defs : List Def) → fold keeping base (keeps_of defs) ≡ fold with_global base defs
keeps_from base [] = refl
keeps_from base (Proc name params body ∷ defs) = keeps_from base defs
keeps_from base (Rename old new ∷ defs) = keeps_from base defs
keeps_from base (Route method url inherit words ∷ defs) = keeps_from base defs
keeps_from base (Filter when method pattern words ∷ defs) = keeps_from base defs
keeps_from base (Cleanup script ∷ defs) = keeps_from base defs
keeps_from base (Set name value ∷ defs) = by_name (is_element (named name)) base name value defs (λ b. keeps_from b defs)

pub keeps_are_globals : (defs : List Def) → fold keeping map.empty (keeps_of defs) ≡ fold with_global map.empty defs
keeps_are_globals defs = keeps_from map.empty defs

-- ---- entries

by_fit : (t : Bool) (place : ℕ) (table : Table) (def : Def) (defs : List Def) → (misfit_from (place + 1) (defined table def) defs ≡ None → writes_in (defined table def) defs ≡ Writes defs)
    → (if t then misfit_from (place + 1) (defined table def) defs else Some place) ≡ None
    → (if t then writes def else 0) + writes_in (defined table def) defs ≡ Writes (def ∷ defs)
by_fit true place table def defs rest fit = ap (λ (n : ℕ). writes def + n) (rest fit) ∙ sym (sum_by-cons writes def defs)
by_fit false place table def defs rest fit = absurd (let never : Some place ≡ None = fit in cc)

write_from : (place : ℕ) (table : Table) (defs : List Def) → misfit_from place table defs ≡ None → writes_in table defs ≡ Writes defs
write_from place table [] fit = refl
write_from place table (def ∷ defs) fit = by_fit (fits table def) place table def defs (λ left. write_from (place + 1) (defined table def) defs left) fit

pub definitions_write : (table : Table) (defs : List Def) → misfit_from 0 table defs ≡ None → writes_in table defs ≡ Writes defs
definitions_write table defs fit = write_from 0 table defs fit
