-- How the frames of an interpreter, and its global variables, are stored by proofs.
use Rattle.std.specs.Prelude.{List, refl}
use Rattle.std.specs.Coded.{Coded, code_by, coded×, coded_list, coded_ℕ}
use Rattle.tcl_frame.specs.Variables.{Table}
use Rattle.tcl_frame.specs.Stack.{Stack, Kept}
use Rattle.tcl_frame.specs.Globals.{Globals}
use Rattle.tcl_frame.specs.TableCode.{table_code}
use Rattle.tcl_frame.specs.declared.frame.Frame.{Frame}
use Rattle.tcl_frame.specs.contracts.frame.Frame as frame

abbrev keeps_code : Coded (List Kept)
keeps_code = coded_list (coded× (coded_list coded_ℕ) (coded_list coded_ℕ))

-- a stack is stored as its global variables, the frames above them and the keeps
abbrev pub stack_code : Coded Stack
stack_code =
    code_by (Table × (List Frame × List Kept)) (coded× table_code (coded× (coded_list frame.the_row.coded) keeps_code))
    (λ s. (s.global, (s.above, s.keeps))) (λ p. record { global = p.0; above = p.1.0; keeps = p.1.1 }) (λ _. refl)

-- global variables are stored as the pair of these and the keeps
abbrev pub globals_code : Coded Globals
globals_code =
    code_by (Table × List Kept) (coded× table_code keeps_code)
    (λ g. (g.table, g.keeps)) (λ p. record { table = p.0; keeps = p.1 }) (λ _. refl)
