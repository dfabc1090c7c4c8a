-- How variables by name are stored by proofs.
use Rattle.std.specs.Coded.{Coded, coded_list, coded_ℕ}
use Rattle.std.specs.FinMap as map
use Rattle.tcl_frame.specs.Variables.{Table}
use Rattle.tcl_frame.specs.contracts.variable.Variable as variable

abbrev pub table_code : Coded Table
table_code = map.code (coded_list coded_ℕ) variable.the_row.coded
