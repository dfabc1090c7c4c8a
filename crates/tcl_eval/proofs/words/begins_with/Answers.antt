use Rattle.std.proofs.Common.{◌∙◌, sym}
use Rattle.tcl_eval.proofs.Rows.{first_is}
use Rattle.tcl_eval.proofs.words.begins_with.Goals as goal

pub returns-in-Some : goal.returns-in-Some
returns-in-Some c = λ same. first_is c.args.words.now c.in-Some.first.now c.args.name.now c.in-Some.ensures (sym c.eq.ensures ∙ same)
