use Rattle.std.proofs.Common.{rules, FitsSigned}
use Rattle.std.specs.Prelude.{pos, ◌+ℤ◌}
use mir.Syntax.{w128}
use Rattle.std.proofs.lemmas.Int.{to_z-of_z}
use Rattle.natives.specs.Indexes.{cut}
use Rattle.tcl_string.proofs.Parts.{cut_part}
use Rattle.tcl_string.proofs.part.part_between.Goals as goal

pub returns : goal.returns
returns c =
    let from_fits : FitsSigned w128 c.args.from = search rules in
    let to_fits : FitsSigned w128 c.args.to = search rules in
    rw (c.cut_place-start.ensures, c.cut_behind-end.ensures, to_z-of_z w128 c.args.from from_fits, to_z-of_z w128 c.args.to to_fits) (cut_part (cut c.args.from) (cut (c.args.to +ℤ pos 1)) c.args.bytes.now)
