use Rattle.std.proofs.Common.{pos, ◌+ℤ◌, rules, FitsSigned}
use mir.Syntax.{w128}
use Rattle.std.proofs.lemmas.Int.{to_z-of_z}
use Rattle.natives.specs.Indexes.{cut}
use Rattle.tcl_listcmd.proofs.Parts.{cut_part}
use Rattle.tcl_listcmd.proofs.reading.part_between.Goals as goal

pub returns : goal.returns
returns c =
    let wide : FitsSigned w128 c.args.first = search rules in
    let wide_again : FitsSigned w128 c.args.last = search rules in
    let first = to_z-of_z w128 c.args.first wide in
    let last = to_z-of_z w128 c.args.last wide_again in
    cut_part (cut c.args.first) (cut (c.args.last +ℤ pos 1)) c.cut_behind-end.result c.cut_place-start.result c.len.result c.args.list.now c.as_slice.result.now c.as_slice.ensures c.len.ensures
    (rw last at c.cut_behind-end.ensures) (rw first at c.cut_place-start.ensures)
