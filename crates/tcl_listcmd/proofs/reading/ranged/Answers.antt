use Rattle.std.proofs.Common.{◌≡◌, ◌∙◌, ℤ, Ok, length, rules, FitsSigned, to_z, of_z}
use mir.Syntax.{w64, w128}
use Rattle.std.proofs.lemmas.Int.{to_z-of_z}
use Rattle.std.specs.Prelude.{codes}
use Rattle.txt_core.specs.Quoting.{quoting}
use Rattle.natives.specs.Indexes.{last_of}
use Rattle.natives.specs.Indexes.{part_between}
use Rattle.tcl_listcmd.proofs.Saying.{placed_twice}
use Rattle.tcl_listcmd.proofs.reading.ranged.Goals as goal

pub returns : goal.returns
returns c =
    let fits : FitsSigned w64 c.last_of.result = search rules in
    let fits_again : FitsSigned w64 c.last_of-2.result = search rules in
    let wide : FitsSigned w128 c.in_ok-first.first = search rules in
    let wide_again : FitsSigned w128 c.in_ok-last.last = search rules in
    let last : to_z w64 (of_z w64 c.last_of.result) ≡ last_of (length c.args.list.now) = to_z-of_z w64 c.last_of.result fits ∙ c.last_of.ensures in
    let last_again : to_z w64 (of_z w64 c.last_of-2.result) ≡ last_of (length c.args.list.now) = to_z-of_z w64 c.last_of-2.result fits_again ∙ c.last_of-2.ensures in
    let from = to_z-of_z w128 c.in_ok-first.first wide in
    let to = to_z-of_z w128 c.in_ok-last.last wide_again in
    placed_twice (codes "lrange") c.args.first.now c.args.last.now (last_of (length c.args.list.now)) c.in_ok-first.first c.in_ok-last.last (λ (x y : ℤ). Ok (quoting (part_between c.args.list.now x y))) c.part_text.result
    (rw last at c.in_ok-first.ensures) (rw last_again at c.in_ok-last.ensures) (rw (from, to) at c.part_text.ensures)
