use Rattle.std.proofs.Common.{◌≡◌, suc, ◌-◌, map, arith}
use Rattle.natives.specs.Names.{names_of}
use Rattle.tcl_parse.specs.Tree.{parts}
use Rattle.tcl_parse.specs.View.{part_of}
use Rattle.tcl_eval.proofs.OneBracket.{bracket_here}
use Rattle.tcl_eval.proofs.engine.Engine.try_bracket.Goals as goal

pub returns-in_ok-word-in-Some-clause-means : goal.returns-in_ok-word-in-Some-clause-means
returns-in_ok-word-in-Some-clause-means g c =
    let l : c.args.levels ≡ suc (c.args.levels - 1) = omega arith in
    let did = rw c.deref.ensures at c.in_ok-word-in-Some.ensures.means in
    bracket_here (names_of c.args.natives.now) g.H.Host.table c.do_bracket.new.self c.args.self.now c.in_ok-word-in-Some.word c.args.levels (c.args.levels - 1) (parts (map part_of c.args.pieces.now)) _ l c.in-Some.ensures (did (c.args.levels - 1))
