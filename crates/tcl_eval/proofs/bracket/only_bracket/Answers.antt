use Rattle.std.proofs.Common.{arith}
use Rattle.std.proofs.lemmas.Option.{IfSome_then}
use Rattle.tcl_eval.proofs.OneBracket.{one_piece_of}
use Rattle.tcl_eval.proofs.bracket.only_bracket.Goals as goal

pub returns-in-len1 : goal.returns-in-len1
returns-in-len1 c =
    IfSome_then c.bracket_script.result c.bracket_script.ensures (λ script is. one_piece_of c.args.pieces.now c.piece-item.result _ (omega arith) c.piece-item.is is)
