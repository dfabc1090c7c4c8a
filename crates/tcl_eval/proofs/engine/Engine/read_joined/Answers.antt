use Rattle.std.proofs.Common.{◌∙◌, arith}
use Rattle.tcl_eval.proofs.Evaluations.{one_joined}
use Rattle.tcl_eval.proofs.engine.Engine.read_joined.Goals as goal

pub returns-in_ok-read-in-len1-clause-means : goal.returns-in_ok-read-in-len1-clause-means
returns-in_ok-read-in-len1-clause-means g c =
    c.in_ok-read-in-len1.ensures ∙ one_joined c.args.words.now c.text-item.result (omega arith) c.text-item.is
