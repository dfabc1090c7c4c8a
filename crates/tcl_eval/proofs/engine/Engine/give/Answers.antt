use Rattle.std.proofs.Common.{sym, subst}
use Rattle.std.specs.Prelude.{IfOk}
use Rattle.natives.specs.Names.{names_of}
use Rattle.tcl_eval.specs.Clauses.{GivesFrame}
use Rattle.tcl_eval.specs.declared.stack.Frame.{Frame}
use Rattle.tcl_eval.proofs.engine.Engine.give.Goals as goal

pub returns-in-Command-clause-means : goal.returns-in-Command-clause-means
returns-in-Command-clause-means g c =
    subst (λ (frame : Frame). IfOk c.give_word.result (λ step. GivesFrame (names_of c.args.natives.now) g.H.Host.table step frame c.args.value c.give_word.new.self c.args.self.now)) (sym c.in-Command.is) c.give_word.ensures.means
