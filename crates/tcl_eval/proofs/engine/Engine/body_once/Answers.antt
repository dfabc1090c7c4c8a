use Rattle.std.proofs.Common.{suc, [], refl}
use Rattle.natives.specs.Names.{names_of}
use Rattle.tcl_eval.specs.Eval.{nested, run_commands, run_script, unread}
use Rattle.tcl_eval.specs.Places.{tree_of}
use Rattle.tcl_eval.proofs.Choices.{came_same}
use Rattle.tcl_eval.proofs.Looping.{script_read}
use Rattle.tcl_eval.proofs.engine.Engine.body_once.Goals as goal

pub returns-in_ok-once-in-Script-clause-means : goal.returns-in_ok-once-in-Script-clause-means
returns-in_ok-once-in-Script-clause-means g c = λ levels.
    let ns = names_of c.args.natives.now in
    let t = g.H.Host.table in
    let text = c.args.text.now in
    let script = c.in-Script.script.value in
    let reads = rw c.in-Script.is at c.in_ok-read.ensures in
    let did = rw c.deref.ensures at c.in_ok-once-in-Script.ensures.means in
    came_same c.in_ok-once-in-Script.once c.run_once.new.self c.args.self.now (run_commands ns t (nested ns t levels) (tree_of script) []) (run_script ns t (suc levels) (unread text))
    (λ k s b gv. script_read ns t script (suc levels) levels text k s b gv refl reads)
    (did levels)
