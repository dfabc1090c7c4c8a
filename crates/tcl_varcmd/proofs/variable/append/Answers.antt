use Rattle.std.proofs.Common.{ap, List, ℕ, ◌++◌, Ok}
use Rattle.tcl_frame.specs.Frames.{read_of, written, write_fault}
use Rattle.tcl_varcmd.specs.Answers.{gives}
use Rattle.tcl_varcmd.specs.Errors.{refused, write_error}
use Rattle.tcl_varcmd.proofs.Exits.{answers_on, answers_unchanged}
use Rattle.tcl_varcmd.proofs.Faults.{changes_refused}
use Rattle.tcl_varcmd.proofs.variable.append.Goals as goal

pub returns-in-Ok-clause-came : goal.returns-in-Ok-clause-came
unfolding write_error
returns-in-Ok-clause-came c =
    let stack = c.args.frames.now in
    let whole = read_of stack c.args.name.now ++ c.args.more.now in
    answers_on (write_error stack c.args.name.now) stack c.append.new.self (gives whole (written stack c.args.name.now whole)) (Ok c.in-Ok.value)
    (ap (refused c.args.name.now) c.in-Ok.ensures.refused) (c.in-Ok.ensures.value, c.in-Ok.ensures.ok)

pub returns-in-Err-clause-came : goal.returns-in-Err-clause-came
unfolding write_error
returns-in-Err-clause-came c =
    let stack = c.args.frames.now in
    let whole = read_of stack c.args.name.now ++ c.args.more.now in
    let after = written stack c.args.name.now whole in
    answers_unchanged (write_error stack c.args.name.now) stack after c.append.new.self (gives whole after) c.refusal.result
    (changes_refused (List ℕ) c.args.name.now (write_fault stack c.args.name.now) c.in-Err.fault c.refusal.result after stack c.append.new.self c.in-Err.ensures.refused c.refusal.ensures c.in-Err.ensures.err)
