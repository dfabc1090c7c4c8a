use Rattle.cmd_table.proofs.States.{mark_is_now, back_keeps_marks, keeping_goes_on}
use Rattle.cmd_table.proofs.law.marks_stay.Goals as goal

pub returns-clause-now : goal.returns-clause-now
returns-clause-now c = mark_is_now

pub returns-clause-back : goal.returns-clause-back
returns-clause-back c = back_keeps_marks

pub returns-clause-goes_on : goal.returns-clause-goes_on
returns-clause-goes_on c = keeping_goes_on
