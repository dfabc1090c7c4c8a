use Rattle.txt_core.specs.Writing.{is_written, written_is}
use Rattle.tcl_list.proofs.law.one_writing.Goals as goal

pub returns-clause-gives : goal.returns-clause-gives
returns-clause-gives c = is_written

pub returns-clause-only : goal.returns-clause-only
returns-clause-only c = λ x w h. written_is h
