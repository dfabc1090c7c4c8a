use Rattle.tcl_list.proofs.Laws.{some_answer, same_list, same_place, list_or_place}
use Rattle.tcl_list.proofs.law.one_answer.Goals as goal

pub returns-clause-some : goal.returns-clause-some
returns-clause-some c = some_answer

pub returns-clause-one_list : goal.returns-clause-one_list
returns-clause-one_list c = same_list

pub returns-clause-one_place : goal.returns-clause-one_place
returns-clause-one_place c = same_place

pub returns-clause-not_both : goal.returns-clause-not_both
returns-clause-not_both c = list_or_place
