use Rattle.std.proofs.Common.{◌≤◌}
use Rattle.tcl_eval.specs.Engine.{credit}
use Rattle.tcl_eval.proofs.Acts.{fell_entered, fell_paid}
use Rattle.tcl_eval.proofs.engine.Engine.first.Goals as goal

pub returns-in_ok-acted-in-Script-clause-fell : goal.returns-in_ok-acted-in-Script-clause-fell
returns-in_ok-acted-in-Script-clause-fell g c =
    fell_entered c.in_ok-acted-in-Script.acted c.enter_text.new.self c.args.self.now.budget (credit c.enter_text.new.self ≤ credit c.args.self.now) c.in_ok-acted-in-Script.ensures.enters c.in_ok-acted-in-Script.ensures.lower.0

pub returns-in_ok-acted-in-Call-clause-fell : goal.returns-in_ok-acted-in-Call-clause-fell
returns-in_ok-acted-in-Call-clause-fell g c =
    fell_paid c.in_ok-acted-in-Call.acted c.do_command.new.self c.args.self.now c.in_ok-acted-in-Call.ensures.pays

pub returns-in_ok-acted-in-Page-clause-fell : goal.returns-in_ok-acted-in-Page-clause-fell
returns-in_ok-acted-in-Page-clause-fell g c =
    fell_entered c.in_ok-acted-in-Page.acted c.enter_page.new.self c.args.self.now.budget (Unit {0}) c.in_ok-acted-in-Page.ensures.gives c.in_ok-acted-in-Page.ensures.lower
