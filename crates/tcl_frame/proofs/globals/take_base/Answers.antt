use Rattle.std.proofs.Common.{Some, [], sym, ap, ◌∙◌}
use Rattle.tcl_frame.specs.Seen.{name_seen}
use Rattle.tcl_frame.specs.Variables.{without}
use Rattle.tcl_frame.specs.Globals.{together, values_of, with_aside, base_fault}
use Rattle.tcl_frame.proofs.Bases.{aside_taken, aside_values, removal_refused}
use Rattle.tcl_frame.proofs.globals.take_base.Goals as goal

pub returns-in-Whole-clause-ok : goal.returns-in-Whole-clause-ok
returns-in-Whole-clause-ok c =
    let base = c.args.base.now in
    let own = c.args.own.now in
    let k = c.in-Whole.name.now in
    ap (λ b. together b c.remove.new.self) c.set_aside.ensures
    ∙ ap (together (with_aside base k)) c.remove.ensures
    ∙ aside_taken base k own
    ∙ sym (ap (λ n. without (together base own) (name_seen n)) c.in-Whole.is)

pub returns-in-Whole-clause-values : goal.returns-in-Whole-clause-values
returns-in-Whole-clause-values c = ap values_of c.set_aside.ensures ∙ aside_values c.args.base.now c.in-Whole.name.now

pub returns-in-Whole-clause-refused : goal.returns-in-Whole-clause-refused
returns-in-Whole-clause-refused c =
    removal_refused c.args.base.now c.args.own.now (name_seen c.args.name.now) c.requires ∙ ap (λ n. base_fault (Some []) (name_seen n)) c.in-Whole.is

pub returns-in-Element-clause-refused : goal.returns-in-Element-clause-refused
returns-in-Element-clause-refused c =
    removal_refused c.args.base.now c.args.own.now (name_seen c.args.name.now) c.requires ∙ ap (λ n. base_fault (Some []) (name_seen n)) c.in-Element.is
