use Rattle.std.proofs.Common.{◌≡◌, Some, sym, ap, ◌∙◌}
use Rattle.std.specs.FinMap as map
use Rattle.tcl_frame.specs.declared.variable.Variable.TheVariants.{Scalar}
use Rattle.tcl_frame.specs.Names.{variable_name}
use Rattle.tcl_frame.specs.Seen.{name_seen}
use Rattle.tcl_frame.specs.Globals.{together, values_of, standing_value, with_aside}
use Rattle.tcl_frame.proofs.Bases.{aside_together, aside_values, aside_gone}
use Rattle.tcl_frame.proofs.globals.set_aside.Goals as goal

pub returns-clause-same : goal.returns-clause-same
returns-clause-same c =
    let base = c.args.base.now in
    let own = c.args.own.now in
    let k = c.in-Whole.name.now in
    let v = c.in-Some.value.now in
    let stood : standing_value (map.get base k) ≡ Some v =
    sym (c.in-Some.ensures ∙ ap (λ n. standing_value (map.get base n)) (c.variable.ensures ∙ ap (λ n. variable_name (name_seen n)) c.in-Whole.is)) in
    ap (λ b. together b c.insert.new.self) c.set_aside.ensures
    ∙ ap (together (with_aside base k)) (c.in_ok-insert.ensures.ok ∙ ap (λ t. map.insert own k (Scalar t)) c.in_ok-value.ensures)
    ∙ aside_together base k own v stood

pub returns-clause-values : goal.returns-clause-values
returns-clause-values c = ap values_of c.set_aside.ensures ∙ aside_values c.args.base.now c.in-Whole.name.now

pub returns-clause-aside : goal.returns-clause-aside
returns-clause-aside c =
    ap (λ n. standing_value (map.get c.set_aside.new.self (variable_name (name_seen n)))) c.in-Whole.is
    ∙ ap (λ b. standing_value (map.get b c.in-Whole.name.now)) c.set_aside.ensures
    ∙ aside_gone c.args.base.now c.in-Whole.name.now
