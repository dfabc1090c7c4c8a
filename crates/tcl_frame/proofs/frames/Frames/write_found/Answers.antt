use Rattle.std.proofs.Common.{◌≡◌, ap, ◌∙◌}
use Rattle.tcl_frame.specs.Names.{named, variable_name}
use Rattle.tcl_frame.specs.Variables.{with_value}
use Rattle.tcl_frame.specs.Frames.{with_table}
use Rattle.tcl_frame.proofs.Tables.{on_ok, on_err, at_some}
use Rattle.tcl_frame.proofs.Tops.{own_changed, own_unchanged, own_deep}
use Rattle.tcl_frame.proofs.frames.Frames.write_found.Goals as goal

pub returns-in-Some-clause-ok : goal.returns-in-Some-clause-ok
returns-in-Some-clause-ok c =
    let stack = c.args.self.now in
    let new = c.write.new.self in
    let is = at_some c.own_mut.result c.in-Some.variables (c.own_mut.follows.lender new ≡ with_table stack c.variable.result.now new) c.in-Some.is (c.own_mut.follows.holds new) in
    let meant = c.new-name.ensures ∙ ap named c.bytes.ensures in
    on_ok c.write.result _ _ (λ change.
    own_changed stack c.variable.result.now c.in-Some.variables.now new (c.own_mut.follows.lender new) c.in-Some.ensures.value is (variable_name (named c.args.name.now))
    (λ table. with_value table (named c.args.name.now) c.args.value) (c.variable.ensures ∙ ap variable_name meant) (change ∙ ap (λ n. with_value c.in-Some.variables.now n c.args.value) meant)) c.write.ensures.ok

pub returns-in-Some-clause-err : goal.returns-in-Some-clause-err
returns-in-Some-clause-err c =
    let stack = c.args.self.now in
    let new = c.write.new.self in
    let is = at_some c.own_mut.result c.in-Some.variables (c.own_mut.follows.lender new ≡ with_table stack c.variable.result.now new) c.in-Some.is (c.own_mut.follows.holds new) in
    on_err c.write.result _ _ (λ same. own_unchanged stack c.variable.result.now c.in-Some.variables.now new (c.own_mut.follows.lender new) c.in-Some.ensures.value is same) c.write.ensures.err

pub returns-in-Some-clause-depth : goal.returns-in-Some-clause-depth
returns-in-Some-clause-depth c =
    let stack = c.args.self.now in
    let new = c.write.new.self in
    let is = at_some c.own_mut.result c.in-Some.variables (c.own_mut.follows.lender new ≡ with_table stack c.variable.result.now new) c.in-Some.is (c.own_mut.follows.holds new) in
    own_deep stack c.variable.result.now c.in-Some.variables.now new (c.own_mut.follows.lender new) c.in-Some.ensures.value is
