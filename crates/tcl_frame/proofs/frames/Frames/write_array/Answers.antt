use Rattle.std.proofs.Common.{◌≡◌, ap, ◌∙◌}
use Rattle.tcl_frame.specs.Names.{named}
use Rattle.tcl_frame.specs.Variables.{with_array}
use Rattle.tcl_frame.specs.Frames.{with_table}
use Rattle.tcl_frame.proofs.Tables.{on_ok, on_err, at_some}
use Rattle.tcl_frame.proofs.Tops.{own_changed, own_unchanged, own_deep, whole_name}
use Rattle.tcl_frame.proofs.frames.Frames.write_array.Goals as goal

pub returns-in-Some-clause-ok : goal.returns-in-Some-clause-ok
returns-in-Some-clause-ok c =
    let stack = c.args.self.now in
    let new = c.write_array.new.self in
    let is = at_some c.own_mut.result c.in-Some.variables (c.own_mut.follows.lender new ≡ with_table stack c.in-Whole.name.now new) c.in-Some.is (c.own_mut.follows.holds new) in
    let name = whole_name c.args.name.now c.in-Whole.name.now (c.in-Whole.ensures ∙ ap named c.bytes.ensures) in
    on_ok c.write_array.result _ _ (λ change.
    own_changed stack c.in-Whole.name.now c.in-Some.variables.now new (c.own_mut.follows.lender new) c.in-Some.ensures.value is c.args.name.now
    (λ table. with_array table c.args.name.now c.args.pairs.now) name (change ∙ ap (λ n. with_array c.in-Some.variables.now n c.args.pairs.now) name)) c.write_array.ensures.ok

pub returns-in-Some-clause-err : goal.returns-in-Some-clause-err
returns-in-Some-clause-err c =
    let stack = c.args.self.now in
    let new = c.write_array.new.self in
    let is = at_some c.own_mut.result c.in-Some.variables (c.own_mut.follows.lender new ≡ with_table stack c.in-Whole.name.now new) c.in-Some.is (c.own_mut.follows.holds new) in
    on_err c.write_array.result _ _ (λ same. own_unchanged stack c.in-Whole.name.now c.in-Some.variables.now new (c.own_mut.follows.lender new) c.in-Some.ensures.value is same) c.write_array.ensures.err

pub returns-in-Some-clause-depth : goal.returns-in-Some-clause-depth
returns-in-Some-clause-depth c =
    let stack = c.args.self.now in
    let new = c.write_array.new.self in
    let is = at_some c.own_mut.result c.in-Some.variables (c.own_mut.follows.lender new ≡ with_table stack c.in-Whole.name.now new) c.in-Some.is (c.own_mut.follows.holds new) in
    own_deep stack c.in-Whole.name.now c.in-Some.variables.now new (c.own_mut.follows.lender new) c.in-Some.ensures.value is
