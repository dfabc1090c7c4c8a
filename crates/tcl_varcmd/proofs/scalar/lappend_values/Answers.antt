use Rattle.std.proofs.Common.{◌≡◌, ◌∙◌, sym, ap, subst, length}
use Rattle.tcl_frame.specs.Meaning.{value_there}
use Rattle.tcl_frame.specs.Frames.{read_of, written}
use Rattle.tcl_frame.proofs.Tables.{at_some}
use Rattle.tcl_frame.proofs.Scalars.{written_deep}
use Rattle.tcl_varcmd.specs.Answers.{Answers, IfNoMemory}
use Rattle.tcl_varcmd.specs.Scalars.{lappend_to}
use Rattle.tcl_varcmd.specs.InPlace.{lappending}
use Rattle.tcl_varcmd.proofs.InPlace.{value_written, came_of, came_in_place, kept_in_place, lappended_in_place}
use Rattle.tcl_varcmd.proofs.scalar.lappend_values.Goals as goal

pub returns-in-Some-clause-came : goal.returns-in-Some-clause-came
returns-in-Some-clause-came c =
    let stack = c.args.frames.now in
    let name = c.args.name.now in
    let old = c.in-Some.place.now in
    let new = c.lappend_at.new.place in
    let is = at_some c.scalar_mut.result c.in-Some.place (c.scalar_mut.follows.lender new ≡ written stack name new) c.in-Some.is (c.scalar_mut.follows.holds new) in
    let found = c.in-Some.ensures.value in
    let read : read_of stack name ≡ old = ap value_there found in
    subst (Answers (lappend_to stack name c.args.values.now) c.lappend_at.result) (sym is)
    (subst (λ came. Answers came c.lappend_at.result (written stack name new))
    (ap (λ t. came_of stack name (lappending t c.args.values.now)) (sym read)
    ∙ lappended_in_place stack name c.args.values.now (value_written stack name old found))
    (came_in_place stack name old new (lappending old c.args.values.now) c.lappend_at.result c.in-Some.ensures.same c.lappend_at.ensures.came c.lappend_at.ensures.left))

pub returns-in-Some-clause-kept : goal.returns-in-Some-clause-kept
returns-in-Some-clause-kept c =
    let stack = c.args.frames.now in
    let name = c.args.name.now in
    let new = c.lappend_at.new.place in
    let is = at_some c.scalar_mut.result c.in-Some.place (c.scalar_mut.follows.lender new ≡ written stack name new) c.in-Some.is (c.scalar_mut.follows.holds new) in
    subst (λ s. IfNoMemory c.lappend_at.result (s ≡ stack)) (sym is)
    (kept_in_place stack name c.in-Some.place.now new c.lappend_at.result c.in-Some.ensures.same c.lappend_at.ensures.left)

pub returns-in-Some-clause-depth : goal.returns-in-Some-clause-depth
returns-in-Some-clause-depth c =
    let stack = c.args.frames.now in
    let name = c.args.name.now in
    let new = c.lappend_at.new.place in
    let is = at_some c.scalar_mut.result c.in-Some.place (c.scalar_mut.follows.lender new ≡ written stack name new) c.in-Some.is (c.scalar_mut.follows.holds new) in
    ap (λ s. length s.above) is ∙ written_deep stack name new
