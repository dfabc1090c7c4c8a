use Rattle.std.proofs.Common.{◌≡◌, ◌++◌, ◌∙◌, sym, ap, subst, length}
use Rattle.tcl_frame.specs.Meaning.{value_there}
use Rattle.tcl_frame.specs.Frames.{read_of, written}
use Rattle.tcl_frame.proofs.Tables.{at_some}
use Rattle.tcl_frame.proofs.Scalars.{written_deep}
use Rattle.txt_core.specs.Knowing.{Holds}
use Rattle.tcl_varcmd.specs.Answers.{Answers, IfNoMemory}
use Rattle.tcl_varcmd.specs.Growing.{grown}
use Rattle.tcl_varcmd.specs.InPlace.{storing}
use Rattle.tcl_varcmd.proofs.InPlace.{value_written, came_of, came_in_place, kept_in_place, grown_in_place}
use Rattle.tcl_varcmd.proofs.scalar.grow.Goals as goal

pub grow_at-requires : goal.grow_at-requires
grow_at-requires c =
    subst (λ t. Holds c.args.known (t ++ c.args.more.now)) (ap value_there c.in-Some.ensures.value) c.requires

pub returns-in-Some-clause-came : goal.returns-in-Some-clause-came
returns-in-Some-clause-came c =
    let stack = c.args.frames.now in
    let name = c.args.name.now in
    let old = c.in-Some.place.now in
    let new = c.grow_at.new.place in
    let is = at_some c.scalar_mut.result c.in-Some.place (c.scalar_mut.follows.lender new ≡ written stack name new) c.in-Some.is (c.scalar_mut.follows.holds new) in
    let found = c.in-Some.ensures.value in
    let read : read_of stack name ≡ old = ap value_there found in
    subst (Answers (grown stack name c.args.more.now) c.grow_at.result) (sym is)
    (subst (λ came. Answers came c.grow_at.result (written stack name new))
    (ap (λ t. came_of stack name (storing (t ++ c.args.more.now))) (sym read)
    ∙ grown_in_place stack name c.args.more.now (value_written stack name old found))
    (came_in_place stack name old new (storing (old ++ c.args.more.now)) c.grow_at.result c.in-Some.ensures.same c.grow_at.ensures.came c.grow_at.ensures.left))

pub returns-in-Some-clause-kept : goal.returns-in-Some-clause-kept
returns-in-Some-clause-kept c =
    let stack = c.args.frames.now in
    let name = c.args.name.now in
    let new = c.grow_at.new.place in
    let is = at_some c.scalar_mut.result c.in-Some.place (c.scalar_mut.follows.lender new ≡ written stack name new) c.in-Some.is (c.scalar_mut.follows.holds new) in
    subst (λ s. IfNoMemory c.grow_at.result (s ≡ stack)) (sym is)
    (kept_in_place stack name c.in-Some.place.now new c.grow_at.result c.in-Some.ensures.same c.grow_at.ensures.left)

pub returns-in-Some-clause-depth : goal.returns-in-Some-clause-depth
returns-in-Some-clause-depth c =
    let stack = c.args.frames.now in
    let name = c.args.name.now in
    let new = c.grow_at.new.place in
    let is = at_some c.scalar_mut.result c.in-Some.place (c.scalar_mut.follows.lender new ≡ written stack name new) c.in-Some.is (c.scalar_mut.follows.holds new) in
    ap (λ s. length s.above) is ∙ written_deep stack name new
