use Rattle.std.proofs.Common.{◌≡◌, ◌∙◌, sym, ap, subst, length}
use Rattle.tcl_frame.specs.Meaning.{value_there}
use Rattle.tcl_frame.specs.Frames.{read_of, written}
use Rattle.tcl_frame.proofs.Tables.{at_some}
use Rattle.tcl_frame.proofs.Scalars.{written_deep}
use Rattle.std.specs.Option.{option_copied}
use Rattle.tcl_varcmd.specs.Answers.{Answers, IfNoMemory}
use Rattle.tcl_varcmd.specs.Scalars.{incr_by}
use Rattle.tcl_varcmd.specs.InPlace.{adding}
use Rattle.tcl_varcmd.proofs.InPlace.{value_read, value_written, came_of, came_in_place, kept_in_place, added_in_place}
use Rattle.tcl_varcmd.proofs.scalar.add.Goals as goal

pub returns-in-Some-clause-came : goal.returns-in-Some-clause-came
returns-in-Some-clause-came c =
    let stack = c.args.frames.now in
    let name = c.args.name.now in
    let old = c.in-Some.place.now in
    let new = c.add_at.new.place in
    let is = at_some c.scalar_mut.result c.in-Some.place (c.scalar_mut.follows.lender new ≡ written stack name new) c.in-Some.is (c.scalar_mut.follows.holds new) in
    let found = c.in-Some.ensures.value in
    let read : read_of stack name ≡ old = ap value_there found in
    subst (Answers (incr_by stack name (option_copied c.args.n)) c.add_at.result) (sym is)
    (subst (λ came. Answers came c.add_at.result (written stack name new))
    (ap (λ t. came_of stack name (adding t (option_copied c.args.n))) (sym read)
    ∙ added_in_place stack name (option_copied c.args.n) (value_read stack name old found) (value_written stack name old found))
    (came_in_place stack name old new (adding old (option_copied c.args.n)) c.add_at.result c.in-Some.ensures.same c.add_at.ensures.came c.add_at.ensures.left))

pub returns-in-Some-clause-kept : goal.returns-in-Some-clause-kept
returns-in-Some-clause-kept c =
    let stack = c.args.frames.now in
    let name = c.args.name.now in
    let new = c.add_at.new.place in
    let is = at_some c.scalar_mut.result c.in-Some.place (c.scalar_mut.follows.lender new ≡ written stack name new) c.in-Some.is (c.scalar_mut.follows.holds new) in
    subst (λ s. IfNoMemory c.add_at.result (s ≡ stack)) (sym is)
    (kept_in_place stack name c.in-Some.place.now new c.add_at.result c.in-Some.ensures.same c.add_at.ensures.left)

pub returns-in-Some-clause-depth : goal.returns-in-Some-clause-depth
returns-in-Some-clause-depth c =
    let stack = c.args.frames.now in
    let name = c.args.name.now in
    let new = c.add_at.new.place in
    let is = at_some c.scalar_mut.result c.in-Some.place (c.scalar_mut.follows.lender new ≡ written stack name new) c.in-Some.is (c.scalar_mut.follows.holds new) in
    ap (λ s. length s.above) is ∙ written_deep stack name new
