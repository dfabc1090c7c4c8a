use Rattle.std.proofs.Common.{◌∙◌, refl, sym, ap, subst, Ok, Err}
use Rattle.std.specs.Option.{option_copied}
use Rattle.std.proofs.lemmas.Result.{err_from_is_err_and}
use Rattle.tcl_frame.specs.Frames.{written}
use Rattle.tcl_varcmd.specs.Answers.{Answers}
use Rattle.tcl_varcmd.specs.Errors.{write_error}
use Rattle.tcl_varcmd.specs.Scalars.{incr_by}
use Rattle.tcl_varcmd.specs.InPlace.{adding}
use Rattle.tcl_varcmd.proofs.Making.{no_error}
use Rattle.tcl_varcmd.proofs.InPlace.{readable, came_of, came_ok, came_err, added_in_place}
use Rattle.tcl_varcmd.proofs.scalar.add_apart.Goals as goal

pub returns-in_err-total-clause-came : goal.returns-in_err-total-clause-came
returns-in_err-total-clause-came c =
    let stack = c.args.frames.now in
    let name = c.args.name.now in
    let n = option_copied c.args.n in
    let read = c.in_ok-value.ensures.0 in
    let is = ap (λ t. adding t n) c.in_ok-value.ensures.1 in
    let p = err_from_is_err_and c.from_residual-in_err-total.result c.from_residual-in_err-total.ensures.1 in
    rw (p.1, p.2) (subst (λ came. Answers came (Err c.in_err-total.field-0.0) stack) (ap (came_of stack name) is ∙ added_in_place stack name n read (readable stack name read))
    (came_err stack stack name (adding c.in_ok-value.value n) c.in_err-total.field-0.0 c.in_err-total.ensures.came refl))

pub returns-in_err-write-clause-came : goal.returns-in_err-write-clause-came
returns-in_err-write-clause-came c =
    let stack = c.args.frames.now in
    let name = c.args.name.now in
    let p = err_from_is_err_and c.from_residual-in_err-write.result c.from_residual-in_err-write.ensures.1 in
    rw (p.1, p.2) (no_error (write_error stack name) (written stack name c.add_at.new.place) stack c.write.new.frames (incr_by stack name (option_copied c.args.n)) c.in_err-write.field-0.0
    (readable stack name c.in_ok-value.ensures.0) c.in_err-write.ensures.change)

pub returns-clause-came : goal.returns-clause-came
returns-clause-came c =
    let stack = c.args.frames.now in
    let name = c.args.name.now in
    let n = option_copied c.args.n in
    let read = c.in_ok-value.ensures.0 in
    let is = ap (λ t. adding t n) c.in_ok-value.ensures.1 in
    subst (λ came. Answers came (Ok c.in_ok-total.total) c.write.new.frames) (ap (came_of stack name) is ∙ added_in_place stack name n read (readable stack name read))
    (subst (Answers (came_of stack name (adding c.in_ok-value.value n)) (Ok c.in_ok-total.total)) (sym c.in_ok-write.ensures.change.1)
    (came_ok stack name c.in_ok-total.total c.add_at.new.place (adding c.in_ok-value.value n) c.in_ok-total.ensures.came c.in_ok-total.ensures.left))
