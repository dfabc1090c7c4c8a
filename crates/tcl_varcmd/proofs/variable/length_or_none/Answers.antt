use Rattle.std.proofs.Common.{◌≡◌, ◌∙◌, ap, List, ℕ, length, Ok, Err, Bor}
use Rattle.std.proofs.lemmas.Result.{err_from_is_err_and}
use Rattle.tcl_frame.specs.Names.{named}
use Rattle.tcl_frame.specs.Meaning.{value_there}
use Rattle.tcl_frame.specs.Frames.{read_of, found_in}
use Rattle.tcl_varcmd.specs.Errors.{refused, write_error}
use Rattle.tcl_varcmd.proofs.Exits.{tried_other}
use Rattle.tcl_varcmd.proofs.Faults.{writable_read, or_empty_read}
use Rattle.tcl_varcmd.proofs.variable.length_or_none.Goals as goal

pub returns-in-Ok : goal.returns-in-Ok
unfolding write_error
returns-in-Ok c =
    let found = found_in c.args.frames.now (named c.args.name.now) in
    (ap (refused c.args.name.now) (writable_read found c.in-Ok.ensures.refused), c.len.ensures ∙ ap length c.in-Ok.ensures.value)

pub returns-in_ok-empty-in-Err : goal.returns-in_ok-empty-in-Err
unfolding write_error
returns-in_ok-empty-in-Err c =
    let found = found_in c.args.frames.now (named c.args.name.now) in
    let is = or_empty_read (Bor (List ℕ)) c.args.name.now found c.in-Err.fault (Ok c.in_ok-empty-in-Err.empty) c.in-Err.ensures.refused c.in_ok-empty-in-Err.ensures in
    (is.0, c.len-in-Err.ensures ∙ ap length is.1)

pub returns-in_err-empty-in-Err : goal.returns-in_err-empty-in-Err
unfolding write_error
returns-in_err-empty-in-Err c =
    let found = found_in c.args.frames.now (named c.args.name.now) in
    let p = err_from_is_err_and c.from_residual.result c.from_residual.ensures.1 in
    rw (p.1, p.2) (tried_other (λ (value : List ℕ). value ≡ value_there found) (λ (count : ℕ). count ≡ length (read_of c.args.frames.now c.args.name.now)) (write_error c.args.frames.now c.args.name.now) c.in_err-empty-in-Err.field-0.0
    (or_empty_read (Bor (List ℕ)) c.args.name.now found c.in-Err.fault (Err c.in_err-empty-in-Err.field-0.0) c.in-Err.ensures.refused c.in_err-empty-in-Err.ensures))
