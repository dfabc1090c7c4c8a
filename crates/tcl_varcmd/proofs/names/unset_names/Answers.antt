use Rattle.std.proofs.Common.{◌≡◌, ◌∷◌, ◌+◌, ◌≤◌, ℕ, List, [], None, Err, drop, length, sym, ap, subst, ◌∙◌}
use Rattle.std.specs.Vec.{vec_capacity}
use Rattle.tcl_frame.specs.Stack.{Stack}
use Rattle.tcl_frame.specs.Frames.{removed, remove_fault}
use Rattle.tcl_varcmd.specs.Answers.{Answers, unless}
use Rattle.tcl_varcmd.specs.Errors.{refused, remove_error}
use Rattle.tcl_varcmd.specs.Scalars.{unset_all}
use Rattle.tcl_varcmd.proofs.Exits.{answers_unchanged}
use Rattle.tcl_varcmd.proofs.Faults.{changes_refused}
use Rattle.tcl_varcmd.proofs.Linking.{get_or_any, drop_item}
use Rattle.tcl_varcmd.proofs.names.unset_names.Goals as goal

pub refusal_within-requires : goal.refusal_within-requires
refusal_within-requires c =
    let name = c.name-item.result in
    record {
      empty = c.in_ok-room.ensures.empty;
      room =
          subst (λ (n : List ℕ). length n + 32 ≤ vec_capacity c.in_ok-room.room)
          (sym (c.name-item.is ∙ get_or_any c.args.names.now c.names.name-index name [] c.names-test.true))
          (c.in_ok-room.ensures.room c.names.name-index c.names-test.true);
      fault = c.in-Err.ensures.memory;
    }

pub returns-in-Err-clause-came : goal.returns-in-Err-clause-came
unfolding remove_error
returns-in-Err-clause-came c =
    let stack = c.names.frames in
    let name = c.name-item.result in
    let rest = drop (c.names.name-index + 1) c.args.names.now in
    let new = c.remove.new.self in
    subst (λ came. Answers came (Err c.refusal_within.result) new)
    (ap (unset_all stack) (sym (drop_item c.args.names.now c.names.name-index name c.name-item.is c.names-test.true)) ∙ c.names.invariant.0)
    (answers_unchanged (remove_error stack name) stack (removed stack name) new (unset_all (removed stack name) rest) c.refusal_within.result
    (changes_refused (Unit {0}) name (remove_fault stack name) c.in-Err.fault c.refusal_within.result (removed stack name) stack new c.in-Err.ensures.refused c.refusal_within.ensures.text c.in-Err.ensures.err))

pub names-preserved : goal.names-preserved
unfolding remove_error
names-preserved c =
    let stack = c.names.frames in
    let name = c.name-item.result in
    let rest = drop (c.names.name-index + 1) c.args.names.now in
    let none : remove_error stack name ≡ None = ap (refused name) c.in_default.ensures.refused in (
      ap (λ (s : Stack). unset_all s rest) c.in_default.ensures.ok
          ∙ sym (ap (λ e. unless e stack (unset_all (removed stack name) rest)) none)
          ∙ ap (unset_all stack) (sym (drop_item c.args.names.now c.names.name-index name c.name-item.is c.names-test.true))
          ∙ c.names.invariant.0,
      c.in_default.ensures.depth ∙ c.names.invariant.1,
    )
