use Rattle.std.proofs.Common.{◌∙◌, sym, refl, subst, Option, List, ℕ}
use Rattle.std.specs.Prelude.{codes}
use Rattle.tcl_frame.specs.Frames.{linked}
use Rattle.tcl_varcmd.specs.Answers.{Changes}
use Rattle.natives.specs.Answers.{Says}
use Rattle.txt_core.specs.ErrorTexts.{bad_value}
use Rattle.tcl_varcmd.specs.Errors.{global_error}
use Rattle.tcl_varcmd.proofs.Exits.{changes_said}
use Rattle.tcl_varcmd.proofs.Counts.{no_global, plain_global}
use Rattle.tcl_varcmd.proofs.names.link_name.Goals as goal

pub returns-then-is_element_name-clause-change : goal.returns-then-is_element_name-clause-change
returns-then-is_element_name-clause-change c =
    let stack = c.args.frames.now in let name = c.args.name.now in
    let says : Says (bad_value name (codes "global")) c.bad_value.result = subst (λ (t : List ℕ). Says (bad_value t (codes "global")) c.bad_value.result) c.bytes.ensures c.bad_value.ensures in
    changes_said (global_error stack name) (bad_value name (codes "global")) (linked stack name) stack stack c.bad_value.result
    (no_global stack name (sym c.is_element_name.ensures ∙ c.if-is_element_name.true)) says refl

pub returns-clause-change : goal.returns-clause-change
returns-clause-change c =
    let stack = c.args.frames.now in let name = c.args.name.now in
    subst (λ (e : Option (List ℕ)). Changes e (linked stack name) stack c.link.result c.link.new.frames) (plain_global stack name (sym c.is_element_name.ensures ∙ c.if-is_element_name.false)) c.link.ensures.change
