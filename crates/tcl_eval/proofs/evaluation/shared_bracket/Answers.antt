use Rattle.std.proofs.Common.{◌∙◌, ap, sym}
use Rattle.tcl_parse.specs.Tree.{bracket, no_parts, part}
use Rattle.tcl_parse.specs.declared.tree.Script.{Script}
use Rattle.tcl_eval.specs.Places.{tree_of}
use Rattle.tcl_eval.proofs.evaluation.shared_bracket.Goals as goal

pub returns-in_ok-script-in-Some : goal.returns-in_ok-script-in-Some
returns-in_ok-script-in-Some c =
    c.in-Some.ensures ∙ ap (λ (s : Script). part (bracket (tree_of s)) no_parts) (sym c.in_ok-script-in-Some.ensures.cases)
