use Rattle.std.proofs.Common.{◌∙◌, ap, sym, map, List, ℕ, Result}
use Rattle.txt_core.specs.Quoting.{quoting}
use Rattle.tcl_eval.specs.declared.parameter.Parameter.{Parameter}
use Rattle.tcl_eval.specs.Results.{ended}
use Rattle.tcl_eval.specs.Info.{names_said}
use Rattle.tcl_eval.proofs.info.names_said.Goals as goal

pub returns-in_ok-quote-in-Ok : goal.returns-in_ok-quote-in-Ok
returns-in_ok-quote-in-Ok c =
    let meant = rw c.in-Ok.is at c.in_ok-message.ensures in
    ap (λ (x : List ℕ). ended 0 x) (c.in_ok-quote-in-Ok.ensures ∙ ap (λ (x : List (List ℕ)). quoting x) (c.in_ok-names_of-in-Ok.ensures ∙ ap (λ (ps : List Parameter). map (λ (p : Parameter). p.name) ps) c.as_slice.ensures.value))
    ∙ sym (ap (λ (r : Result (List Parameter) (List ℕ)). names_said r) meant)
