use Rattle.std.proofs.Common.{◌∙◌, ◌+◌, ℕ, List, Some, None, Err, drop, ap, sym, codes}
use Rattle.txt_core.specs.ErrorTexts.{bad_value}
use Rattle.tcl_eval.specs.declared.parameter.Parameter.{Parameter}
use Rattle.tcl_eval.specs.Parameters.{read_all}
use Rattle.tcl_eval.specs.ParametersSeen.{in_front}
use Rattle.tcl_eval.proofs.Parameters.{from_here, one_more}
use Rattle.tcl_eval.proofs.parameter.read_all.Goals as goal

pub returns-in-None : goal.returns-in-None
returns-in-None c =
    let left = from_here c.args.texts.now c.texts.text-index c.text-item.result None c.texts-test.true c.text-item.is (sym c.in-None.is ∙ c.in_ok-read_parameter.ensures) in
    let said = c.in_ok-bad_value-in-None.ensures ∙ ap (λ (t : List ℕ). bad_value t (codes "proc")) c.bytes.ensures in
    c.texts.invariant ∙ ap (in_front c.texts.all.items) left ∙ ap Err (sym said)

pub texts-preserved : goal.texts-preserved
texts-preserved c =
    let left = from_here c.args.texts.now c.texts.text-index c.text-item.result (Some c.in-Some.next) c.texts-test.true c.text-item.is (sym c.in-Some.is ∙ c.in_ok-read_parameter.ensures) in
    let rest = read_all (drop (c.texts.text-index + 1) c.args.texts.now) in
    c.texts.invariant ∙ ap (in_front c.texts.all.items) left ∙ one_more c.texts.all.items c.in-Some.next rest ∙ ap (λ (l : List Parameter). in_front l rest) (sym c.in_ok-push-in-Some.ensures.items)
