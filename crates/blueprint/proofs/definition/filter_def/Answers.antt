use Rattle.std.proofs.Common.{◌≡◌, ◌≤◌, List, ℕ, Some, Option, length, sym, ap, ◌∙◌, subst, arith}
use Rattle.std.specs.Prelude.{IfOk}
use Rattle.std.proofs.lemmas.List.{take_rest}
use Rattle.cmd_table.specs.declared.definition.Def.{Def}
use Rattle.blueprint.specs.Reading.{stage_named, filter_at}
use Rattle.blueprint.proofs.Words.{filter_words}
use Rattle.blueprint.proofs.definition.filter_def.Goals as goal

pub returns-in-Some : goal.returns-in-Some
returns-in-Some c =
    let four : 4 ≤ length c.args.words.now = omega arith in
    let stage : stage_named c.index-words-0.result ≡ Some c.in-Some.when = sym (c.stage_named.ensures ∙ ap stage_named c.bytes.ensures) ∙ c.in-Some.is in
    subst (λ (x : Option Def). IfOk c.filter_at.result (λ def. def ≡ x))
    (ap (λ (ws : List (List ℕ)). filter_at (Some c.in-Some.when) c.index-words-1.result c.index-words-2.result ws) (take_rest c.args.words.now 3)
    ∙ filter_words c.args.words.now c.index-words-0.result c.index-words-1.result c.index-words-2.result c.in-Some.when four c.index-words-0.is c.index-words-1.is c.index-words-2.is stage) c.filter_at.ensures
