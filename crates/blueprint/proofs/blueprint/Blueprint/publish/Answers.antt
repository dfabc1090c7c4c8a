use Rattle.std.proofs.Common.{◌≡◌, ◌+◌, List, [], ◌∷◌, ◌++◌, length, ap, ◌∙◌, arith}
use Rattle.cmd_table.specs.declared.definition.Def.{Def}
use Rattle.blueprint.specs.declared.names.Row.{Row}
use Rattle.blueprint.specs.Kept.{is_there, undone, all_of}
use Rattle.blueprint.proofs.Keeping.{keeps_published, keeps_names, publishes, publish_refused}
use Rattle.blueprint.proofs.blueprint.Blueprint.publish.Goals as goal

pub invariant_of-self-in-Err-1 : goal.invariant_of-self-in-Err-1
invariant_of-self-in-Err-1 c =
    let a = c.self.inside in
    keeps_names a.natives a.built a.names.slots c.take_back.new.self.slots a.base a.saved a.later.items c.reserve.new.self.items a.count a.size c.self.invariant c.reserve.ensures.items
    (λ q. c.take_back.ensures q ∙ c.check.ensures.past q ∙ ap (λ (rows : List Row). undone rows (is_there a.names.slots) q) c.new-journal.ensures.items ∙ c.self.invariant.names q)

pub invariant_of-self-in-Ok-1 : goal.invariant_of-self-in-Ok-1
invariant_of-self-in-Ok-1 c =
    let a = c.self.inside in
    let k = c.self.invariant in
    let before = a.saved ++ all_of a.later.items in
    let ok = c.in-Ok.ensures.answer a.natives before k.names k.counted k.sized in
    let more : c.push_reserved.new.self.items ≡ a.later.items ++ c.args.defs ∷ [] = c.push_reserved.ensures.items ∙ ap (λ (ls : List (List Def)). ls ++ c.args.defs ∷ []) c.reserve.ensures.items in
    let at : a.base + c.len.result ≡ a.base + length a.later.items = omega (arith, c.len.ensures) in
    keeps_published a.natives a.built a.names.slots c.check.new.names.slots a.base a.saved c.args.defs a.later.items c.push_reserved.new.self.items a.count a.size c.in-Ok.after.count c.in-Ok.after.size (a.base + c.len.result) c.in-Ok.after.epoch
    k more at ok.0 (c.in-Ok.ensures.made a.natives before k.names) ok.2 ok.3

pub returns-in-Err-clause-answer : goal.returns-in-Err-clause-answer
returns-in-Err-clause-answer c =
    let a = c.self.inside in
    let k = c.self.invariant in
    let before = a.saved ++ all_of a.later.items in
    let at : a.base + c.len.result ≡ a.base + length a.later.items = omega (arith, c.len.ensures) in
    publish_refused a.natives a.base a.saved c.args.defs a.later.items c.reserve.new.self.items c.args.self.now (a.base + c.len.result) c.in-Err.refusal c.self.view_is c.reserve.ensures.items at
    (c.in-Err.ensures.answer a.natives before k.names k.counted k.sized)

pub returns-in-Ok-clause-answer : goal.returns-in-Ok-clause-answer
returns-in-Ok-clause-answer c =
    let a = c.self.inside in
    let k = c.self.invariant in
    let before = a.saved ++ all_of a.later.items in
    let ok = c.in-Ok.ensures.answer a.natives before k.names k.counted k.sized in
    let more : c.push_reserved.new.self.items ≡ a.later.items ++ c.args.defs ∷ [] = c.push_reserved.ensures.items ∙ ap (λ (ls : List (List Def)). ls ++ c.args.defs ∷ []) c.reserve.ensures.items in
    let at : a.base + c.len.result ≡ a.base + length a.later.items = omega (arith, c.len.ensures) in
    publishes a.natives a.base a.saved c.args.defs a.later.items c.push_reserved.new.self.items c.args.self.now (a.base + c.len.result) c.in-Ok.after.epoch c.self.view_is more at ok.0

pub returns-in-Ok-clause-allowed : goal.returns-in-Ok-clause-allowed
returns-in-Ok-clause-allowed c = (invariant_of-self-in-Ok-1 c).allowed
