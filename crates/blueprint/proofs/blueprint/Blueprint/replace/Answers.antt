use Rattle.std.proofs.Common.{◌≡◌, ◌≤◌, ◌+◌, [], length, refl, rules, ◌∙◌, arith}
use Rattle.cmd_table.specs.Commands.{Commands}
use Rattle.blueprint.specs.States.{last_epoch}
use Rattle.blueprint.specs.Kept.{AreCommands}
use Rattle.blueprint.proofs.Keeping.{keeps_saved, saves, save_refused, names_new}
use Rattle.blueprint.proofs.blueprint.Blueprint.replace.Goals as goal

pub invariant_of-self : goal.invariant_of-self
invariant_of-self c =
    let a = c.self.inside in
    let k = c.self.invariant in
    let names : AreCommands c.in-Ok.names.slots (Commands a.natives []) = names_new a.natives c.as_slice.result.now c.in-Ok.names.slots (c.as_slice.ensures ∙ k.built_ins) c.in-Ok.ensures in
    let ok = c.in-Ok-check.ensures.answer a.natives [] names refl refl in
    let most : a.base + c.len.result ≤ last_epoch = omega (arith, c.len.ensures, k.allowed.last) in
    keeps_saved a.natives a.built c.check.new.names.slots c.args.defs _ c.in-Ok-check.after.count c.in-Ok-check.after.size (a.base + c.len.result) c.in-Ok-check.after.epoch
    k.built_ins (search rules) ok.1 most ok.0 (c.in-Ok-check.ensures.made a.natives [] names) ok.2 ok.3

pub returns-in-Err-clause-answer : goal.returns-in-Err-clause-answer
returns-in-Err-clause-answer c =
    let a = c.self.inside in
    let k = c.self.invariant in
    let names : AreCommands c.in-Ok.names.slots (Commands a.natives []) = names_new a.natives c.as_slice.result.now c.in-Ok.names.slots (c.as_slice.ensures ∙ k.built_ins) c.in-Ok.ensures in
    let at : a.base + c.len.result ≡ a.base + length a.later.items = omega (arith, c.len.ensures) in
    save_refused a.natives a.base a.saved c.args.defs a.later.items c.args.self.now (a.base + c.len.result) c.in-Err.refusal c.self.view_is at (c.in-Err.ensures.answer a.natives [] names refl refl)

pub returns-in-Ok-check-clause-answer : goal.returns-in-Ok-check-clause-answer
returns-in-Ok-check-clause-answer c =
    let a = c.self.inside in
    let k = c.self.invariant in
    let names : AreCommands c.in-Ok.names.slots (Commands a.natives []) = names_new a.natives c.as_slice.result.now c.in-Ok.names.slots (c.as_slice.ensures ∙ k.built_ins) c.in-Ok.ensures in
    let ok = c.in-Ok-check.ensures.answer a.natives [] names refl refl in
    let at : a.base + c.len.result ≡ a.base + length a.later.items = omega (arith, c.len.ensures) in
    saves a.natives a.base a.saved c.args.defs a.later.items _ c.args.self.now (a.base + c.len.result) c.in-Ok-check.after.epoch c.self.view_is (search rules) at ok.1 ok.0

pub returns-in-Ok-check-clause-allowed : goal.returns-in-Ok-check-clause-allowed
returns-in-Ok-check-clause-allowed c = (invariant_of-self c).allowed
