use Rattle.std.proofs.Common.{sym, ap, ◌∙◌, ◌+◌, [], subst}
use Rattle.natives.specs.Names.{names_of}
use Rattle.ictl.specs.Interps.{goes_to, IsWithin, interp_written}
use Rattle.ictl.specs.Steps.{cut_stop}
use Rattle.ictl.specs.declared.running.Stop.{Stop}
use Rattle.ictl.specs.declared.ending.Ending.TheVariants as endings
use Rattle.ictl.proofs.Cuts.{cut_gives}
use Rattle.ictl.proofs.Interpreters.{ok_same, script_asks, script_stands, script_falls}
use Rattle.ictl.proofs.Withins.{deep_written, err_same, rest_within, spent_written, wants}
use Rattle.ictl.proofs.interp.Interp.stopped.Goals as goal

pub returns-in-Asks-clause-gives : goal.returns-in-Asks-clause-gives
returns-in-Asks-clause-gives g c = λ inside further.
    script_asks (names_of c.args.natives.now) c.args.stop c.in-Asks.question c.args.self.now inside c.args.steps.now further c.requires.script c.in-Asks.is

pub returns-in-Asks-clause-next : goal.returns-in-Asks-clause-next
returns-in-Asks-clause-next g c = let at = rw c.in-Asks.is at c.requires.at in script_stands c.args.self.now.task c.args.self.now.settling c.requires.script at

pub returns-in-Asks-clause-falls : goal.returns-in-Asks-clause-falls
returns-in-Asks-clause-falls g c = λ before fell. let less = rw c.in-Asks.is at fell in script_falls c.args.self.now.task c.args.self.now.settling before c.requires.script less

pub returns-in-Spent-clause-gives : goal.returns-in-Spent-clause-gives
returns-in-Spent-clause-gives g c =
    let names = names_of c.args.natives.now in
    ok_same c.cut.result _ _ (λ step h inside further. cut_gives names c.args.stop (cut_stop endings.Spent) c.args.self.now c.cut.new.self step inside c.args.steps.now further c.cut.ensures.rest c.in-Spent.is h)
    (c.cut.ensures.gives names)

pub returns-in-TooDeep-clause-gives : goal.returns-in-TooDeep-clause-gives
returns-in-TooDeep-clause-gives g c =
    let names = names_of c.args.natives.now in
    ok_same c.cut-in-TooDeep.result _ _ (λ step h inside further. cut_gives names c.args.stop (cut_stop endings.TooDeep) c.args.self.now c.cut-in-TooDeep.new.self step inside c.args.steps.now further c.cut-in-TooDeep.ensures.rest c.in-TooDeep.is h)
    (c.cut-in-TooDeep.ensures.gives names)

pub returns-in-Spent-clause-most : goal.returns-in-Spent-clause-most
returns-in-Spent-clause-most g c =
    let names = names_of c.args.natives.now in
    let old = c.args.self.now in
    let none = rw c.in-Spent.is at c.requires.at in
    wants c.cut.result _ (λ inside. subst (IsWithin (inside + interp_written names old) c.args.steps.now c.args.steps.now c.cut.new.self)
    (sym (ap (λ (t : Stop). goes_to names t inside old []) c.in-Spent.is))
    (rest_within names old c.cut.new.self inside c.args.steps.now _ none c.cut.ensures.rest (spent_written c.made_grows.ensures names old inside)))

pub returns-in-TooDeep-clause-most : goal.returns-in-TooDeep-clause-most
returns-in-TooDeep-clause-most g c =
    let names = names_of c.args.natives.now in
    let old = c.args.self.now in
    let none = rw c.in-TooDeep.is at c.requires.at in
    wants c.cut-in-TooDeep.result _ (λ inside. subst (IsWithin (inside + interp_written names old) c.args.steps.now c.args.steps.now c.cut-in-TooDeep.new.self)
    (sym (ap (λ (t : Stop). goes_to names t inside old []) c.in-TooDeep.is))
    (rest_within names old c.cut-in-TooDeep.new.self inside c.args.steps.now _ none c.cut-in-TooDeep.ensures.rest (deep_written c.made_grows.ensures names old inside)))

pub returns-in-Ended-clause-gives : goal.returns-in-Ended-clause-gives
returns-in-Ended-clause-gives g c =
    ok_same c.ended.result _ _
    (λ step h inside further. h inside further ∙ sym (ap (λ (t : Stop). goes_to (names_of c.args.natives.now) t inside c.args.self.now further) c.in-Ended.is))
    c.ended.ensures.gives

pub returns-in-Ended-clause-falls : goal.returns-in-Ended-clause-falls
returns-in-Ended-clause-falls g c =
    ok_same c.ended.result _ _ (λ step h before fell. let less = rw c.in-Ended.is at fell in h before less) c.ended.ensures.falls

pub returns-in-Ended-clause-most : goal.returns-in-Ended-clause-most
returns-in-Ended-clause-most g c =
    let names = names_of c.args.natives.now in
    let old = c.args.self.now in
    err_same c.ended.result _ _
    (λ h inside. subst (IsWithin (inside + interp_written names old) c.args.steps.now c.ended.new.steps c.ended.new.self)
    (sym (ap (λ (t : Stop). goes_to names t inside old []) c.in-Ended.is)) (h inside))
    c.ended.ensures.most
