use Rattle.std.proofs.Common.{◌≡◌, ◌-◌, suc, refl, arith}
use Rattle.ictl.proofs.Definings.{spent_stops, deep_stops, ended_stops, inner_stops, asks_stops}
use Rattle.ictl.proofs.defining.DefineRun.stop.Goals as goal

pub returns-in-Spent-clause-gives : goal.returns-in-Spent-clause-gives
returns-in-Spent-clause-gives c = λ names bp m further. spent_stops names bp m c.args.run.now c.args.self.now.questions c.args.stop further c.in-Spent.is

pub returns-in-TooDeep-clause-gives : goal.returns-in-TooDeep-clause-gives
returns-in-TooDeep-clause-gives c = λ names bp m further. deep_stops names bp m c.args.run.now c.args.self.now.questions c.args.stop further c.in-TooDeep.is

pub returns-in_ok-last-in-Ended-clause-gives : goal.returns-in_ok-last-in-Ended-clause-gives
returns-in_ok-last-in-Ended-clause-gives c = λ names bp m further.
    ended_stops names bp m c.args.run.now c.args.self.now.questions c.args.stop c.in-Ended.code c.in-Ended.result further _ c.in-Ended.is (c.in_ok-last-in-Ended.ensures.gives names bp m further)

pub returns-in-Inner-clause-gives : goal.returns-in-Inner-clause-gives
returns-in-Inner-clause-gives c = λ names bp m further.
    let q = c.args.self.now.questions in
    let enough = rw c.in-Asks.is at c.requires.suffices in
    let one : q ≡ suc (q - 1) = omega (arith, enough) in
    inner_stops names bp m c.args.run.now q c.args.stop c.in-Asks.question (q - 1) further c.in-Asks.is one c.in-Inner.is

pub returns-in_default-clause-gives : goal.returns-in_default-clause-gives
returns-in_default-clause-gives c = λ names bp m further.
    let q = c.args.self.now.questions in
    let enough = rw c.in-Asks.is at c.requires.suffices in
    let one : q ≡ suc (q - 1) = omega (arith, enough) in
    asks_stops names bp m c.args.run.now q c.args.stop c.in-Asks.question (q - 1) (record c.args.self.now { questions = q - 1 }) further c.in-Asks.is one c.in_default.not-Inner refl c.requires.value
