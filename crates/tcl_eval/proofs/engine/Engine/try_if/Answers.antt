use Rattle.std.proofs.Common.{◌≡◌, ◌-◌, suc, length, arith}
use Rattle.natives.specs.Names.{names_of}
use Rattle.tcl_eval.specs.Places.{words_from}
use Rattle.tcl_eval.proofs.Choices.{if_levels}
use Rattle.tcl_eval.proofs.engine.Engine.try_if.Goals as goal

pub returns-clause-means : goal.returns-clause-means
returns-clause-means g c = λ ws none.
    let ns = names_of c.args.natives.now in
    let t = g.H.Host.table in
    let values = c.args.values in
    let l : c.args.levels ≡ suc (c.args.levels - 1) = omega arith in
    let own = rw c.words.ensures at (c.is_if.ensures.own c.if-not-is_if.false) in
    let named = rw c.words.ensures at (c.is_if.ensures.named c.if-not-is_if.false) in
    if_levels ns t c.pay_if.new.self c.args.self.now c.in_ok-tried.tried ws (words_from (length values) ws) values c.args.levels (c.args.levels - 1) l (c.in_ok-tried.ensures.means (c.args.levels - 1) ws (own, named) none)
