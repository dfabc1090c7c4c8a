use Rattle.std.proofs.Common.{◌∙◌, ◌-◌, suc, length, ap}
use Rattle.natives.specs.Names.{names_of}
use Rattle.tcl_eval.specs.Eval.{command_end, nested, run_words}
use Rattle.tcl_eval.specs.Places.{words_from}
use Rattle.tcl_eval.specs.Engine.{state_of}
use Rattle.tcl_eval.specs.declared.engine.Engine.{Engine}
use Rattle.tcl_eval.proofs.Choices.{if_paid, paid_back}
use Rattle.tcl_eval.proofs.engine.Engine.pay_if.Goals as goal

pub returns-in-Spent-clause-means : goal.returns-in-Spent-clause-means
returns-in-Spent-clause-means g c = λ levels ws called none k gv.
    let ns = names_of c.args.natives.now in
    let t = g.H.Host.table in
    let e = c.args.self.now in
    let did = rw (c.in-Spent.is, c.words.ensures) at c.in_ok-if_once.ensures.means in
    if_paid ns t (nested ns t (suc levels)) c.args.values (words_from (length c.args.values) ws) k (state_of e) e.budget c.args.cost gv _ called c.requires.costs c.requires.enough none
    (did levels (command_end k) gv)

pub returns-in_ok-tried-in-Gives-clause-means : goal.returns-in_ok-tried-in-Gives-clause-means
returns-in_ok-tried-in-Gives-clause-means g c = λ levels ws called none k gv.
    let ns = names_of c.args.natives.now in
    let t = g.H.Host.table in
    let e = c.args.self.now in
    let inner = nested ns t (suc levels) in
    let did = rw (c.in-Gives.is, c.words.ensures) at c.in_ok-if_once.ensures.means in
    if_paid ns t inner c.args.values (words_from (length c.args.values) ws) k (state_of e) e.budget c.args.cost gv _ called c.requires.costs c.requires.enough none
    (c.in_ok-tried-in-Gives.ensures.means ns inner ws k gv ∙ did levels (command_end k) gv)

pub returns-in-Left-clause-means : goal.returns-in-Left-clause-means
returns-in-Left-clause-means g c = λ levels ws called none k gv.
    let ns = names_of c.args.natives.now in
    let t = g.H.Host.table in
    let did = rw c.in-Left.is at c.in_ok-if_once.ensures.means in
    let e = c.args.self.now in
    let back = paid_back c.if_once.new.self e (e.budget - c.args.cost) (did levels) in
    ap (λ (x : Engine g.row.H.Denot). run_words ns t (nested ns t (suc levels)) (words_from (length c.args.values) ws) c.args.values k (state_of x) e.budget gv) back
