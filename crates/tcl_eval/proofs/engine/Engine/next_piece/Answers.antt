use Rattle.natives.specs.Names.{names_of}
use Rattle.tcl_eval.specs.Eval.{nested}
use Rattle.tcl_eval.specs.Stack.{stack_next}
use Rattle.tcl_eval.specs.Engine.{state_of}
use Rattle.tcl_eval.proofs.Steps.{no_piece_left, text_step, variable_step, element_step, nested_step}
use Rattle.tcl_eval.proofs.engine.Engine.next_piece.Goals as goal

pub returns-in_ok-kept_value-in-None-clause-means : goal.returns-in_ok-kept_value-in-None-clause-means
returns-in_ok-kept_value-in-None-clause-means g c = λ gv.
    let ns = names_of c.args.natives.now in
    let t = g.H.Host.table in
    let e = c.args.self.now in
    no_piece_left ns t c.args.place c.args.so_far c.in_ok-kept_value-in-None.field-0 (nested ns t c.args.levels) (stack_next ns t e.stack.items) (state_of e) e.budget gv c.in-None.ensures.found c.in_ok-kept_value-in-None.ensures

pub returns-in_ok-so_far-in-Some-Bytes-clause-means : goal.returns-in_ok-so_far-in-Some-Bytes-clause-means
returns-in_ok-so_far-in-Some-Bytes-clause-means g c = λ gv.
    let ns = names_of c.args.natives.now in
    let t = g.H.Host.table in
    let e = c.args.self.now in
    text_step ns t c.args.place _ _ _ c.args.so_far _ c.args.levels (stack_next ns t e.stack.items) (state_of e) e.budget gv (rw c.in-Some-Bytes.field-0-is at c.in-Some-Bytes.ensures.found) c.behind.ensures c.in_ok-so_far-in-Some-Bytes.ensures c.bytes.ensures

pub returns-in_ok-step-in-Some-Variable-clause-means : goal.returns-in_ok-step-in-Some-Variable-clause-means
returns-in_ok-step-in-Some-Variable-clause-means g c = λ gv.
    let ns = names_of c.args.natives.now in
    let t = g.H.Host.table in
    let e = c.args.self.now in
    variable_step ns t c.args.place _ _ _ c.args.so_far c.args.levels (stack_next ns t e.stack.items) (state_of e) e.budget gv _ (rw c.in-Some-Variable.field-0-is at c.in-Some-Variable.ensures.found) c.behind-in-Some-Variable.ensures c.in_ok-name-in-Some-Variable.ensures (c.in_ok-step-in-Some-Variable.ensures.means ns gv)

pub returns-in_ok-step-in-Some-Element-clause-means : goal.returns-in_ok-step-in-Some-Element-clause-means
returns-in_ok-step-in-Some-Element-clause-means g c = λ gv.
    let ns = names_of c.args.natives.now in
    let t = g.H.Host.table in
    let e = c.args.self.now in
    element_step ns t c.args.place _ _ c.args.so_far c.args.levels (stack_next ns t e.stack.items) (state_of e) e.budget gv _ (rw c.in-Some-Element.field-0-is at c.in-Some-Element.ensures.found) c.in_ok-array-in-Some-Element.ensures (c.in_ok-step-in-Some-Element.ensures.means ns gv)

pub returns-in_ok-step-in-Some-Bracket-clause-means : goal.returns-in_ok-step-in-Some-Bracket-clause-means
returns-in_ok-step-in-Some-Bracket-clause-means g c = λ gv.
    let ns = names_of c.args.natives.now in
    let t = g.H.Host.table in
    let e = c.args.self.now in
    nested_step ns t c.args.place _ _ c.args.so_far c.args.levels (stack_next ns t e.stack.items) (state_of e) e.budget gv _ (rw c.in-Some-Bracket.field-0-is at c.in-Some-Bracket.ensures.found) c.in_ok-script-in-Some-Bracket.ensures.cases (c.in_ok-step-in-Some-Bracket.ensures.means gv)
