use Rattle.std.proofs.Common.{◌∙◌, ap, sym}
use Rattle.tcl_eval.specs.Eval.{give}
use Rattle.tcl_eval.specs.Stack.{stack_next}
use Rattle.tcl_eval.specs.Engine.{state_of}
use Rattle.tcl_eval.specs.declared.engine.Engine.{Engine}
use Rattle.tcl_eval.proofs.Acts.{rename_without_old, rename_with_new}
use Rattle.tcl_eval.proofs.engine.Engine.do_rename.Goals as goal

pub returns-in-NoOld-clause-means : goal.returns-in-NoOld-clause-means
returns-in-NoOld-clause-means g c = λ ns gv.
    let e = c.args.self.now in
    let t = g.H.Host.table in
    let made = rw c.in-NoOld.is at c.in_ok-make_rename.ensures.made in
    ap (λ (x : Engine g.row.H.Denot). give c.in_ok-refused-in-NoOld.refused (stack_next ns t x.stack.items) (state_of x) x.budget gv) made
    ∙ rename_without_old c.args.words.now c.in_ok-old.old c.in_ok-new.new _ _ _ c.make_rename.new.self.table.table (stack_next ns t e.stack.items) (state_of e) e.budget gv (sym c.len.ensures ∙ c.if-len-ne3.false) c.in_ok-old.ensures c.in_ok-new.ensures (sym c.in-NoOld.is ∙ c.in_ok-make_rename.ensures.answer) c.in_ok-make_rename.ensures.table c.bytes.ensures c.in_ok-no_command-in-NoOld.ensures c.in_ok-refused-in-NoOld.ensures

pub returns-in-NewExists-clause-means : goal.returns-in-NewExists-clause-means
returns-in-NewExists-clause-means g c = λ ns gv.
    let e = c.args.self.now in
    let t = g.H.Host.table in
    let made = rw c.in-NewExists.is at c.in_ok-make_rename.ensures.made in
    ap (λ (x : Engine g.row.H.Denot). give c.in_ok-refused-in-NewExists.refused (stack_next ns t x.stack.items) (state_of x) x.budget gv) made
    ∙ rename_with_new c.args.words.now c.in_ok-old.old c.in_ok-new.new _ _ _ c.make_rename.new.self.table.table (stack_next ns t e.stack.items) (state_of e) e.budget gv (sym c.len.ensures ∙ c.if-len-ne3.false) c.in_ok-old.ensures c.in_ok-new.ensures (sym c.in-NewExists.is ∙ c.in_ok-make_rename.ensures.answer) c.in_ok-make_rename.ensures.table c.bytes-in-NewExists.ensures c.in_ok-command_exists-in-NewExists.ensures c.in_ok-refused-in-NewExists.ensures
