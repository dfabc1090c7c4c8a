use Rattle.std.proofs.Common.{◌∙◌, ℕ, List, length, ap, arith}
use Rattle.natives.specs.Names.{names_of}
use Rattle.tcl_parse.specs.Tree.{Words}
use Rattle.tcl_eval.specs.Eval.{nested, run_words}
use Rattle.tcl_eval.specs.Kept.{run_costly}
use Rattle.tcl_eval.specs.Places.{tree_of, command_at, words_from, words_size}
use Rattle.tcl_eval.specs.Engine.{state_of}
use Rattle.tcl_eval.proofs.engine.Engine.try_simple.Goals as goal

pub returns-in_ok-tried-in-All-clause-means : goal.returns-in_ok-tried-in-All-clause-means
returns-in_ok-tried-in-All-clause-means g c = λ levels k gv.
    let ns = names_of c.args.natives.now in
    let t = g.H.Host.table in
    let e = c.args.self.now in
    let all = command_at c.args.at (tree_of c.args.script.now) in
    let before = rw (c.in-All.is, c.words_of.ensures) at c.in_ok-value.ensures.means in
    let none = rw (c.in-All.is, c.words_of.ensures) at c.in_ok-value.ensures.less in
    c.in_ok-tried-in-All.ensures.means levels all none k gv
    ∙ before ns levels k gv
    ∙ ap (λ (x : List (List ℕ)). run_words ns t (nested ns t levels) (words_from (length x) all) x k (state_of e) e.budget gv) c.take-values.ensures

pub returns-in_ok-tried-in-All-clause-size : goal.returns-in_ok-tried-in-All-clause-size
returns-in_ok-tried-in-All-clause-size g c =
    let all = command_at c.args.at (tree_of c.args.script.now) in
    let none = rw (c.in-All.is, c.words_of.ensures) at c.in_ok-value.ensures.less in
    omega (arith, c.in_ok-tried-in-All.ensures.size all, ap (λ (ws : Words). words_size ws) none)

pub returns-in-Ends-clause-means : goal.returns-in-Ends-clause-means
returns-in-Ends-clause-means g c = λ levels k gv.
    let ns = names_of c.args.natives.now in
    let t = g.H.Host.table in
    let e = c.args.self.now in
    let before = rw (c.in-Ends.is, c.words_of.ensures) at c.in_ok-value.ensures.means in
    before ns levels k gv
    ∙ ap (λ (x : List (List ℕ)). run_words ns t (nested ns t levels) (words_from (length x) (command_at c.args.at (tree_of c.args.script.now))) x k (state_of e) e.budget gv) c.take-values.ensures

pub returns-in-Spent-clause-means : goal.returns-in-Spent-clause-means
returns-in-Spent-clause-means g c = λ levels k gv.
    let ns = names_of c.args.natives.now in
    let t = g.H.Host.table in
    let e = c.args.self.now in
    let before = rw (c.in-Spent.is, c.words_of.ensures) at c.in_ok-value.ensures.means in
    before ns levels k gv
    ∙ ap (λ (x : List (List ℕ)). run_words ns t (nested ns t levels) (words_from (length x) (command_at c.args.at (tree_of c.args.script.now))) x k (state_of e) e.budget gv) c.take-values.ensures

pub returns-in-Costly-clause-means : goal.returns-in-Costly-clause-means
returns-in-Costly-clause-means g c = λ levels k gv.
    let ns = names_of c.args.natives.now in
    let t = g.H.Host.table in
    let e = c.args.self.now in
    let before = rw (c.in-Costly.is, c.words_of.ensures) at c.in_ok-value.ensures.means in
    ap (λ (n : ℕ). run_costly (nested ns t levels) (words_from n (command_at c.args.at (tree_of c.args.script.now))) k (state_of e) e.budget gv) c.len.ensures
    ∙ before ns levels k gv
    ∙ ap (λ (x : List (List ℕ)). run_words ns t (nested ns t levels) (words_from (length x) (command_at c.args.at (tree_of c.args.script.now))) x k (state_of e) e.budget gv) c.take-values.ensures

pub returns-in-Costly-clause-size : goal.returns-in-Costly-clause-size
returns-in-Costly-clause-size g c =
    let all = command_at c.args.at (tree_of c.args.script.now) in
    let less = rw (c.in-Costly.is, c.words_of.ensures) at c.in_ok-value.ensures.less in
    omega (arith, less, ap (λ (n : ℕ). words_size (words_from n all)) c.len.ensures, ap (λ (x : List (List ℕ)). words_size (words_from (length x) all)) c.take-values.ensures)

pub returns-in-On-clause-means : goal.returns-in-On-clause-means
returns-in-On-clause-means g c = λ levels k gv.
    let ns = names_of c.args.natives.now in
    let t = g.H.Host.table in
    let e = c.args.self.now in
    let before = rw (c.in-On.is, c.words_of.ensures) at c.in_ok-value.ensures.means in
    before ns levels k gv
    ∙ ap (λ (x : List (List ℕ)). run_words ns t (nested ns t levels) (words_from (length x) (command_at c.args.at (tree_of c.args.script.now))) x k (state_of e) e.budget gv) c.take-values.ensures

pub returns-in-On-clause-size : goal.returns-in-On-clause-size
returns-in-On-clause-size g c =
    let all = command_at c.args.at (tree_of c.args.script.now) in
    let less = rw (c.in-On.is, c.words_of.ensures) at c.in_ok-value.ensures.less in
    omega (arith, less, ap (λ (x : List (List ℕ)). words_size (words_from (length x) all)) c.take-values.ensures)

pub returns-in-Left-clause-means : goal.returns-in-Left-clause-means
returns-in-Left-clause-means g c = λ levels k gv.
    let ns = names_of c.args.natives.now in
    let t = g.H.Host.table in
    let e = c.args.self.now in
    let before = rw (c.in-Left.is, c.words_of.ensures) at c.in_ok-value.ensures.means in
    before ns levels k gv
    ∙ ap (λ (x : List (List ℕ)). run_words ns t (nested ns t levels) (words_from (length x) (command_at c.args.at (tree_of c.args.script.now))) x k (state_of e) e.budget gv) c.take-values.ensures

pub returns-in-Left-clause-size : goal.returns-in-Left-clause-size
returns-in-Left-clause-size g c =
    let all = command_at c.args.at (tree_of c.args.script.now) in
    let less = rw (c.in-Left.is, c.words_of.ensures) at c.in_ok-value.ensures.less in
    omega (arith, less, ap (λ (x : List (List ℕ)). words_size (words_from (length x) all)) c.take-values.ensures)
