use Rattle.std.proofs.Common.{ℕ, List, [], ◌∷◌, ◌++◌, ap, ◌∙◌}
use Rattle.std.specs.FinMap as map
use Rattle.tcl_frame.specs.declared.few.Entry.{Entry}
use Rattle.tcl_frame.specs.Few.{in_front}
use Rattle.tcl_frame.proofs.Tables.{on_ok}
use Rattle.tcl_frame.proofs.Fronts.{put_behind, put_last}
use Rattle.tcl_frame.proofs.table.Table.add.Goals as goal

pub returns-then-len-ge-MOST_FEW-clause-ok : goal.returns-then-len-ge-MOST_FEW-clause-ok
returns-then-len-ge-MOST_FEW-clause-ok c =
    let few = c.self.inside.few.items in
    let rest = c.self.inside.rest in
    let name = c.args.name.now in
    let none = ap (λ m. map.get m name) c.self.view_is ∙ c.requires in
    on_ok c.insert.result _ _ (λ is.
    ap (in_front few) is ∙ put_behind few rest name c.args.variable none
    ∙ ap (λ m. map.insert m name c.args.variable) c.self.view_is) c.insert.ensures.ok

pub returns-clause-ok : goal.returns-clause-ok
returns-clause-ok c =
    let few = c.self.inside.few.items in
    let rest = c.self.inside.rest in
    let name = c.args.name.now in
    let none = ap (λ m. map.get m name) c.self.view_is ∙ c.requires in
    let entry : List ℕ → Entry = λ n. record { name = n; variable = c.args.variable } in
    ap (λ f. in_front f rest) (c.in_ok-push.ensures.items ∙ ap (λ n. few ++ entry n ∷ []) c.in_ok-name.ensures)
    ∙ put_last few rest name c.args.variable none
    ∙ ap (λ m. map.insert m name c.args.variable) c.self.view_is
