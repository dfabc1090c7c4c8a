use Rattle.std.proofs.Common.{◌≡◌, ◌∙◌, sym, ap, [], true, false}
use Rattle.std.specs.Option.{is_some}
use Rattle.cmd_table.specs.Table.{command_of}
use Rattle.cmd_table.proofs.Renames.{copied_some, no_old, removed, refused, moved}
use Rattle.cmd_table.proofs.table.CmdTable.rename.Goals as goal

pub returns-then-is_none-clause-answer : goal.returns-then-is_none-clause-answer
returns-then-is_none-clause-answer g c =
    let old : is_some (command_of c.args.self.now.table c.args.old.now) ≡ false = ap is_some (sym c.get.ensures) ∙ (copied_some c.get.result ∙ c.if-is_none.ensures) in
    sym (no_old c.args.self.now.table c.args.old.now c.args.new.now old).0

pub returns-then-is_none-clause-table : goal.returns-then-is_none-clause-table
returns-then-is_none-clause-table g c =
    let old : is_some (command_of c.args.self.now.table c.args.old.now) ≡ false = ap is_some (sym c.get.ensures) ∙ (copied_some c.get.result ∙ c.if-is_none.ensures) in
    sym (no_old c.args.self.now.table c.args.old.now c.args.new.now old).1

pub returns-then-is_empty-clause-answer : goal.returns-then-is_empty-clause-answer
returns-then-is_empty-clause-answer g c =
    let old : is_some (command_of c.args.self.now.table c.args.old.now) ≡ true = ap is_some (sym c.get.ensures) ∙ (copied_some c.get.result ∙ c.if-is_none.ensures) in
    sym (removed c.args.self.now.table c.args.old.now c.args.new.now old (c.is_empty.ensures.0 c.if-is_empty.true)).0

pub returns-then-is_empty-clause-table : goal.returns-then-is_empty-clause-table
returns-then-is_empty-clause-table g c =
    let old : is_some (command_of c.args.self.now.table c.args.old.now) ≡ true = ap is_some (sym c.get.ensures) ∙ (copied_some c.get.result ∙ c.if-is_none.ensures) in
    c.in_ok-remove.ensures.table ∙ sym (removed c.args.self.now.table c.args.old.now c.args.new.now old (c.is_empty.ensures.0 c.if-is_empty.true)).1

pub returns-then-is_some-clause-answer : goal.returns-then-is_some-clause-answer
returns-then-is_some-clause-answer g c =
    let old : is_some (command_of c.args.self.now.table c.args.old.now) ≡ true = ap is_some (sym c.get.ensures) ∙ (copied_some c.get.result ∙ c.if-is_none.ensures) in
    let new : is_some (command_of c.args.self.now.table c.args.new.now) ≡ true = ap is_some (sym c.get-2.ensures) ∙ (copied_some c.get-2.result ∙ (sym c.is_some.ensures ∙ c.if-is_some.true)) in
    let some : c.args.new.now ≡ [] → ⊥ = λ e. let t = c.is_empty.ensures.1 e in let f = c.if-is_empty.false in cc in
    sym (refused c.args.self.now.table c.args.old.now c.args.new.now old new some).0

pub returns-then-is_some-clause-table : goal.returns-then-is_some-clause-table
returns-then-is_some-clause-table g c =
    let old : is_some (command_of c.args.self.now.table c.args.old.now) ≡ true = ap is_some (sym c.get.ensures) ∙ (copied_some c.get.result ∙ c.if-is_none.ensures) in
    let new : is_some (command_of c.args.self.now.table c.args.new.now) ≡ true = ap is_some (sym c.get-2.ensures) ∙ (copied_some c.get-2.result ∙ (sym c.is_some.ensures ∙ c.if-is_some.true)) in
    let some : c.args.new.now ≡ [] → ⊥ = λ e. let t = c.is_empty.ensures.1 e in let f = c.if-is_empty.false in cc in
    sym (refused c.args.self.now.table c.args.old.now c.args.new.now old new some).1

pub returns-clause-answer : goal.returns-clause-answer
returns-clause-answer g c =
    let old : is_some (command_of c.args.self.now.table c.args.old.now) ≡ true = ap is_some (sym c.get.ensures) ∙ (copied_some c.get.result ∙ c.if-is_none.ensures) in
    let new : is_some (command_of c.args.self.now.table c.args.new.now) ≡ false = ap is_some (sym c.get-2.ensures) ∙ (copied_some c.get-2.result ∙ (sym c.is_some.ensures ∙ c.if-is_some.false)) in
    let some : c.args.new.now ≡ [] → ⊥ = λ e. let t = c.is_empty.ensures.1 e in let f = c.if-is_empty.false in cc in
    sym (moved c.args.self.now.table c.args.old.now c.args.new.now old new some).0

pub returns-clause-table : goal.returns-clause-table
returns-clause-table g c =
    let old : is_some (command_of c.args.self.now.table c.args.old.now) ≡ true = ap is_some (sym c.get.ensures) ∙ (copied_some c.get.result ∙ c.if-is_none.ensures) in
    let new : is_some (command_of c.args.self.now.table c.args.new.now) ≡ false = ap is_some (sym c.get-2.ensures) ∙ (copied_some c.get-2.result ∙ (sym c.is_some.ensures ∙ c.if-is_some.false)) in
    let some : c.args.new.now ≡ [] → ⊥ = λ e. let t = c.is_empty.ensures.1 e in let f = c.if-is_empty.false in cc in
    c.in_ok-move_to.ensures.table ∙ sym (moved c.args.self.now.table c.args.old.now c.args.new.now old new some).1
