use Rattle.std.proofs.Common.{◌≡◌, [], true, false, rules, sym, ap, ◌∙◌, subst}
use Rattle.std.specs.Option.{is_some}
use Rattle.cmd_table.specs.Table.{Table, command_of, without_command}
use Rattle.blueprint.specs.Kept.{is_there, AreCommands}
use Rattle.blueprint.proofs.Tables.{command_put, command_gone, no_old, removed, refused, moved}
use Rattle.blueprint.proofs.names.Names.rename.Goals as goal

pub returns-then-not-has-clause-fits : goal.returns-then-not-has-clause-fits
returns-then-not-has-clause-fits c = λ table are.
    let none : is_there c.args.self.now.slots c.args.old.now ≡ false = search rules in
    sym (no_old table c.args.old.now c.args.new.now (sym (are c.args.old.now) ∙ none)).0

pub returns-then-not-has-clause-made : goal.returns-then-not-has-clause-made
returns-then-not-has-clause-made c = λ table order are name.
    let none : is_there c.args.self.now.slots c.args.old.now ≡ false = search rules in
    are name ∙ ap (λ (t : Table). is_some (command_of t name)) (sym (no_old table c.args.old.now c.args.new.now (sym (are c.args.old.now) ∙ none)).1)

pub returns-then-is_empty-clause-fits : goal.returns-then-is_empty-clause-fits
returns-then-is_empty-clause-fits c = λ table are.
    let there : is_there c.args.self.now.slots c.args.old.now ≡ true = search rules in
    let empty : c.args.new.now ≡ [] = search rules in
    sym (removed table c.args.old.now c.args.new.now (sym (are c.args.old.now) ∙ there) empty).0

pub returns-then-is_empty-clause-made : goal.returns-then-is_empty-clause-made
returns-then-is_empty-clause-made c = λ table order are.
    let there : is_there c.args.self.now.slots c.args.old.now ≡ true = search rules in
    let empty : c.args.new.now ≡ [] = search rules in
    subst (λ (t : Table). AreCommands c.set.new.self.slots t) (sym (removed table c.args.old.now c.args.new.now (sym (are c.args.old.now) ∙ there) empty).1)
    (command_gone c.tables_are_maps.ensures.removing c.args.self.now.slots c.set.new.self.slots table c.args.old.now order are c.in_ok-set.ensures.there)

pub returns-then-has-clause-fits : goal.returns-then-has-clause-fits
returns-then-has-clause-fits c = λ table are.
    let there : is_there c.args.self.now.slots c.args.old.now ≡ true = search rules in
    let taken : is_there c.args.self.now.slots c.args.new.now ≡ true = search rules in
    let some : c.args.new.now ≡ [] → ⊥ = λ e. search rules in
    sym (refused table c.args.old.now c.args.new.now (sym (are c.args.old.now) ∙ there) (sym (are c.args.new.now) ∙ taken) some).0

pub returns-then-has-clause-made : goal.returns-then-has-clause-made
returns-then-has-clause-made c = λ table order are name.
    let there : is_there c.args.self.now.slots c.args.old.now ≡ true = search rules in
    let taken : is_there c.args.self.now.slots c.args.new.now ≡ true = search rules in
    let some : c.args.new.now ≡ [] → ⊥ = λ e. search rules in
    are name ∙ ap (λ (t : Table). is_some (command_of t name)) (sym (refused table c.args.old.now c.args.new.now (sym (are c.args.old.now) ∙ there) (sym (are c.args.new.now) ∙ taken) some).1)

pub returns-clause-fits : goal.returns-clause-fits
returns-clause-fits c = λ table are.
    let there : is_there c.args.self.now.slots c.args.old.now ≡ true = search rules in
    let free : is_there c.args.self.now.slots c.args.new.now ≡ false = search rules in
    let some : c.args.new.now ≡ [] → ⊥ = λ e. search rules in
    sym (moved table c.args.old.now c.args.new.now (sym (are c.args.old.now) ∙ there) (sym (are c.args.new.now) ∙ free) some).0

pub returns-clause-made : goal.returns-clause-made
returns-clause-made c = λ table order are.
    let there : is_there c.args.self.now.slots c.args.old.now ≡ true = search rules in
    let free : is_there c.args.self.now.slots c.args.new.now ≡ false = search rules in
    let some : c.args.new.now ≡ [] → ⊥ = λ e. search rules in
    let m = moved table c.args.old.now c.args.new.now (sym (are c.args.old.now) ∙ there) (sym (are c.args.new.now) ∙ free) some in
    let gone = command_gone c.tables_are_maps.ensures.removing c.args.self.now.slots c.set-2.new.self.slots table c.args.old.now order are c.in_ok-set-2.ensures.there in
    subst (λ (t : Table). AreCommands c.set-3.new.self.slots t) (sym m.1.1)
    (command_put c.tables_are_maps.ensures.putting c.set-2.new.self.slots c.set-3.new.self.slots (without_command table c.args.old.now) c.args.new.now m.1.0 gone c.in_ok-set-3.ensures.there)
