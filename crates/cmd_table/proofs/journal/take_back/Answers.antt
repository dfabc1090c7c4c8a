use Rattle.std.proofs.Common.{sym, subst, ap, ◌∙◌, ◌++◌, ◌∷◌, [], List}
use Rattle.cmd_table.specs.declared.journal.Row.{Row}
use Rattle.cmd_table.specs.Slots.{Slots, present}
use Rattle.cmd_table.specs.Journal.{past_of, ArePlaced}
use Rattle.cmd_table.proofs.Taking.{past_last}
use Rattle.cmd_table.proofs.Places.{placed_taken}
use Rattle.cmd_table.proofs.journal.take_back.Goals as goal

pub returns-in-Some-clause-past : goal.returns-in-Some-clause-past
returns-in-Some-clause-past c =
    let left = c.pop.new.self.items in
    let es = c.args.slots.now.entries in
    ap (λ (items : List Row). past_of items es) c.in-Some.ensures.items
    ∙ past_last left c.in-Some.row es
    ∙ ap (λ (s : Slots). past_of left s ++ present s ∷ []) (sym c.put_back.ensures.back)

pub returns-in-Some-clause-placed : goal.returns-in-Some-clause-placed
returns-in-Some-clause-placed c =
    let left = c.pop.new.self.items in
    let es = c.args.slots.now.entries in
    subst (λ (s : Slots). ArePlaced left s) (sym c.put_back.ensures.back) (placed_taken left c.in-Some.row es (subst (λ (items : List Row). ArePlaced items es) c.in-Some.ensures.items c.requires.placed))
