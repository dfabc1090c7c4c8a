use Rattle.std.proofs.Common.{◌≡◌, ap, subst, sym, ◌∙◌, [], ◌∷◌, ◌++◌, List, ℕ}
use Rattle.std.specs.Map.{lookup}
use Rattle.std.specs.BTreeMap.{insert_entry, is_at}
use Rattle.txt_core.specs.Order.{text_cmp}
use Rattle.cmd_table.specs.declared.journal.Row.{Row}
use Rattle.cmd_table.specs.Table.{Table, command_of}
use Rattle.cmd_table.specs.Slots.{present, with_option}
use Rattle.cmd_table.specs.Journal.{back, past_of, ArePlaced}
use Rattle.cmd_table.proofs.Changes.{present_in_order}
use Rattle.cmd_table.proofs.Latests.{others_stay}
use Rattle.cmd_table.proofs.Taking.{slot_changed, taken_back, past_noted}
use Rattle.cmd_table.proofs.Places.{one_more_slot, placed_noted}
use Rattle.cmd_table.proofs.journal.change.Goals as goal

pub returns-clause-table : goal.returns-clause-table
returns-clause-table c =
    let es = c.args.slots.now.entries in
    ap present c.in_ok-before.ensures.entries
    ∙ (ap (λ (k : List ℕ). present (insert_entry text_cmp es k c.args.cmd)) c.in_ok-key.ensures
    ∙ slot_changed c.args.name c.args.cmd es c.requires.ordered)

pub returns-clause-others : goal.returns-clause-others
returns-clause-others c = λ other apart.
    let es = c.args.slots.now.entries in
    let after : present c.insert.new.self.entries ≡ with_option (present es) c.args.name c.args.cmd =
    ap present c.in_ok-before.ensures.entries
    ∙ (ap (λ (k : List ℕ). present (insert_entry text_cmp es k c.args.cmd)) c.in_ok-key.ensures
    ∙ slot_changed c.args.name c.args.cmd es c.requires.ordered) in
    ap (λ (t : Table). command_of t other) after
    ∙ others_stay (present es) c.args.name c.args.cmd other (present_in_order es c.requires.ordered) apart

pub returns-clause-past : goal.returns-clause-past
returns-clause-past c =
    let es = c.args.slots.now.entries in
    let rows = c.args.journal.now.items in
    let row : Row = record { name = c.args.name; before = c.in_ok-before.before } in
    let after : c.insert.new.self.entries ≡ insert_entry text_cmp es c.args.name c.args.cmd = c.in_ok-before.ensures.entries ∙ ap (λ (k : List ℕ). insert_entry text_cmp es k c.args.cmd) c.in_ok-key.ensures in
    let noted : row.before ≡ lookup (is_at (text_cmp row.name)) es = c.in_ok-before.ensures.old ∙ ap (λ (k : List ℕ). lookup (is_at (text_cmp k)) es) c.in_ok-key.ensures in
    let same : back row c.insert.new.self.entries ≡ es = ap (back row) after ∙ taken_back row c.args.cmd es c.requires.ordered noted in
    ap (λ (items : List Row). past_of items c.insert.new.self.entries) (c.push_reserved.ensures.items ∙ ap (λ (items : List Row). items ++ row ∷ []) c.reserve.ensures.items)
    ∙ past_noted rows row es c.insert.new.self.entries same

pub returns-clause-placed : goal.returns-clause-placed
returns-clause-placed c =
    let es = c.args.slots.now.entries in
    let rows = c.args.journal.now.items in
    let row : Row = record { name = c.args.name; before = c.in_ok-before.before } in
    let after : c.insert.new.self.entries ≡ insert_entry text_cmp es c.args.name c.args.cmd = c.in_ok-before.ensures.entries ∙ ap (λ (k : List ℕ). insert_entry text_cmp es k c.args.cmd) c.in_ok-key.ensures in
    let noted : row.before ≡ lookup (is_at (text_cmp row.name)) es = c.in_ok-before.ensures.old ∙ ap (λ (k : List ℕ). lookup (is_at (text_cmp k)) es) c.in_ok-key.ensures in
    let same : back row c.insert.new.self.entries ≡ es = ap (back row) after ∙ taken_back row c.args.cmd es c.requires.ordered noted in
    let more = one_more_slot c.args.name c.args.cmd es c.insert.new.self.entries after c.requires.ordered c.insert.ensures.ordered c.requires.some in
    subst (λ (items : List Row). ArePlaced items c.insert.new.self.entries) (sym (c.push_reserved.ensures.items ∙ ap (λ (items : List Row). items ++ row ∷ []) c.reserve.ensures.items))
    (placed_noted rows row es c.insert.new.self.entries same more c.requires.placed)
