use Rattle.std.proofs.Common.{◌≡◌, ℕ, List, [], ◌∷◌, ◌++◌, length, subst, sym, ap, ◌∙◌}
use Rattle.std.specs.Prelude.{decimal, codes}
use Rattle.rehearse.specs.Events.{line_end}
use Rattle.rehearse.specs.Lines.{Line, script}
use Rattle.rehearse.specs.Playing.{Tells}
use Rattle.rehearse.specs.Schedules.{script_line}
use Rattle.rehearse.proofs.Appending.{on_ok, begins_script, tells_script, tells_spent, tells_deep}
use Rattle.rehearse.proofs.listing.Listing.push_script.Goals as goal

pub returns-in_ok-push_number-in-Done : goal.returns-in_ok-push_number-in-Done
returns-in_ok-push_number-in-Done c =
    let t : List ℕ = c.args.self.now.text in
    let result : List ℕ = c.bytes.result.now in
    let front = begins_script t c.append.new.self c.push_number.new.self.text c.push_number-2.new.self.text c.args.id c.args.epoch
    c.in_ok-append.ensures.ok c.in_ok-push_number.ensures.0 c.in_ok-push_number-2.ensures.0 in
    let same : c.push_number-in-Done.new.self.tally ≡ c.args.self.now.tally =
    c.in_ok-push_number-in-Done.ensures.1 ∙ c.in_ok-push_number-2.ensures.1 ∙ c.in_ok-push_number.ensures.1 in
    let line : script_line c.args.id c.args.epoch c.args.outcome ≡ script c.args.id c.args.epoch c.from.result result =
    ap (script_line c.args.id c.args.epoch) c.in-Done.is ∙ ap (λ (r : List ℕ). script c.args.id c.args.epoch c.in-Done.code r) (sym c.bytes.ensures)
    ∙ ap (λ (n : ℕ). script c.args.id c.args.epoch n result) (sym c.from.ensures) in
    on_ok c.push_block.result
    ((c.push_block.new.self.text ≡ c.push_number-in-Done.new.self.text ++ decimal (length result) ++ line_end ++ result ++ line_end)
    × (c.push_block.new.self.tally ≡ c.push_number-in-Done.new.self.tally))
    (Tells c.args.self.now (script_line c.args.id c.args.epoch c.args.outcome ∷ []) c.push_block.new.self)
    (λ h. subst (λ (l : Line). Tells c.args.self.now (l ∷ []) c.push_block.new.self) (sym line) (
      tells_script t c.push_number-2.new.self.text c.push_number-in-Done.new.self.text c.push_block.new.self.text result c.args.id c.args.epoch c.from.result
          front c.in_ok-push_number-in-Done.ensures.0 h.0,
      h.1 ∙ same,
    ))
    c.push_block.ensures

pub returns-in-Spent : goal.returns-in-Spent
returns-in-Spent c =
    let t : List ℕ = c.args.self.now.text in
    let front = begins_script t c.append.new.self c.push_number.new.self.text c.push_number-2.new.self.text c.args.id c.args.epoch
    c.in_ok-append.ensures.ok c.in_ok-push_number.ensures.0 c.in_ok-push_number-2.ensures.0 in
    let same : c.push_number-2.new.self.tally ≡ c.args.self.now.tally = c.in_ok-push_number-2.ensures.1 ∙ c.in_ok-push_number.ensures.1 in
    on_ok c.append-in-Spent.result (c.append-in-Spent.new.self ≡ c.push_number-2.new.self.text ++ codes "spent\n") _
    (λ h. rw c.in-Spent.is (tells_spent t c.push_number-2.new.self.text c.append-in-Spent.new.self c.args.id c.args.epoch front h, same))
    c.append-in-Spent.ensures.ok

pub returns-in-TooDeep : goal.returns-in-TooDeep
returns-in-TooDeep c =
    let t : List ℕ = c.args.self.now.text in
    let front = begins_script t c.append.new.self c.push_number.new.self.text c.push_number-2.new.self.text c.args.id c.args.epoch
    c.in_ok-append.ensures.ok c.in_ok-push_number.ensures.0 c.in_ok-push_number-2.ensures.0 in
    let same : c.push_number-2.new.self.tally ≡ c.args.self.now.tally = c.in_ok-push_number-2.ensures.1 ∙ c.in_ok-push_number.ensures.1 in
    on_ok c.append-in-TooDeep.result (c.append-in-TooDeep.new.self ≡ c.push_number-2.new.self.text ++ codes "deep\n") _
    (λ h. rw c.in-TooDeep.is (tells_deep t c.push_number-2.new.self.text c.append-in-TooDeep.new.self c.args.id c.args.epoch front h, same))
    c.append-in-TooDeep.ensures.ok
