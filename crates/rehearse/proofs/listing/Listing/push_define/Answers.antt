use Rattle.std.proofs.Common.{◌≡◌, ℕ, List, [], ◌∷◌, ◌++◌, length, subst, sym, ap, ◌∙◌}
use Rattle.std.specs.Prelude.{decimal}
use Rattle.rehearse.specs.Defining.{define_line}
use Rattle.rehearse.specs.Events.{line_end}
use Rattle.rehearse.specs.Lines.{Line, define_error}
use Rattle.rehearse.specs.Playing.{Tells}
use Rattle.rehearse.proofs.Appending.{on_ok, error_line, tells_error}
use Rattle.rehearse.proofs.listing.Listing.push_define.Goals as goal

pub returns-in_ok-append-in-Done : goal.returns-in_ok-append-in-Done
returns-in_ok-append-in-Done c =
    let result : List ℕ = c.bytes.result.now in
    let mid : List ℕ = c.append-in-Done.new.self in
    let is : define_line c.args.epoch c.args.outcome ≡ define_error result =
    error_line c.args.outcome c.in-Done.code c.args.epoch c.in-Done.result c.in-Done.is c.in-Done.code-test.1 ∙ ap define_error (sym c.bytes.ensures) in
    on_ok c.push_block.result
    ((c.push_block.new.self.text ≡ mid ++ decimal (length result) ++ line_end ++ result ++ line_end) × (c.push_block.new.self.tally ≡ c.args.self.now.tally))
    (Tells c.args.self.now (define_line c.args.epoch c.args.outcome ∷ []) c.push_block.new.self)
    (λ h. subst (λ (l : Line). Tells c.args.self.now (l ∷ []) c.push_block.new.self) (sym is)
    (tells_error c.args.self.now.text mid c.push_block.new.self.text result c.in_ok-append-in-Done.ensures.ok h.0, h.1))
    c.push_block.ensures
