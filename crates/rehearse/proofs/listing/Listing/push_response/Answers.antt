use Rattle.std.proofs.Common.{◌≡◌, ap, ◌∙◌}
use Rattle.rehearse.specs.declared.tally.Tally.{Tally}
use Rattle.rehearse.specs.Summary.{with_response}
use Rattle.rehearse.proofs.Appending.{tells_response}
use Rattle.rehearse.proofs.listing.Listing.push_response.Goals as goal

pub returns : goal.returns
returns c =
    let same : c.push_block.new.self.tally ≡ c.args.self.now.tally =
    c.in_ok-push_block.ensures.1 ∙ c.in_ok-push_epoch.ensures.1 ∙ c.in_ok-push_number.ensures.1 in (
      tells_response c.args.self.now.text c.append.new.self c.push_number.new.self.text c.push_epoch.new.self.text c.push_block.new.self.text c.args.bytes.now
          c.args.number c.args.epoch c.args.status c.in_ok-append.ensures.ok c.in_ok-push_number.ensures.0 c.in_ok-push_epoch.ensures.0 c.in_ok-push_block.ensures.0,
      c.count.ensures ∙ ap (λ (t : Tally). with_response t c.args.status c.args.bytes.now) same,
    )
