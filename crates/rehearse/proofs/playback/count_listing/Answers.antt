use Rattle.rehearse.proofs.playback.count_listing.Goals as goal

pub returns-in-Ok-BadEvent-clause-counts : goal.returns-in-Ok-BadEvent-clause-counts
returns-in-Ok-BadEvent-clause-counts g c = λ file told.
    let ends = rw c.in-Ok-BadEvent.field-0-is at c.in-Ok-BadEvent.ensures.ends in
    (ends.1.events, ends.1.lines, ends.1.input file told)
