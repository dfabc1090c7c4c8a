-- The shared arrays as one thread has them: what the turns of a bucket, taken together, answer.
use Rattle.std.specs.Prelude.{◌≡◌, ◌+◌, List, [], ◌∷◌, map, filter, Bool, true, false, not}
use Rattle.txt_core.specs.Names.{Words}
use Rattle.turn_cell.specs.declared.view.Entry.{Entry}
use Rattle.turn_cell.specs.declared.view.View.{View}
use Rattle.txt_core.specs.Members.{Has}
use Rattle.turn_cell.specs.History.{after_of, IsHistory}
use Rattle.turn_cell.specs.Steps.{IsInOrder}
use Rattle.nsv_bucket.specs.declared.reply.NsvReply.{NsvReply}
use Rattle.nsv_bucket.specs.declared.reply.NsvReply.TheVariants.{Said, Failed, NoMemory}
use Rattle.nsv_bucket.specs.Arrays.{Arrays}
use Rattle.nsv_bucket.specs.Steps.{ArraySteps, array_step}

abbrev pub BucketEntry : Type 0
BucketEntry = Entry Arrays Words NsvReply

-- the bucket met want of memory in this turn, which leaves it as it was
abbrev pub is_wanting : NsvReply → Bool
is_wanting (Said text) = false
is_wanting (Failed text) = false
is_wanting NoMemory = true

-- the turns that were answered
abbrev pub answered : List BucketEntry → List BucketEntry
answered turns = filter (λ e. not (is_wanting e.reply)) turns

-- what one thread is replied that puts these words to arrays one after the other
abbrev pub replies_of : Arrays → List Words → List NsvReply
replies_of arrays [] = []
replies_of arrays (words ∷ more) = (array_step arrays words).0 ∷ replies_of (array_step arrays words).1 more

-- and the arrays after them
abbrev pub arrays_after : Arrays → List Words → Arrays
arrays_after arrays [] = arrays
arrays_after arrays (words ∷ more) = arrays_after (array_step arrays words).1 more

-- A whole history of a bucket, by whatever passes its turns were taken that were joined: the replies of its turns in order of place
-- are those that one thread gets which puts their words in that order, and so are the arrays at the end.
abbrev pub HistoriesAreLines : Type 0
HistoriesAreLines =
    (opening : Arrays) (own : List BucketEntry) → IsHistory (λ s. Unit {0}) ArraySteps 0 opening own
    → (map (λ e. e.reply) (answered own) ≡ replies_of opening (map (λ e. e.call) (answered own)))
    × (after_of opening own ≡ arrays_after opening (map (λ e. e.call) (answered own)))

-- Two turns of passes that were joined, at places next to each other: the second is replied what one thread is that puts its words to
-- the arrays as the first left them.
abbrev pub NeighboursAreLines : Type 0
NeighboursAreLines =
    (v : View Arrays Words NsvReply) → IsInOrder v
    → (e f : BucketEntry) → Has v.own e → Has v.own f → f.place ≡ e.place + 1
    → ArraySteps f.before f.call f.reply f.after → is_wanting f.reply ≡ false
    → (f.reply ≡ (array_step e.after f.call).0) × (f.after ≡ (array_step e.after f.call).1)
