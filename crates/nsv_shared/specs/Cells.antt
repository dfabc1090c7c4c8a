-- What a clause says of the eight cells and of their passes, a line for each bucket.
use Rattle.std.specs.Prelude.{◌≡◌, ℕ, ◌≤◌, List}
use Rattle.txt_core.specs.Names.{Words}
use Rattle.turn_cell.specs.Cells.{pass_view, IsOf}
use Rattle.txt_core.specs.Shares.{WHOLE}
use Rattle.turn_cell.specs.Passes.{joined, less_one, part_of}
use Rattle.turn_cell.specs.Steps.{IsInOrder}
use Rattle.nsv_bucket.specs.declared.reply.NsvReply.{NsvReply}
use Rattle.nsv_bucket.specs.Arrays.{Arrays}
use Rattle.nsv_bucket.specs.Buckets.{arrays_of}
use Rattle.nsv_shared.specs.declared.nsv.Nsv.{Nsv}
use Rattle.nsv_shared.specs.declared.nsv.NsvPass.{NsvPass}
use Rattle.nsv_shared.specs.Views.{BucketView, opening, TurnsAt, Ends}

-- the passes were made by these cells, each by its own
abbrev pub AreOf : Nsv → NsvPass → Type 0
AreOf nsv pass =
    IsOf nsv.b0 pass.b0
    × IsOf nsv.b1 pass.b1
    × IsOf nsv.b2 pass.b2
    × IsOf nsv.b3 pass.b3
    × IsOf nsv.b4 pass.b4
    × IsOf nsv.b5 pass.b5
    × IsOf nsv.b6 pass.b6
    × IsOf nsv.b7 pass.b7

-- What is said of each bucket, by its number and the view that a pass has of it.
abbrev pub OfEach : (ℕ → (NsvPass → BucketView) → Type 0) → Type 0
OfEach Says =
    Says 0 (λ pass. pass_view pass.b0)
    × Says 1 (λ pass. pass_view pass.b1)
    × Says 2 (λ pass. pass_view pass.b2)
    × Says 3 (λ pass. pass_view pass.b3)
    × Says 4 (λ pass. pass_view pass.b4)
    × Says 5 (λ pass. pass_view pass.b5)
    × Says 6 (λ pass. pass_view pass.b6)
    × Says 7 (λ pass. pass_view pass.b7)

-- each pass has at least so many units
abbrev pub HaveUnits : ℕ → NsvPass → Type 0
HaveUnits least pass = OfEach (λ bucket view. least ≤ (view pass).units)

-- each pass has so many units
abbrev pub HaveJust : ℕ → NsvPass → Type 0
HaveJust units pass = OfEach (λ bucket view. (view pass).units ≡ units)

-- each pass has the share that it had
abbrev pub KeepUnits : NsvPass → NsvPass → Type 0
KeepUnits before after = OfEach (λ bucket view. (view after).units ≡ (view before).units)

-- each pass has the whole share
abbrev pub AreWhole : NsvPass → Type 0
AreWhole pass = HaveJust WHOLE pass

-- each pass has the whole share, and knows of no turn of a bucket that was put in with no array
abbrev pub AreOpening : NsvPass → Type 0
AreOpening pass = OfEach (λ bucket view. view pass ≡ opening)

-- each pass gave a unit away
abbrev pub Leave : NsvPass → NsvPass → Type 0
Leave before after = OfEach (λ bucket view. view after ≡ less_one (view before))

-- each of the new passes is the part of one
abbrev pub ArePartsOf : NsvPass → NsvPass → Type 0
ArePartsOf before parts = OfEach (λ bucket view. view parts ≡ part_of (view before))

-- each pass took in the other one of its bucket
abbrev pub Join : NsvPass → NsvPass → NsvPass → Type 0
Join before other after = OfEach (λ bucket view. view after ≡ joined (view before) (view other))

-- the own turns of each pass stand in order
abbrev pub AreInOrder : NsvPass → Type 0
AreInOrder pass = OfEach (λ bucket view. IsInOrder (view pass))

-- one turn, on the bucket with the number that is asked
abbrev pub Asks : (asked place : ℕ) → Words → NsvReply → NsvPass → NsvPass → Type 0
Asks asked place words reply before after =
    OfEach (λ bucket view. TurnsAt asked bucket place words reply (view before) (view after))

-- each bucket is what its history ended in
abbrev pub Close : NsvPass → List Arrays → Type 0
Close pass buckets = OfEach (λ bucket view. Ends (view pass) (arrays_of buckets bucket))
