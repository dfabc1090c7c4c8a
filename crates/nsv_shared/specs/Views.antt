-- What a pass knows of one bucket.
use Rattle.std.specs.Prelude.{◌≡◌, ◌≢◌, ℕ}
use Rattle.std.specs.FinMap as map
use Rattle.txt_core.specs.Names.{Words}
use Rattle.turn_cell.specs.declared.view.View.{View}
use Rattle.turn_cell.specs.History.{EndsIn}
use Rattle.txt_core.specs.Shares.{WHOLE}
use Rattle.turn_cell.specs.Passes.{fresh}
use Rattle.turn_cell.specs.Steps.{Turns}
use Rattle.nsv_bucket.specs.declared.reply.NsvReply.{NsvReply}
use Rattle.nsv_bucket.specs.Arrays.{Arrays}
use Rattle.nsv_bucket.specs.Steps.{ArraySteps}

-- what a pass knows of one bucket
abbrev pub BucketView : Type 0
BucketView = View Arrays Words NsvReply

-- a pass with the whole share, which knows of no turn, of a bucket that was put in with no array
abbrev pub opening : BucketView
opening = fresh WHOLE 0 map.empty map.empty

-- A turn on the bucket that is asked; any other bucket's pass stays as it is.
abbrev pub TurnsAt : (asked here place : ℕ) → Words → NsvReply → BucketView → BucketView → Type 0
TurnsAt asked here place words reply v w =
    (asked ≡ here → Turns (λ s. Unit {0}) (λ s t. Unit {0}) ArraySteps v place words reply w) × (asked ≢ here → w ≡ v)

-- the turns of a pass are a whole history, and these arrays are what it ended in
abbrev pub Ends : BucketView → Arrays → Type 0
Ends = EndsIn (λ s. Unit {0}) ArraySteps
