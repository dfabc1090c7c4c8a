-- What a turn on one bucket is for each bucket.
use Rattle.std.proofs.Common.{◌≡◌, ◌≢◌, ℕ, List, refl, ap, sym, ◌∙◌}
use Rattle.turn_cell.specs.Steps.{Turns}
use Rattle.nsv_bucket.specs.declared.reply.NsvReply.{NsvReply}
use Rattle.nsv_bucket.specs.Steps.{ArraySteps}
use Rattle.nsv_shared.specs.Views.{BucketView, TurnsAt}

module _ (asked here place : ℕ) (words : List (List ℕ)) (reply : NsvReply) (v w : BucketView) where
  -- the bucket that is asked has the turn
  pub took : asked ≡ here → Turns (λ s. Unit {0}) (λ s t. Unit {0}) ArraySteps v place words reply w → TurnsAt asked here place words reply v w
  took is turn = (λ e. turn, λ other. absurd (other is))

  -- any other one stays
  pub stayed : asked ≢ here → w ≡ v → TurnsAt asked here place words reply v w
  stayed other same = (λ is. absurd (other is), λ n. same)

  -- a turn leaves the share
  pub turn_units : Turns (λ s. Unit {0}) (λ s t. Unit {0}) ArraySteps v place words reply w → w.units ≡ v.units
  turn_units turn = ap (λ (u : BucketView). u.units) turn.adds
