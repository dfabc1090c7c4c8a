-- What holds from a moment on holds from an earlier one on, since counts don't fall.
use Rattle.std.proofs.Common.{◌≡◌, ◌<◌, ◌≤◌, ◌⊎◌, inl, inr, ⊎_elim, ℕ, List, Option, arith}
use Rattle.outside.specs.Clocks.{Dial}
use Rattle.outside.specs.Faults.{Rose, last_count}
use Rattle.outside.specs.Paging.{PageMap}
use Rattle.tcl_eval.specs.declared.outcome.Outcome.{Outcome}
use Rattle.tcl_eval.specs.declared.outcome.Outcome.TheVariants as outcomes
use Rattle.worker.specs.Outside.{RoseBy}
use Rattle.serve_run.specs.Starting.{DefinesAlone, Starts, StartsWell, StartsBadly}
use Rattle.serve_run.specs.declared.ended.StartFault.{StartFault}
use Rattle.serve_run.specs.declared.ended.StartFault.TheVariants as start

pub rose_earlier : (a b c : ℕ) → a ≤ b → Rose b c → Rose a c
rose_earlier a b c first (inl more) = inl (omega (arith, first, more))
rose_earlier a b c first (inr last) = inr last

rose_by_earlier : (n a b c : ℕ) → a ≤ b → RoseBy n b c → RoseBy n a c
rose_by_earlier n a b c first (inl more) = inl (omega (arith, first, more))
rose_by_earlier n a b c first (inr last) = inr last

module _ (names : List (List ℕ)) (held : Option PageMap) where
  pub defines_earlier : (script : List ℕ) (moment a b c : ℕ) (outcome : Outcome) → a ≤ b → DefinesAlone names held script moment b c outcome
      → DefinesAlone names held script moment a c outcome
  defines_earlier script moment a b c outcome first d = record {
    look = d.look;
    turns = d.turns;
    answers = d.answers;
    is_look = d.is_look;
    alone = d.alone;
    asked = d.asked;
    pages = d.pages;
    counts = rose_by_earlier _ a b c first d.counts;
    last = d.last;
    inside = d.inside;
    ended = d.ended;
  }

  starts_earlier : (path : List ℕ) (clock : Option Dial) (a b c : ℕ) (outcome : Outcome) → a ≤ b → Starts names path held b clock c outcome
      → Starts names path held a clock c outcome
  starts_earlier path clock a b c outcome first s = record {
    page = s.page;
    is_page = s.is_page;
    fits = s.fits;
    moment = s.moment;
    is_reading = s.is_reading;
    defines = defines_earlier s.page s.moment a b c outcome first s.defines;
  }

  pub well_earlier : (path : List ℕ) (clock : Option Dial) (a b c : ℕ) → a ≤ b → StartsWell names path held b clock c → StartsWell names path held a clock c
  well_earlier path clock a b c first s = (s.0, starts_earlier path clock a b c s.0 first s.1, s.2)

  pub badly_earlier : (path : List ℕ) (clock : Option Dial) (a b c : ℕ) (fault : StartFault) → a ≤ b → StartsBadly names path held b clock c fault
      → StartsBadly names path held a clock c fault
  badly_earlier path clock a b c start.NoPage first s = s
  badly_earlier path clock a b c start.Unreadable first s = rose_earlier a b c first s
  badly_earlier path clock a b c start.TooLong first s = s
  badly_earlier path clock a b c (start.Error text) first s = (s.0, starts_earlier path clock a b c s.0 first s.1, s.2)
  badly_earlier path clock a b c start.Spent first s = starts_earlier path clock a b c outcomes.Spent first s
  badly_earlier path clock a b c start.TooDeep first s = starts_earlier path clock a b c outcomes.TooDeep first s
