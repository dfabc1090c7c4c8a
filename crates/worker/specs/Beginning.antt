-- What comes of an interpreter as newly made that begins a run.
use Rattle.std.specs.Prelude.{◌≡◌, ℕ, ◌+◌, []}
use Rattle.txt_core.specs.Names.{Bytes, Names, Moment}
use Rattle.cmd_table.specs.Commands.{Writes}
use Rattle.http_req.specs.declared.request.Request.{Request}
use Rattle.ictl.specs.Interps.{taken, interp_state, Counts, IsNew, IsSound, IsWithin, UnlessNoMemory}
use Rattle.ictl.specs.Main.{Main, Script, Define}
use Rattle.ictl.specs.Visits.{visit_of}
use Rattle.ictl.specs.declared.interp.Interp.{Interp}
use Rattle.ictl.specs.declared.next.Next.{Next}
use Rattle.worker.specs.Asking.{StandsFor}
use Rattle.worker.specs.Clean.{edition_in}

-- It stands for the run of a scheduled script on its blueprint, and stays on that; what it counted is within what that run writes.
pub record BeginsScript (names : Names) (script : Bytes) (moment : Moment) (came : Next) (before after : ℕ) (new old : Interp) : Type 0 where
  pub stands : StandsFor names (λ further. Script names (edition_in old) script moment further) came (taken names after before new old) new
  pub counts : Counts names after before new old
  pub most : IsWithin 0 before after new (Script names (edition_in old) script moment [])
  pub blueprint : edition_in new ≡ edition_in old
  pub sound : (others : Names) → IsSound others old → IsSound others new

-- The same of a definition run, in which nothing runs inside.
pub record BeginsDefine (names : Names) (script : Bytes) (moment : Moment) (came : Next) (before after : ℕ) (new old : Interp) : Type 0 where
  pub stands : StandsFor names (λ further. Define names (edition_in old) script moment further) came 0 new
  pub steps : after + Writes (interp_state old).made ≡ before + Writes (interp_state new).made
  pub most : IsWithin 0 before after new (Define names (edition_in old) script moment [])
  pub blueprint : edition_in new ≡ edition_in old
  pub sound : (others : Names) → IsSound others old → IsSound others new

-- The same of the run of a request, which goes through what its blueprint has for it.
pub record BeginsRequest (names : Names) (request : Request) (moment : Moment) (came : Next) (before after : ℕ) (new old : Interp) : Type 0 where
  pub fresh : IsNew names old
  pub stands : StandsFor names (λ further. Main names (edition_in old) request moment further) came (taken names after before new old) new
  pub visit : UnlessNoMemory came ((new.visit ≡ visit_of names (edition_in old) request) × (new.moment ≡ moment))
  pub counts : Counts names after before new old
  pub most : IsWithin 0 before after new (Main names (edition_in old) request moment [])
  pub blueprint : edition_in new ≡ edition_in old
  pub sound : (others : Names) → IsSound others old → IsSound others new
