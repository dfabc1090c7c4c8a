-- What comes of a run behind its response.
use Rattle.std.specs.Prelude.{◌≡◌, ℕ, ◌+◌, true, List, [], Option}
use Rattle.txt_core.specs.Names.{Names, Moment}
use Rattle.outside.specs.Paging.{PageMap}
use Rattle.outside.specs.declared.question.Answer.{Answer}
use Rattle.cmd_table.specs.Commands.{Writes}
use Rattle.http_req.specs.declared.request.Request.{Request}
use Rattle.ictl.specs.Came.{Came}
use Rattle.ictl.specs.Falls.{StandsAt, IsWriting}
use Rattle.ictl.specs.Interps.{taken, ending_of, interp_state, Counts, IsSound, IsWithin}
use Rattle.ictl.specs.Main.{Progress, behind, both, answered}
use Rattle.ictl.specs.Visits.{visit_of}
use Rattle.ictl.specs.declared.interp.Interp.{Interp}
use Rattle.ictl.specs.declared.next.Next.TheVariants as next
use Rattle.shared_state.specs.declared.shared.Passes.{Passes}
use Rattle.worker.specs.Asking.{Hears, StandsFor, StaysWithin}
use Rattle.worker.specs.Clean.{edition_in}

-- what comes behind the response at which an interpreter stands, when its runs inside wrote so much up to it
abbrev pub behind_at : Names → Request → Interp → ℕ → List Answer → Progress
behind_at names request i inside further = behind names (edition_in i) i.moment true request (ending_of i.task) (interp_state i) inside further

-- an interpreter stands at its response to this request
abbrev pub IsAtResponseTo : Names → Request → Interp → Type 0
IsAtResponseTo names request i = IsSound names i × (i.visit ≡ visit_of names (edition_in i) request) × IsWriting i

-- It was told that its response was written whole, and stands for what comes behind it; it stays on its blueprint, and what it counted is
-- within what that writes.
pub record GoesBehind (names : Names) (old new : Came) (before after : ℕ) : Type 0 where
  pub stands : (request : Request) (inside : ℕ) → IsAtResponseTo names request old.interp
      → StandsFor names (λ further. behind_at names request old.interp inside further) new.next (inside + taken names after before new.interp old.interp) new.interp
  pub counts : Counts names after before new.interp old.interp
  pub most : (request : Request) (inside : ℕ) → IsAtResponseTo names request old.interp
      → IsWithin (inside + Writes (interp_state old.interp).made) before after new.interp (behind_at names request old.interp inside [])
  pub blueprint : edition_in new.interp ≡ edition_in old.interp
  pub sound : (others : Names) → IsSound others old.interp → IsSound others new.interp

-- The response was written whole, and what comes behind it was run, with its questions answered, until it ended or memory wanted.
pub record RunsBehind (names : Names) (moment : Moment) (held : Option PageMap) (old new : Came) (p q : Passes) (faults faults_after : ℕ)
    (known published : Option ℕ) (had all : List Answer) (before after : ℕ) : Type 0 where
  pub hears : (request : Request) (inside : ℕ) → IsAtResponseTo names request old.interp
      → Hears names moment (λ further. behind_at names request old.interp inside further) p held faults known had new.next
      (inside + taken names after before new.interp old.interp) new.interp q faults_after published all
  pub within : (request : Request) (inside : ℕ) → IsAtResponseTo names request old.interp
      → StaysWithin names (λ further. behind_at names request old.interp inside further) had new.next
      (inside + taken names after before new.interp old.interp) new.interp all (inside + Writes (interp_state old.interp).made) before after
  pub counts : Counts names after before new.interp old.interp
  pub stands : StandsAt new.next new.interp

-- The response was cut short, and nothing runs behind it: the run ended as it had ended up to the response.
pub record EndsCut (names : Names) (old new : Came) (before after : ℕ) : Type 0 where
  pub ended : new.next ≡ next.Ended (both (ending_of old.interp.task) answered)
  pub steps : after ≡ before
  pub state : (request : Request) → IsAtResponseTo names request old.interp → interp_state new.interp ≡ interp_state old.interp
