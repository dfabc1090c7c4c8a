-- How a call begins a run.
use Rattle.std.specs.Prelude.{◌≡◌, ℕ, List}
use Rattle.txt_core.specs.Names.{Names}
use Rattle.outside.specs.declared.question.Answer.{Answer}
use Rattle.ictl.specs.Main.{Progress}
use Rattle.ictl.specs.Interps.{gives}
use Rattle.ictl.specs.declared.interp.Interp.{Interp}
use Rattle.ictl.specs.declared.next.Next.{Next}

module _ (names : Names) where
  -- a run comes to what an interpreter comes to that answered this, where the runs inside that have ended wrote so much
  abbrev pub ComesTo : (List Answer → Progress) → Next → ℕ → Interp → Type 0
  ComesTo run next inside new = (further : List Answer) → run further ≡ gives names next inside new further
