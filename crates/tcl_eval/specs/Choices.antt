-- What something comes to of which nothing is put on the stack.
use Rattle.std.specs.Prelude.{◌≡◌}
use Rattle.tcl_eval.specs.State.{Rest, Next, spent}
use Rattle.tcl_eval.specs.Going.{give}
use Rattle.tcl_eval.specs.Straight.{Alike}
use Rattle.tcl_eval.specs.declared.engine.Engine.{Engine}
use Rattle.tcl_eval.specs.declared.stack.Once.{Once}
use Rattle.tcl_eval.specs.declared.stack.Once.TheVariants as once

module _ {H : Type 0} where
  -- nothing but the budget changed
  abbrev pub PaidAlone : Engine H → Engine H → Type 0
  PaidAlone new old = new ≡ record old { budget = new.budget }

  -- what this way to go on came to, whatever comes next; where it was left, nothing but the budget changed
  abbrev pub CameTo : Once → Engine H → Engine H → (Next H → Rest H) → Type 0
  CameTo (once.Gives value) new old way = Alike new old (give value) way
  CameTo once.Spent new old way = Alike new old (λ k state budget given. spent state) way
  CameTo once.Left new old way = PaidAlone new old

  -- where it was left, the engine is as it was
  abbrev pub AsItWas : Once → Engine H → Engine H → Type 0
  AsItWas (once.Gives value) new old = Unit {0}
  AsItWas once.Spent new old = Unit {0}
  AsItWas once.Left new old = new ≡ old
