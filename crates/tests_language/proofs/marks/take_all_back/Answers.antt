use Rattle.std.proofs.Common.{sym, ap, subst}
use Rattle.tcl_frame.specs.Stack.{Stack}
use Rattle.tcl_frame.specs.Base.{IsAtBase}
use Rattle.tcl_eval.specs.State.{State}
use Rattle.tests_language.specs.declared.echo.Echo.{Echo}
use Rattle.tests_language.proofs.marks.take_all_back.Goals as goal

pub unkeep-requires-clause-base : goal.unkeep-requires-clause-base
unkeep-requires-clause-base g c =
    subst (λ (s : State Echo). IsAtBase s.frames) (sym c.clear.ensures.state) (c.base_scalars_stand.ensures.cleared c.args.engine.now.frames)
