use Rattle.std.proofs.Common.{◌≡◌, List, ℕ, inl, refl, subst, sym, ap}
use Rattle.http_resp.specs.ResponseBytes.{response_bytes}
use Rattle.worker.proofs.OneItem.{ticked}
use Rattle.worker.proofs.Ending.{want_refuses}
use Rattle.worker.proofs.session.refuse.Goals as goal

pub returns-in-Whole-clause-ends : goal.returns-in-Whole-clause-ends
returns-in-Whole-clause-ends g c =
    (c.moment_of-moment.result, ticked _ _ c.moment.result c.moment_of-moment.result c.moment.ensures c.moment_of-moment.ensures, (refl, rw c.in-Ok.ensures at c.in-Whole.ensures.1))

pub returns-in-WriteFault-clause-ends : goal.returns-in-WriteFault-clause-ends
returns-in-WriteFault-clause-ends g c =
    (c.moment_of-moment.result, ticked _ _ c.moment.result c.moment_of-moment.result c.moment.ensures c.moment_of-moment.ensures, inl (rw c.in-Ok.ensures at c.in-WriteFault.ensures.0, rw c.in-Ok.ensures at c.in-WriteFault.ensures.1))

pub returns-clause-ends : goal.returns-clause-ends
returns-clause-ends g c =
    (c.moment_of-moment.result, ticked _ _ c.moment.result c.moment_of-moment.result c.moment.ensures c.moment_of-moment.ensures, want_refuses c.args.status c.moment_of-moment.result c.end_in_want-in-NoMemory.result _ _ (rw c.in-NoMemory.ensures.0 at c.end_in_want-in-NoMemory.ensures.ends))

pub returns-in_default-clause-ends : goal.returns-in_default-clause-ends
returns-in_default-clause-ends g c =
    (c.moment_of-moment.result, ticked _ _ c.moment.result c.moment_of-moment.result c.moment.ensures c.moment_of-moment.ensures, want_refuses c.args.status c.moment_of-moment.result c.end_in_want.result _ _ c.end_in_want.ensures.ends)
