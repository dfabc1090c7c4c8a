use Rattle.std.proofs.Common.{refl}
use Rattle.std.specs.Fmt.{digits}
use Rattle.http_resp.specs.StatusLine.{reason}
use Rattle.http_resp.proofs.head.known_status.Goals as goal

pub returns-in-200 : goal.returns-in-200
unfolding digits reason
returns-in-200 c = rw c.in-200.is refl

pub returns-in-201 : goal.returns-in-201
unfolding digits reason
returns-in-201 c = rw c.in-201.is refl

pub returns-in-204 : goal.returns-in-204
unfolding digits reason
returns-in-204 c = rw c.in-204.is refl

pub returns-in-301 : goal.returns-in-301
unfolding digits reason
returns-in-301 c = rw c.in-301.is refl

pub returns-in-302 : goal.returns-in-302
unfolding digits reason
returns-in-302 c = rw c.in-302.is refl

pub returns-in-304 : goal.returns-in-304
unfolding digits reason
returns-in-304 c = rw c.in-304.is refl

pub returns-in-400 : goal.returns-in-400
unfolding digits reason
returns-in-400 c = rw c.in-400.is refl

pub returns-in-401 : goal.returns-in-401
unfolding digits reason
returns-in-401 c = rw c.in-401.is refl

pub returns-in-403 : goal.returns-in-403
unfolding digits reason
returns-in-403 c = rw c.in-403.is refl

pub returns-in-404 : goal.returns-in-404
unfolding digits reason
returns-in-404 c = rw c.in-404.is refl

pub returns-in-405 : goal.returns-in-405
unfolding digits reason
returns-in-405 c = rw c.in-405.is refl

pub returns-in-413 : goal.returns-in-413
unfolding digits reason
returns-in-413 c = rw c.in-413.is refl

pub returns-in-431 : goal.returns-in-431
unfolding digits reason
returns-in-431 c = rw c.in-431.is refl

pub returns-in-500 : goal.returns-in-500
unfolding digits reason
returns-in-500 c = rw c.in-500.is refl

pub returns-in-501 : goal.returns-in-501
unfolding digits reason
returns-in-501 c = rw c.in-501.is refl

pub returns-in-503 : goal.returns-in-503
unfolding digits reason
returns-in-503 c = rw c.in-503.is refl
