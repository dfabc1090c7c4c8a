use Rattle.std.proofs.Common.{◌-◌, length}
use Rattle.rehearse.specs.Playing.{Fetches}
use Rattle.rehearse.proofs.intake.Intake.fetch_bytes.Given as goal

abbrev pub invariant-pieces : goal.invariant-pieces
invariant-pieces g l = Fetches l.fn.self (g.S.Source.rest l.fn.source) (g.S.Source.faults l.fn.source) l.self (g.S.Source.rest l.source) (g.S.Source.faults l.source)

abbrev pub decreases-pieces : goal.decreases-pieces
decreases-pieces g l = l.size - length l.self.left
