use Rattle.std.proofs.Common.{◌≡◌, ◌+◌, ◌-◌, ◌≤◌, length, take, true}
use Rattle.std.specs.List.{list_all}
use Rattle.rehearse.specs.Events.{most_file}
use Rattle.rehearse.specs.Playing.{Fetches}
use Rattle.rehearse.specs.Reading.{is_other}
use Rattle.rehearse.proofs.intake.Intake.fetch_line.Given as goal

abbrev pub invariant-pieces : goal.invariant-pieces
invariant-pieces g l = record {
  fetches : Fetches l.fn.self (g.S.Source.rest l.fn.source) (g.S.Source.faults l.fn.source) l.self (g.S.Source.rest l.source) (g.S.Source.faults l.source);
  within : l.seen ≤ length l.self.left;
  none : list_all (is_other 10) (take l.seen l.self.left) ≡ true;
}

abbrev pub decreases-pieces : goal.decreases-pieces
decreases-pieces g l = most_file + 1 - length l.self.left
