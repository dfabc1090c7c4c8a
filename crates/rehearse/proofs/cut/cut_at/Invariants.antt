use Rattle.std.proofs.Common.{◌≡◌, take, true}
use Rattle.std.specs.List.{list_all}
use Rattle.rehearse.specs.Reading.{is_other}
use Rattle.rehearse.proofs.cut.cut_at.Given as goal

abbrev pub invariant-loop-place : goal.invariant-loop-place
invariant-loop-place l = list_all (is_other l.byte) (take l.place l.text) ≡ true
