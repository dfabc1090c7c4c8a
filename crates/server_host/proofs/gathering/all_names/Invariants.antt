use Rattle.std.proofs.Common.{◌≡◌, drop}
use Rattle.server_host.specs.Sharing.{all_names}
use Rattle.server_host.proofs.NamesGathered.{behind_names}
use Rattle.server_host.proofs.gathering.all_names.Given as goal

-- the names so far, with those of the answers left
abbrev pub invariant-answers : goal.invariant-answers
invariant-answers l = behind_names l.names (all_names (drop l.answer-index l.answers)) ≡ all_names l.answers
