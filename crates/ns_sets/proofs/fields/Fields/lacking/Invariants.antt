use Rattle.std.proofs.Common.{◌≡◌, ◌++◌, take}
use Rattle.ns_sets.specs.Fields.{merged}
use Rattle.ns_sets.proofs.fields.Fields.lacking.Given as goal

abbrev pub invariant-loop-field : goal.invariant-loop-field
invariant-loop-field l = l.self ++ l.fields ≡ merged l.self (take l.field-index l.field-items)
