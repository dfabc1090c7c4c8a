use Rattle.std.proofs.Common.{◌≡◌, take}
use Rattle.ns_sets.proofs.fields.Fields.copied.Given as goal

abbrev pub invariant-loop-field : goal.invariant-loop-field
invariant-loop-field l = l.fields ≡ take l.field-index l.field-items
