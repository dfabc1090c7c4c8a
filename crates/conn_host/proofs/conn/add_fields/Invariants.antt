use Rattle.std.proofs.Common.{◌≡◌, ◌≤◌, ◌++◌, length, take}
use Rattle.ns_sets.specs.Sets.{fields_of}
use Rattle.conn_host.proofs.conn.add_fields.Given as goal

-- copies of the set's fields so far stand behind those that were there
abbrev pub invariant-fields : goal.invariant-fields
invariant-fields l = record {
  counted : l.count ≡ length (fields_of l.sets l.set);
  within : l.place ≤ l.count;
  copied : l.fields ≡ l.initial.fields ++ take l.place (fields_of l.sets l.set);
}
