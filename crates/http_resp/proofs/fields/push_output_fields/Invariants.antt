use Rattle.std.proofs.Common.{◌≡◌, ◌++◌, take}
use Rattle.http_resp.specs.OutputFields.{output_lines}
use Rattle.http_resp.proofs.fields.push_output_fields.Given as goal

abbrev pub invariant-loop-name : goal.invariant-loop-name
invariant-loop-name l = l.text.items ≡ l.fn.text.items ++ output_lines (take l.name-index l.name-items)
