use Rattle.std.proofs.Common.{[], ◌∷◌, ◌++◌, sym, rules, append-nil, append_assoc}
use Rattle.txt_core.specs.Forms.{form_of}
use Rattle.txt_core.specs.Lists.{no_byte, some_bytes}
use Rattle.tcl_list.proofs.element.bytes_of.Goals as goal

pub returns-in-Ends-clause-same : goal.returns-in-Ends-clause-same
returns-in-Ends-clause-same c =
    rw (← append-nil c.bytes.text.items) (c.bytes.invariant.same [] c.bytes.rest.now (no_byte (sym c.in-Ends.ensures.same)))

pub bytes-preserved-in-Byte : goal.bytes-preserved-in-Byte
bytes-preserved-in-Byte c = record {
  same = λ x r h. rw (c.in_ok-push-in-Byte.ensures.items, append_assoc) (c.bytes.invariant.same ((c.in-Byte.b ∷ []) ++ x) r (some_bytes (sym c.in-Byte.ensures.same) h));
  goes = search rules;
}

pub bytes-preserved : goal.bytes-preserved
bytes-preserved c = record {
  same = λ x r h. rw (c.in_ok-extend_from_slice-in-Escaped.ensures.items, append_assoc) (c.bytes.invariant.same (form_of c.in-Escaped.form ++ x) r (some_bytes (sym c.in-Escaped.ensures.same) h));
  goes = search rules;
}
