use Rattle.std.proofs.Common.{◌≡◌, ◌++◌, List, ℕ, map}
use Rattle.form_urlencoded.specs.Parse.{raw_pairs_left}
use Rattle.conn_host.specs.Forms.{form_text, form_fields}
use Rattle.conn_host.proofs.form.add_form.Given as goal

abbrev pub invariant-pairs : goal.invariant-pairs
invariant-pairs l = l.fields ++ map (λ (pair : List ℕ × List ℕ). (form_text pair.0, form_text pair.1)) (raw_pairs_left l.name-iterator) ≡ l.fn.fields ++ form_fields l.fn.form
