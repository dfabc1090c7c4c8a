use Rattle.std.proofs.Common.{◌≡◌, ◌<◌, ℕ, List, [], ◌∷◌, ◌++◌, length, take, ap, ◌∙◌, append_assoc, arith}
use Rattle.ns_sets.specs.Fields.{Field}
use Rattle.ns_sets.specs.Sets.{fields_of}
use Rattle.conn_host.proofs.Fields.{one_more_taken}
use Rattle.conn_host.proofs.conn.add_fields.Goals as goal

pub fields-preserved : goal.fields-preserved
fields-preserved c =
    let all : List Field = fields_of c.args.sets.now c.args.set in
    let place : ℕ = c.fields.place in
    let field : Field = (c.in_ok-key.key, c.in_ok-value.value) in
    let within : place < length all = omega (arith, c.fields-test.true, c.fields.invariant.counted) in
    let added : c.add.new.self ≡ c.fields.fields ++ field ∷ [] = c.in_ok-add.ensures.ok in
    record {
      counted = c.fields.invariant.counted;
      within = omega (arith, c.fields-test.true);
      copied = added
          ∙ ap (λ (fields : List Field). fields ++ field ∷ []) c.fields.invariant.copied
          ∙ append_assoc c.args.fields.now (take place all) (field ∷ [])
          ∙ ap (λ (fields : List Field). c.args.fields.now ++ fields) (one_more_taken all place c.in_ok-key.key c.in_ok-value.value (rw c.in_ok-key.ensures.ok at c.key.ensures.key) (rw c.in_ok-value.ensures.ok at c.value.ensures.value) within);
    }
