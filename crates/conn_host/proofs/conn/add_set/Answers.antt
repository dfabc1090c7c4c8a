use Rattle.std.proofs.Common.{◌≡◌, ℕ, List, [], ◌∷◌, ◌++◌, ◌+◌, Option, take, ap, sym, ◌∙◌}
use Rattle.std.proofs.lemmas.Grind.{take_at_read}
use Rattle.ns_sets.specs.Fields.{Field, with_field}
use Rattle.ns_sets.specs.Sets.{fields_of, with_fields}
use Rattle.ns_sets.specs.declared.set.Set.{Set}
use Rattle.conn_host.specs.Conns.{unnamed}
use Rattle.conn_host.proofs.OneMoreField.{one_more}
use Rattle.conn_host.proofs.conn.add_set.Goals as goal

pub fields-preserved : goal.fields-preserved
fields-preserved c =
    let before : List (Option Set) = c.args.sets.now in
    let items : List Field = c.as_slice-key-items.result.now in
    let place : ℕ = c.fields.key-index in
    let field : Field = c.fields-item.result in
    let put : c.put.new.self ≡ with_fields c.fields.sets c.in_ok-set.set (with_field (fields_of c.fields.sets c.in_ok-set.set) field.0 field.1) = rw c.in_ok-kept.ensures.ok at c.put.ensures.ok in
    let more : c.put.new.self ≡ before ++ unnamed (with_field (take place items) field.0 field.1) ∷ [] = (rw c.fields.invariant at put) ∙ one_more before (take place items) field.0 field.1 c.in_ok-set.set c.in_ok-set.ensures.number in
    let next : take (place + 1) items ≡ take place items ++ field ∷ [] = (take_at_read items place field c.fields-test.true).1 ∙ ap (λ (field : Field). take place items ++ field ∷ []) (sym c.fields-item.is) in
    more ∙ ap (λ (fields : List Field). before ++ unnamed fields ∷ []) (sym next)
