-- Fields that are taken from a set one after the other.
use Rattle.std.proofs.Common.{◌≡◌, ℕ, ◌<◌, ◌+◌, List, [], ◌∷◌, ◌++◌, Option, Some, None, length, take, ap, sym, ◌∙◌}
use Rattle.std.proofs.lemmas.Grind.{take_at_read}
use Rattle.std.proofs.lemmas.Option.{unwrap_or-slice_get}
use Rattle.std.specs.Prelude.{slice_get, slice_index_or, unwrap_or}
use Rattle.std.specs.Option.{option_map}
use Rattle.ns_sets.specs.Fields.{Field}

key_there : (field : Option Field) (key : List ℕ) → option_map (λ field. field.0) field ≡ Some key → key ≡ (unwrap_or field ([], [])).0
key_there None key is = cc
key_there (Some field) key is = cc

value_there : (field : Option Field) (value : List ℕ) → option_map (λ field. field.1) field ≡ Some value → value ≡ (unwrap_or field ([], [])).1
value_there None value is = cc
value_there (Some field) value is = cc

same_field : (field : Field) (key value : List ℕ) → key ≡ field.0 → value ≡ field.1 → (key, value) ≡ field
same_field field key value keys values = λ i. (keys i, values i)

-- the field of which key and value were read is the next
pub one_more_taken : (fields : List Field) (place : ℕ) (key value : List ℕ) → option_map (λ field. field.0) (slice_get fields place) ≡ Some key → option_map (λ field. field.1) (slice_get fields place) ≡ Some value → place < length fields → take place fields ++ (key, value) ∷ [] ≡ take (place + 1) fields
one_more_taken fields place key value keyed valued within =
    let read : unwrap_or (slice_get fields place) ([], []) ≡ slice_index_or fields place ([], []) = unwrap_or-slice_get fields place ([], []) in
    let keys = key_there (slice_get fields place) key keyed ∙ ap (λ (field : Field). field.0) read in
    let values = value_there (slice_get fields place) value valued ∙ ap (λ (field : Field). field.1) read in
    ap (λ (field : Field). take place fields ++ field ∷ []) (same_field (slice_index_or fields place ([], [])) key value keys values) ∙ sym (take_at_read fields place ([], []) within).1
