-- One more field of the last set.
use Rattle.std.proofs.Common.{◌≡◌, ℕ, List, [], ◌∷◌, ◌++◌, Option, None, length, sym}
use Rattle.std.proofs.lemmas.List.{get_or_at, set_at}
use Rattle.std.specs.Prelude.{slice_set}
use Rattle.ns_sets.specs.Fields.{Field, with_field}
use Rattle.ns_sets.specs.Sets.{set_of, fields_of, with_fields}
use Rattle.ns_sets.specs.declared.set.Set.{Set}
use Rattle.conn_host.specs.Conns.{unnamed}

-- the set behind others is the one of their number
pub last_set : (sets : List (Option Set)) (set : Option Set) (number : ℕ) → number ≡ length sets → set_of (sets ++ set ∷ []) number ≡ set
last_set sets set number is = get_or_at sets set [] None number (sym is)

pub one_more : (sets : List (Option Set)) (fields : List Field) (key value : List ℕ) (number : ℕ) → number ≡ length sets → with_fields (sets ++ unnamed fields ∷ []) number (with_field (fields_of (sets ++ unnamed fields ∷ []) number) key value) ≡ sets ++ unnamed (with_field fields key value) ∷ []
one_more sets fields key value number is = rw (last_set sets (unnamed fields) number is) (set_at sets (unnamed fields) [] (unnamed (with_field fields key value)) number (sym is))

-- the last set is freed
pub last_freed : (sets : List (Option Set)) (set : Option Set) (number : ℕ) → number ≡ length sets → slice_set (sets ++ set ∷ []) number None ≡ sets ++ None ∷ []
last_freed sets set number is = set_at sets set [] None number (sym is)
