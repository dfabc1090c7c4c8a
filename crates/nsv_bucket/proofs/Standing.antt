-- The array of a name, by what a look-up finds.
use Rattle.std.proofs.Common.{◌≡◌, ℕ, Option, Some, None, List, [], is_some, sym, ap, ◌∙◌}
use Rattle.std.specs.FinMap as map
use Rattle.std.specs.FinMap.{get-empty, len-empty}
use Rattle.std.specs.Option.{unwrap_or}
use Rattle.std.specs.Map.{lookup}
use Rattle.std.specs.BTreeMap.{BTreeMap, is_at, WritesThrough}
use Rattle.nsv_bucket.specs.Arrays.{text_cmp, Array, Arrays, seen, array_of, text_at, value_of}
use Rattle.txt_core.specs.Quoting.{quoting}
use Rattle.nsv_bucket.specs.Listings.{names_in, pairs_in}
use Rattle.nsv_bucket.proofs.Maps.{got, one_put, written_back, none_listed}

pub seen_at : (m : BTreeMap (List ℕ) Array) (name : List ℕ) (o : Option Array) → lookup (is_at (text_cmp name)) m.entries ≡ o → map.get (seen m) name ≡ o
seen_at m name o h = got m.entries name ∙ h

pub stands : (m : BTreeMap (List ℕ) Array) (name : List ℕ) (array : Array) → lookup (is_at (text_cmp name)) m.entries ≡ Some array → array_of (seen m) name ≡ array
stands m name array h = ap (λ o. unwrap_or o map.empty) (seen_at m name (Some array) h)

pub lacks : (m : BTreeMap (List ℕ) Array) (name : List ℕ) → lookup (is_at (text_cmp name)) m.entries ≡ None → array_of (seen m) name ≡ map.empty
lacks m name h = ap (λ o. unwrap_or o map.empty) (seen_at m name None h)

-- the same by what the finite map has
pub absent : (m : Arrays) (name : List ℕ) → map.get m name ≡ None → array_of m name ≡ map.empty
absent m name h = ap (λ o. unwrap_or o map.empty) h

pub no_value : (m : Arrays) (name key : List ℕ) → map.get m name ≡ None → value_of m name key ≡ None
no_value m name key h = ap (λ a. map.get a key) (absent m name h) ∙ get-empty text_cmp key

pub no_size : (m : Arrays) (name : List ℕ) → map.get m name ≡ None → map.len (array_of m name) ≡ 0
no_size m name h = ap map.len (absent m name h) ∙ len-empty text_cmp (List ℕ)

-- an absent array has no key to list
pub no_pairs : (m : Arrays) (name : List ℕ) (pattern : Option (List ℕ)) → map.get m name ≡ None → quoting (pairs_in pattern (map.entries (array_of m name))) ≡ []
unfolding quoting
no_pairs m name pattern h = ap (λ a. quoting (pairs_in pattern (map.entries a))) (absent m name h) ∙ ap (λ es. quoting (pairs_in pattern es)) none_listed

pub no_names : (m : Arrays) (name : List ℕ) (pattern : Option (List ℕ)) → map.get m name ≡ None → quoting (names_in pattern (map.entries (array_of m name))) ≡ []
unfolding quoting
no_names m name pattern h = ap (λ a. quoting (names_in pattern (map.entries a))) (absent m name h) ∙ ap (λ es. quoting (names_in pattern es)) none_listed

-- what a write through a look-up leaves
pub written : (m n : BTreeMap (List ℕ) Array) (name : List ℕ) (old new : Array) → lookup (is_at (text_cmp name)) m.entries ≡ Some old → WritesThrough text_cmp (text_cmp name) m new n → seen n ≡ map.insert (seen m) name new
written m n name old new h w = one_put m.entries n.entries name new (w.3 (ap is_some h)).0

pub unwritten : (m n : BTreeMap (List ℕ) Array) (name : List ℕ) (old new : Array) → lookup (is_at (text_cmp name)) m.entries ≡ Some old → WritesThrough text_cmp (text_cmp name) m new n → new ≡ old → seen n ≡ seen m
unwritten m n name old new h w same = written_back m.entries n.entries (is_at (text_cmp name)) new w.0 (h ∙ ap Some (sym same))

-- the value of a key, by what a look-up in the entries of the array finds
module _ (es : List (List ℕ × List ℕ)) (array : Array) (key : List ℕ) (view : map.from_entries {R = text_cmp} es ≡ array) where
  pub value_stands : (text : List ℕ) → lookup (is_at (text_cmp key)) es ≡ Some text → text_at array key ≡ text
  value_stands text h = ap (λ o. unwrap_or o []) (ap (λ m. map.get m key) (sym view) ∙ got es key ∙ h)

  pub value_lacks : lookup (is_at (text_cmp key)) es ≡ None → text_at array key ≡ []
  value_lacks h = ap (λ o. unwrap_or o []) (ap (λ m. map.get m key) (sym view) ∙ got es key ∙ h)

-- the value of a key of an absent array
pub lacks_value : (m : BTreeMap (List ℕ) Array) (name key : List ℕ) → lookup (is_at (text_cmp name)) m.entries ≡ None → text_at (array_of (seen m) name) key ≡ []
lacks_value m name key h = ap (λ a. text_at a key) (lacks m name h) ∙ ap (λ o. unwrap_or o []) (get-empty text_cmp key)
