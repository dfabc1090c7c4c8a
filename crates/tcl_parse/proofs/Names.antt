-- Steps of reading names.
use Rattle.std.proofs.Common.{◌≡◌, ℕ, ◌+◌, ◌-◌, ◌<◌, ◌≤◌, List, [], ◌∷◌, ◌++◌, length, take, drop, get_or, true, false, Some, None, refl, arith, ◌≢◌}
use Rattle.std.specs.Prelude.{◌==◌}
use Rattle.std.specs.List.{prefix_len, position}
use Rattle.std.proofs.lemmas.List.Sums.{prefix_len_is}
use Rattle.std.proofs.lemmas.Grind.{common_steps}
use Rattle.std.proofs.lemmas.Bool.Decides.{nat_tests}
use Rattle.tcl_parse.specs.Bytes.{is_name}
use Rattle.tcl_parse.specs.Names.{name_at, up_to, with_index}

-- the name is the first count bytes
pub name_ends : (count : ℕ) (bs : List ℕ) → ((k : ℕ) → k < count → is_name (get_or bs k 0) ≡ true) → count ≤ length bs → (count < length bs → is_name (get_or bs count 0) ≡ false) → name_at bs ≡ (take count bs, drop count bs)
name_ends count bs h le stop =
    let e : prefix_len is_name bs ≡ count = prefix_len_is is_name bs count 0 le h stop in
    rw e refl

-- a closing parenthesis behind a text, or another byte
pub index_push : (a x : List ℕ) (b : ℕ) → b ≡ 41 → with_index (Some (a, x ++ (b ∷ []))) ≡ Some (a, x)
index_push a x b e = grind (arith, nat_tests, common_steps)

pub index_other : (a x : List ℕ) (b : ℕ) → b ≢ 41 → with_index (Some (a, x ++ (b ∷ []))) ≡ None
index_other a x b e = grind (arith, nat_tests, common_steps)

pub index_none : (a x : List ℕ) → length x ≡ 0 → with_index (Some (a, x)) ≡ None
index_none a [] e = refl
index_none a (b ∷ x) e = absurd (omega arith)

-- what stands on both sides of a place
pub place_none : (c : ℕ) (bs : List ℕ) → None ≡ position (λ b. b == c) bs → None ≡ up_to c bs
place_none c bs e = rw (← e) refl

rest_whole : (bs : List ℕ) (i : ℕ) → take (length bs - (i + 1)) (drop (i + 1) bs) ≡ drop (i + 1) bs
rest_whole bs i = grind (arith, common_steps)

pub place_some : (c i : ℕ) (bs : List ℕ) → Some i ≡ position (λ b. b == c) bs → Some (take i bs, take (length bs - (i + 1)) (drop (i + 1) bs)) ≡ up_to c bs
place_some c i bs e = rw (← e, rest_whole bs i) refl

pub ruleset name_steps = (name_ends)

pub ruleset place_steps = (place_none, place_some)

pub ruleset name_parts = (index_push, index_other, index_none)
