-- The best registration, by ranks.
use Rattle.std.proofs.Common.{◌≡◌, ℕ, zero, suc, ◌+◌, ◌*◌, ◌<◌, ◌≤◌, Bool, true, false, List, [], ◌∷◌, ◌++◌, length, length-append, Option, Some, None, refl, sym, ap, ◌∙◌, subst, arith}
use Rattle.std.specs.Prelude.{nat_le, ◌==◌, if◌then◌else◌, bytes_eq}
use Rattle.std.proofs.lemmas.Bool.Decides.{nat_tests}
use Rattle.std.proofs.lemmas.Slice.Eq.{bytes_eq-Decides}
use Rattle.cmd_table.specs.declared.definition.Def.{Def}
use Rattle.cmd_table.specs.declared.definition.Def.TheVariants.{Proc, Rename, Route, Filter, Cleanup, Set}
use Rattle.url_tables.specs.Urls.{segments, plain_of, suffix_of, below, fits}
use Rattle.url_tables.specs.Serving.{Match, rank, pattern_rank, match_of, route_method, registration, better, best}
use Rattle.url_tables.specs.Searching.{or_else}

-- ---- a match, where its rank is as a test says

abbrev pub only : (ℕ → Bool) → Option Match → Option Match
only test None = None
only test (Some found) = if test found.0 then Some found else None

-- the best of those whose rank is as a test says
abbrev pub best_when : (ℕ → Bool) → List ℕ → List (List ℕ) → List Def → Option Match
best_when test method path [] = None
best_when test method path (def ∷ defs) = better (only test (registration method path def)) (best_when test method path defs)

pub better_none : (found : Option Match) → better None found ≡ found
better_none None = refl
better_none (Some x) = refl

abbrev pub Passes : (ℕ → Bool) → Option Match → Type 0
Passes test None = Unit {0}
Passes test (Some found) = test found.0 ≡ true

passes_if : (test : ℕ → Bool) (t : Bool) (a b : Option Match) → Passes test a → Passes test b → Passes test (if t then a else b)
passes_if test true a b h k = h
passes_if test false a b h k = k

pub passes_better : (test : ℕ → Bool) (a b : Option Match) → Passes test a → Passes test b → Passes test (better a b)
passes_better test a None h k = h
passes_better test None (Some b) h k = k
passes_better test (Some a) (Some b) h k = passes_if test (nat_le a.0 b.0) (Some b) (Some a) k h

by_test : (test : ℕ → Bool) (found : Match) (t : Bool) → test found.0 ≡ t → Passes test (if t then Some found else None)
by_test test found true e = e
by_test test found false e = tt

pub passes_only : (test : ℕ → Bool) (o : Option Match) → Passes test (only test o)
passes_only test None = tt
passes_only test (Some found) = by_test test found (test found.0) refl

pub passes_best : (test : ℕ → Bool) (method : List ℕ) (path : List (List ℕ)) (defs : List Def) → Passes test (best_when test method path defs)
passes_best test method path [] = tt
passes_best test method path (def ∷ defs) =
    passes_better test (only test (registration method path def)) (best_when test method path defs) (passes_only test (registration method path def)) (passes_best test method path defs)

-- ---- the higher ranks before a rank

abbrev pub is_rank : ℕ → ℕ → Bool
is_rank r x = x == r

or_if : (t : Bool) (a b : Match) (c : Option Match) → (if t then Some a else Some b) ≡ or_else (if t then Some a else Some b) c
or_if true a b c = refl
or_if false a b c = refl

higher : (m : Match) (r : ℕ) (H L : Option Match) → r < m.0 → Passes (is_rank r) L → better (Some m) (or_else H L) ≡ or_else (better (Some m) H) L
higher m r None None lt k = refl
higher m r None (Some l) lt k =
    let below : nat_le m.0 l.0 ≡ false = grind (arith, nat_tests) in
    rw below refl
higher m r (Some h) L lt k = or_if (nat_le m.0 h.0) h m L

equal : (m : Match) (r : ℕ) (H L : Option Match) → m.0 ≡ r → Passes (nat_le (r + 1)) H → better (Some m) (or_else H L) ≡ or_else H (better (Some m) L)
equal m r None L e k = refl
equal m r (Some h) L e k =
    let above : nat_le m.0 h.0 ≡ true = grind (arith, nat_tests) in
    rw above refl

split_by : (m : Match) (r : ℕ) (H L : Option Match) (s t u : Bool) → nat_le r m.0 ≡ s → nat_le (r + 1) m.0 ≡ t → (m.0 == r) ≡ u
    → Passes (nat_le (r + 1)) H → Passes (is_rank r) L
    → better (if s then Some m else None) (or_else H L) ≡ or_else (better (if t then Some m else None) H) (better (if u then Some m else None) L)
split_by m r H L true true false p q v h k =
    higher m r H L (grind (arith, nat_tests)) k ∙ ap (or_else (better (Some m) H)) (sym (better_none L))
split_by m r H L true false true p q v h k =
    equal m r H L (grind (arith, nat_tests)) h ∙ ap (λ (o : Option Match). or_else o (better (Some m) L)) (sym (better_none H))
split_by m r H L false false false p q v h k =
    better_none (or_else H L) ∙ ap (or_else H) (sym (better_none L)) ∙ ap (λ (o : Option Match). or_else o (better None L)) (sym (better_none H))
split_by m r H L true true true p q v h k = absurd (grind (arith, nat_tests))
split_by m r H L true false false p q v h k = absurd (grind (arith, nat_tests))
split_by m r H L false true t p q v h k = absurd (grind (arith, nat_tests))
split_by m r H L false false true p q v h k = absurd (grind (arith, nat_tests))

split_one : (r : ℕ) (o H L : Option Match) → Passes (nat_le (r + 1)) H → Passes (is_rank r) L
    → better (only (nat_le r) o) (or_else H L) ≡ or_else (better (only (nat_le (r + 1)) o) H) (better (only (is_rank r) o) L)
split_one r None H L h k =
    better_none (or_else H L) ∙ ap (or_else H) (sym (better_none L)) ∙ ap (λ (o : Option Match). or_else o (better None L)) (sym (better_none H))
split_one r (Some m) H L h k = split_by m r H L (nat_le r m.0) (nat_le (r + 1) m.0) (m.0 == r) refl refl refl h k

-- from a rank on the best is one of a higher rank, or else one of this
pub split : (r : ℕ) (method : List ℕ) (path : List (List ℕ)) (defs : List Def)
    → best_when (nat_le r) method path defs ≡ or_else (best_when (nat_le (r + 1)) method path defs) (best_when (is_rank r) method path defs)
split r method path [] = refl
split r method path (def ∷ defs) =
    ap (better (only (nat_le r) (registration method path def))) (split r method path defs)
    ∙ split_one r (registration method path def) (best_when (nat_le (r + 1)) method path defs) (best_when (is_rank r) method path defs) (passes_best (nat_le (r + 1)) method path defs) (passes_best (is_rank r) method path defs)

from_zero : (x : ℕ) → nat_le 0 x ≡ true
from_zero x = grind (arith, nat_tests)

all_ranks : (o : Option Match) → only (nat_le 0) o ≡ o
all_ranks None = refl
all_ranks (Some m) = rw (from_zero m.0) refl

-- from rank 0 on it is the best of all
pub from_all : (method : List ℕ) (path : List (List ℕ)) (defs : List Def) → best_when (nat_le 0) method path defs ≡ best method path defs
from_all method path [] = refl
from_all method path (def ∷ defs) =
    ap (λ (o : Option Match). better o (best_when (nat_le 0) method path defs)) (all_ranks (registration method path def)) ∙ ap (better (registration method path def)) (from_all method path defs)

-- where there is one from a rank on, it is the best of all
pub stays : (r : ℕ) (method : List ℕ) (path : List (List ℕ)) (defs : List Def) (m : Match) → best_when (nat_le r) method path defs ≡ Some m → best method path defs ≡ Some m
stays zero method path defs m h = sym (from_all method path defs) ∙ h
stays (suc r) method path defs m h =
    let up : best_when (nat_le (r + 1)) method path defs ≡ Some m = subst (λ (k : ℕ). best_when (nat_le k) method path defs ≡ Some m) (one_more r) h in
    stays r method path defs m (split r method path defs ∙ ap (λ (o : Option Match). or_else o (best_when (is_rank r) method path defs)) up)
  where
    one_more : (n : ℕ) → suc n ≡ n + 1
    one_more n = omega arith

-- ---- no rank is higher than twice the path's length and one

pub below_some : (plain path rest : List (List ℕ)) → below plain path ≡ Some rest → path ≡ plain ++ rest
below_some [] path rest h = cc h
below_some (segment ∷ plain) [] rest h = absurd (cc)
below_some (segment ∷ plain) (first ∷ path) rest h = begun (bytes_eq first segment) first segment plain path rest refl (below_some plain path rest) h
  where
    begun : (t : Bool) (first segment : List ℕ) (plain path rest : List (List ℕ)) → bytes_eq first segment ≡ t → (below plain path ≡ Some rest → path ≡ plain ++ rest)
        → (if t then below plain path else None) ≡ Some rest → first ∷ path ≡ segment ∷ (plain ++ rest)
    begun true first segment plain path rest same later found =
        let e : first ≡ segment = (bytes_eq-Decides first segment).0 same in
        let f : path ≡ plain ++ rest = later found in
        cc
    begun false first segment plain path rest other later found = absurd (cc)

pub below_found : (plain rest : List (List ℕ)) → below plain (plain ++ rest) ≡ Some rest
below_found [] rest = refl
below_found (segment ∷ plain) rest =
    let same : bytes_eq segment segment ≡ true = (bytes_eq-Decides segment segment).1 refl in
    rw same (below_found plain rest)

pub within : (plain path rest : List (List ℕ)) → below plain path ≡ Some rest → length plain + length rest ≡ length path
within plain path rest h = sym (ap length (below_some plain path rest h) ∙ length-append plain rest)

pub at_most_one : (suffix : Option (List ℕ)) → pattern_rank suffix ≤ 1
at_most_one None = omega arith
at_most_one (Some s) = omega arith

low_match : (inherit t : Bool) (parts words path rest : List (List ℕ)) (r : ℕ) → 2 * (length path + 1) ≤ r → length (plain_of parts) + length rest ≡ length path
    → only (nat_le r) (if t then Some (rank parts, words) else None) ≡ None
low_match inherit true parts words path rest r h e =
    let one = at_most_one (suffix_of parts) in
    let under : nat_le r (2 * length (plain_of parts) + pattern_rank (suffix_of parts)) ≡ false = grind (arith, nat_tests) in
    rw under refl
low_match inherit false parts words path rest r h e = refl

low_rest : (inherit : Bool) (parts words path : List (List ℕ)) (left : Option (List (List ℕ))) (r : ℕ) → 2 * (length path + 1) ≤ r → below (plain_of parts) path ≡ left
    → only (nat_le r) (match_of inherit parts left words) ≡ None
low_rest inherit parts words path None r h e = refl
low_rest inherit parts words path (Some rest) r h e =
    low_match inherit (fits inherit (suffix_of parts) rest) parts words path rest r h (within (plain_of parts) path rest e)

low_if : (t : Bool) (test : ℕ → Bool) (o : Option Match) → only test o ≡ None → only test (if t then o else None) ≡ None
low_if true test o h = h
low_if false test o h = refl

low : (method : List ℕ) (path : List (List ℕ)) (def : Def) (r : ℕ) → 2 * (length path + 1) ≤ r → only (nat_le r) (registration method path def) ≡ None
low method path (Route registered url inherit words) r h =
    low_if (bytes_eq registered (route_method method)) (nat_le r) (match_of inherit (segments url) (below (plain_of (segments url)) path) words) (low_rest inherit (segments url) words path (below (plain_of (segments url)) path) r h refl)
low method path (Proc name params body) r h = refl
low method path (Rename old new) r h = refl
low method path (Filter when registered pattern words) r h = refl
low method path (Cleanup script) r h = refl
low method path (Set name value) r h = refl

pub none_above : (method : List ℕ) (path : List (List ℕ)) (defs : List Def) (r : ℕ) → 2 * (length path + 1) ≤ r → best_when (nat_le r) method path defs ≡ None
none_above method path [] r h = refl
none_above method path (def ∷ defs) r h =
    ap (λ (o : Option Match). better o (best_when (nat_le r) method path defs)) (low method path def r h) ∙ better_none (best_when (nat_le r) method path defs) ∙ none_above method path defs r h
