-- What a search under one front of a path finds is the best of its ranks.
use Rattle.std.proofs.Common.{◌≡◌, ℕ, ◌+◌, ◌*◌, ◌≤◌, Bool, true, false, List, [], ◌∷◌, ◌++◌, length, take, drop, Option, Some, None, refl, sym, ap, ◌∙◌, subst, arith}
use Rattle.std.specs.Prelude.{nat_le, ◌==◌, ◌&&◌, if◌then◌else◌, bytes_eq}
use Rattle.std.specs.Option.{option_map}
use Rattle.std.proofs.lemmas.Bool.Decides.{nat_tests}
use Rattle.std.proofs.lemmas.List.{take-append-drop, length-take-le}
use Rattle.std.proofs.Math.Seq.{take-append_seam}
use Rattle.cmd_table.specs.declared.definition.Def.{Def}
use Rattle.cmd_table.specs.declared.definition.Def.TheVariants.{Proc, Rename, Route, Filter, Cleanup, Set}
use Rattle.url_tables.specs.declared.site.Site.{Site}
use Rattle.url_tables.specs.Urls.{segments, plain_of, suffix_of, below, fits}
use Rattle.url_tables.specs.Serving.{Match, rank, pattern_rank, match_of, route_method, registration, better, route}
use Rattle.url_tables.specs.declared.routes.Routes.{Routes}
use Rattle.url_tables.specs.Tables.{same_path, if_same, kept, sites_at, IsBuiltOf}
use Rattle.url_tables.specs.Searching.{or_else, has_pattern_as, serves, words_if, last_serving, found_at}
use Rattle.url_tables.proofs.Keys.{same, other}
use Rattle.url_tables.proofs.Ranks.{only, best_when, Passes, passes_only, passes_best, is_rank, below_some, below_found, at_most_one, split, stays, from_all}

-- the words of a match
abbrev pub words_of : Option Match → Option (List (List ℕ))
words_of found = option_map (λ (x : Match). x.1) found

pub or_none : {A : Type 0} (a : Option A) → a ≡ or_else a None
or_none None = refl
or_none (Some x) = refl

-- of two of one rank the later one
later : (r : ℕ) (a b : Option Match) → Passes (is_rank r) a → Passes (is_rank r) b → words_of (better a b) ≡ or_else (words_of b) (words_of a)
later r a None h k = refl
later r None (Some b) h k = refl
later r (Some a) (Some b) h k =
    let t : nat_le a.0 b.0 ≡ true = grind (arith, nat_tests) in
    rw t refl

-- one for a pattern
abbrev pub kind_rank : Bool → ℕ
kind_rank true = 1
kind_rank false = 0

kind_at : (pattern : Bool) (suffix : Option (List ℕ)) (plain count : ℕ) → plain ≡ count → (2 * plain + pattern_rank suffix == 2 * count + kind_rank pattern) ≡ has_pattern_as pattern suffix
kind_at true None plain count e = grind (arith, nat_tests)
kind_at true (Some s) plain count e = grind (arith, nat_tests)
kind_at false None plain count e = grind (arith, nat_tests)
kind_at false (Some s) plain count e = grind (arith, nat_tests)

-- the words of the first of these, where it serves
abbrev first_words : Bool → List ℕ → List (List ℕ) → List Site → Option (List (List ℕ))
first_words pattern method rest [] = None
first_words pattern method rest (site ∷ sites) = words_if (serves pattern method rest site) site

no_words : (t f : Bool) (site : Site) → None ≡ words_if ((t && false) && f) site
no_words true f site = refl
no_words false f site = refl

no_fit : (t : Bool) (site : Site) → None ≡ words_if ((t && true) && false) site
no_fit true site = refl
no_fit false site = refl

all_fit : (t : Bool) (m : Match) (site : Site) → site.route.words ≡ m.1 → words_of (if t then Some m else None) ≡ words_if ((t && true) && true) site
all_fit true m site w = ap Some (sym w)
all_fit false m site w = refl

by_fit : (pattern f : Bool) (parts words : List (List ℕ)) (count : ℕ) (site : Site) → site.route.words ≡ words → length (plain_of parts) ≡ count
    → words_of (only (is_rank (2 * count + kind_rank pattern)) (if f then Some (rank parts, words) else None)) ≡ words_if ((has_pattern_as pattern (suffix_of parts) && true) && f) site
by_fit pattern true parts words count site w e =
    rw (kind_at pattern (suffix_of parts) (length (plain_of parts)) count e) (all_fit (has_pattern_as pattern (suffix_of parts)) (rank parts, words) site w)
by_fit pattern false parts words count site w e = no_fit (has_pattern_as pattern (suffix_of parts)) site

by_method : (pattern b : Bool) (inherit : Bool) (parts words path : List (List ℕ)) (count : ℕ) (site : Site) → site.route.words ≡ words → count ≤ length path → plain_of parts ≡ take count path
    → words_of (only (is_rank (2 * count + kind_rank pattern)) (if b then match_of inherit parts (below (plain_of parts) path) words else None))
    ≡ words_if ((has_pattern_as pattern (suffix_of parts) && b) && fits inherit (suffix_of parts) (drop count path)) site
by_method pattern false inherit parts words path count site w le e = no_words (has_pattern_as pattern (suffix_of parts)) (fits inherit (suffix_of parts) (drop count path)) site
by_method pattern true inherit parts words path count site w le e =
    let whole : path ≡ plain_of parts ++ drop count path = sym (take-append-drop count path) ∙ ap (λ (p : List (List ℕ)). p ++ drop count path) (sym e) in
    let left : below (plain_of parts) path ≡ Some (drop count path) = ap (below (plain_of parts)) whole ∙ below_found (plain_of parts) (drop count path) in
    let long : length (plain_of parts) ≡ count = ap length e ∙ length-take-le count path le in
    rw left (by_fit pattern (fits inherit (suffix_of parts) (drop count path)) parts words count site w long)

-- ---- a registration under other segments has another rank, or doesn't match

other_rank : (pattern f : Bool) (parts words path rest : List (List ℕ)) (count : ℕ) → count ≤ length path → below (plain_of parts) path ≡ Some rest → same_path (take count path) (plain_of parts) ≡ false
    → only (is_rank (2 * count + kind_rank pattern)) (if f then Some (rank parts, words) else None) ≡ None
other_rank pattern false parts words path rest count le h o = refl
other_rank pattern true parts words path rest count le h o = by_rank (rank parts == 2 * count + kind_rank pattern) refl
  where
    small : (p : Bool) → kind_rank p ≤ 1
    small true = omega arith
    small false = omega arith

    front : length (plain_of parts) ≡ count → take count path ≡ plain_of parts
    front e = subst (λ (n : ℕ). take n path ≡ plain_of parts) e (ap (take (length (plain_of parts))) (below_some (plain_of parts) path rest h) ∙ taken (plain_of parts) rest)
      where
        taken : (xs ys : List (List ℕ)) → take (length xs) (xs ++ ys) ≡ xs
        taken xs ys = take-append_seam xs ys

    found : Match
    found = (rank parts, words)

    by_rank : (t : Bool) → (rank parts == 2 * count + kind_rank pattern) ≡ t → (if t then Some found else None) ≡ None
    by_rank true e =
        let a = at_most_one (suffix_of parts) in
        let b = small pattern in
        let n : length (plain_of parts) ≡ count = grind (arith, nat_tests) in
        absurd (other (take count path) (plain_of parts) o (front n))
    by_rank false e = refl

other_left : (pattern inherit : Bool) (parts words path : List (List ℕ)) (left : Option (List (List ℕ))) (count : ℕ) → count ≤ length path → below (plain_of parts) path ≡ left → same_path (take count path) (plain_of parts) ≡ false
    → only (is_rank (2 * count + kind_rank pattern)) (match_of inherit parts left words) ≡ None
other_left pattern inherit parts words path None count le h o = refl
other_left pattern inherit parts words path (Some rest) count le h o = other_rank pattern (fits inherit (suffix_of parts) rest) parts words path rest count le h o

other_if : (t : Bool) (test : ℕ → Bool) (o : Option Match) → only test o ≡ None → only test (if t then o else None) ≡ None
other_if true test o h = h
other_if false test o h = refl

-- ---- what is kept of one definition

by_path : (pattern t : Bool) (method registered url : List ℕ) (inherit : Bool) (words path : List (List ℕ)) (count : ℕ) → count ≤ length path → same_path (take count path) (plain_of (segments url)) ≡ t
    → words_of (only (is_rank (2 * count + kind_rank pattern)) (registration method path (Route registered url inherit words)))
    ≡ first_words pattern (route_method method) (drop count path) (if_same t (record { method = registered; suffix = suffix_of (segments url); inherit = inherit; route = record { words = words } }))
by_path pattern true method registered url inherit words path count le e =
    by_method pattern (bytes_eq registered (route_method method)) inherit (segments url) words path count (record { method = registered; suffix = suffix_of (segments url); inherit = inherit; route = record { words = words } }) refl le (sym (same (take count path) (plain_of (segments url)) e))
by_path pattern false method registered url inherit words path count le e =
    ap words_of (other_if (bytes_eq registered (route_method method)) (is_rank (2 * count + kind_rank pattern)) (match_of inherit (segments url) (below (plain_of (segments url)) path) words)
    (other_left pattern inherit (segments url) words path (below (plain_of (segments url)) path) count le refl e))

one : (pattern : Bool) (method : List ℕ) (path : List (List ℕ)) (count : ℕ) (def : Def) → count ≤ length path
    → words_of (only (is_rank (2 * count + kind_rank pattern)) (registration method path def)) ≡ first_words pattern (route_method method) (drop count path) (kept (take count path) def)
one pattern method path count (Route registered url inherit words) le =
    by_path pattern (same_path (take count path) (plain_of (segments url))) method registered url inherit words path count le refl
one pattern method path count (Proc name params body) le = refl
one pattern method path count (Rename old new) le = refl
one pattern method path count (Filter when registered glob words) le = refl
one pattern method path count (Cleanup script) le = refl
one pattern method path count (Set name value) le = refl

kept_first : (pattern t : Bool) (method : List ℕ) (rest : List (List ℕ)) (site : Site) (sites : List Site)
    → last_serving pattern method rest (if_same t site ++ sites) ≡ or_else (last_serving pattern method rest sites) (first_words pattern method rest (if_same t site))
kept_first pattern true method rest site sites = refl
kept_first pattern false method rest site sites = or_none (last_serving pattern method rest sites)

in_front : (pattern : Bool) (method : List ℕ) (rest front : List (List ℕ)) (def : Def) (sites : List Site)
    → last_serving pattern method rest (kept front def ++ sites) ≡ or_else (last_serving pattern method rest sites) (first_words pattern method rest (kept front def))
in_front pattern method rest front (Route registered url inherit words) sites = kept_first pattern (same_path front (plain_of (segments url))) method rest (record { method = registered; suffix = suffix_of (segments url); inherit = inherit; route = record { words = words } }) sites
in_front pattern method rest front (Proc name params body) sites = or_none (last_serving pattern method rest sites)
in_front pattern method rest front (Rename old new) sites = or_none (last_serving pattern method rest sites)
in_front pattern method rest front (Filter when registered glob words) sites = or_none (last_serving pattern method rest sites)
in_front pattern method rest front (Cleanup script) sites = or_none (last_serving pattern method rest sites)
in_front pattern method rest front (Set name value) sites = or_none (last_serving pattern method rest sites)

-- the last that serves under a front of the path is the best of its rank
pub last_is_best : (pattern : Bool) (method : List ℕ) (path : List (List ℕ)) (count : ℕ) (defs : List Def) → count ≤ length path
    → words_of (best_when (is_rank (2 * count + kind_rank pattern)) method path defs) ≡ last_serving pattern (route_method method) (drop count path) (sites_at (take count path) defs)
last_is_best pattern method path count [] le = refl
last_is_best pattern method path count (def ∷ defs) le =
    let r : ℕ = 2 * count + kind_rank pattern in
    later r (only (is_rank r) (registration method path def)) (best_when (is_rank r) method path defs) (passes_only (is_rank r) (registration method path def)) (passes_best (is_rank r) method path defs)
    ∙ ap (λ (o : Option (List (List ℕ))). or_else o (words_of (only (is_rank r) (registration method path def)))) (last_is_best pattern method path count defs le)
    ∙ ap (or_else (last_serving pattern (route_method method) (drop count path) (sites_at (take count path) defs))) (one pattern method path count def le)
    ∙ sym (in_front pattern (route_method method) (drop count path) (take count path) def (sites_at (take count path) defs))

words_or : (a b : Option Match) → words_of (or_else a b) ≡ or_else (words_of a) (words_of b)
words_or None b = refl
words_or (Some a) b = refl

-- from one front of the path on, where nothing was found under a longer one
pub found_is_best : (method : List ℕ) (path : List (List ℕ)) (count : ℕ) (defs : List Def) → count ≤ length path → best_when (nat_le (2 * (count + 1))) method path defs ≡ None
    → words_of (best_when (nat_le (2 * count)) method path defs)
    ≡ or_else (last_serving true (route_method method) (drop count path) (sites_at (take count path) defs)) (last_serving false (route_method method) (drop count path) (sites_at (take count path) defs))
found_is_best method path count defs le none =
    let two : 2 * (count + 1) ≡ 2 * count + 1 + 1 = omega arith in
    let high : best_when (nat_le (2 * count + 1 + 1)) method path defs ≡ None = subst (λ (n : ℕ). best_when (nat_le n) method path defs ≡ None) two none in
    let upper : best_when (nat_le (2 * count + 1)) method path defs ≡ best_when (is_rank (2 * count + 1)) method path defs =
    split (2 * count + 1) method path defs ∙ ap (λ (o : Option Match). or_else o (best_when (is_rank (2 * count + 1)) method path defs)) high in
    let plus : 2 * count + 0 ≡ 2 * count = omega arith in
    ap words_of (split (2 * count) method path defs)
    ∙ words_or (best_when (nat_le (2 * count + 1)) method path defs) (best_when (is_rank (2 * count)) method path defs)
    ∙ ap (λ (o : Option Match). or_else (words_of o) (words_of (best_when (is_rank (2 * count)) method path defs))) upper
    ∙ ap (λ (o : Option (List (List ℕ))). or_else o (words_of (best_when (is_rank (2 * count)) method path defs))) (last_is_best true method path count defs le)
    ∙ ap (or_else (last_serving true (route_method method) (drop count path) (sites_at (take count path) defs))) (subst (λ (n : ℕ). words_of (best_when (is_rank n) method path defs) ≡ last_serving false (route_method method) (drop count path) (sites_at (take count path) defs)) plus (last_is_best false method path count defs le))

-- what is found under a front of the path
pub at_front : (routes : Routes) (method : List ℕ) (path : List (List ℕ)) (count : ℕ) (defs : List Def) → IsBuiltOf routes defs → count ≤ length path → best_when (nat_le (2 * (count + 1))) method path defs ≡ None
    → words_of (best_when (nat_le (2 * count)) method path defs) ≡ found_at routes.sites (route_method method) path count
at_front routes method path count defs b le none =
    found_is_best method path count defs le none
    ∙ ap (λ (s : List Site). or_else (last_serving true (route_method method) (drop count path) s) (last_serving false (route_method method) (drop count path) s)) (sym (b.sites (take count path)))

some_stays : (method : List ℕ) (path : List (List ℕ)) (r : ℕ) (defs : List Def) (o : Option Match) (words : List (List ℕ)) → best_when (nat_le r) method path defs ≡ o → words_of o ≡ Some words → route defs method path ≡ Some words
some_stays method path r defs None words e h = absurd (cc)
some_stays method path r defs (Some m) words e h = ap words_of (stays r method path defs m e) ∙ h

-- where something is found, it serves
pub found_serves : (routes : Routes) (method : List ℕ) (path : List (List ℕ)) (count : ℕ) (defs : List Def) (words : List (List ℕ)) → IsBuiltOf routes defs → count ≤ length path → best_when (nat_le (2 * (count + 1))) method path defs ≡ None
    → Some words ≡ found_at routes.sites (route_method method) path count → Some words ≡ route defs method path
found_serves routes method path count defs words b le none h =
    sym (some_stays method path (2 * count) defs (best_when (nat_le (2 * count)) method path defs) words refl (at_front routes method path count defs b le none ∙ sym h))

no_match : (o : Option Match) → words_of o ≡ None → o ≡ None
no_match None h = refl
no_match (Some m) h = absurd (cc)

-- where nothing is found, nothing serves from there on
pub none_serves : (routes : Routes) (method : List ℕ) (path : List (List ℕ)) (count : ℕ) (defs : List Def) → IsBuiltOf routes defs → count ≤ length path → best_when (nat_le (2 * (count + 1))) method path defs ≡ None
    → None ≡ found_at routes.sites (route_method method) path count → best_when (nat_le (2 * count)) method path defs ≡ None
none_serves routes method path count defs b le none h =
    no_match (best_when (nat_le (2 * count)) method path defs) (at_front routes method path count defs b le none ∙ sym h)

-- and at the end nothing serves at all
pub none_at_all : (method : List ℕ) (path : List (List ℕ)) (r : ℕ) (defs : List Def) → r ≡ 0 → best_when (nat_le r) method path defs ≡ None → None ≡ route defs method path
none_at_all method path r defs zero_is h =
    sym (ap words_of (sym (from_all method path defs) ∙ subst (λ (n : ℕ). best_when (nat_le n) method path defs ≡ None) zero_is h))
