-- The last registration of a list that serves.
use Rattle.std.proofs.Common.{◌≡◌, ℕ, ◌+◌, ◌<◌, ◌&&◌, Bool, true, false, List, [], ◌∷◌, ◌++◌, length, take, drop, get_or, Option, Some, None, refl, sym, ap, ◌∙◌, subst, arith}
use Rattle.std.specs.Prelude.{bytes_eq}
use Rattle.std.proofs.lemmas.List.{take-append-drop, drop_more}
use Rattle.url_tables.specs.declared.site.Site.{Site}
use Rattle.url_tables.specs.Urls.{fits}
use Rattle.url_tables.specs.Searching.{or_else, has_pattern_as, serves, words_if, last_serving}
use Rattle.url_tables.proofs.Sites.{or_none}

or_assoc : {A : Type 0} (a b c : Option A) → or_else (or_else a b) c ≡ or_else a (or_else b c)
or_assoc None b c = refl
or_assoc (Some x) b c = refl

last_append : (pattern : Bool) (method : List ℕ) (rest : List (List ℕ)) (sites others : List Site)
    → last_serving pattern method rest (sites ++ others) ≡ or_else (last_serving pattern method rest others) (last_serving pattern method rest sites)
last_append pattern method rest [] others = or_none (last_serving pattern method rest others)
last_append pattern method rest (site ∷ sites) others =
    ap (λ (o : Option (List (List ℕ))). or_else o (words_if (serves pattern method rest site) site)) (last_append pattern method rest sites others)
    ∙ or_assoc (last_serving pattern method rest others) (last_serving pattern method rest sites) (words_if (serves pattern method rest site) site)

at_seam : (pattern : Bool) (method : List ℕ) (rest : List (List ℕ)) (before behind : List Site) (site : Site) → last_serving pattern method rest behind ≡ None → serves pattern method rest site ≡ true
    → last_serving pattern method rest (before ++ site ∷ behind) ≡ Some site.route.words
at_seam pattern method rest before behind site none does =
    last_append pattern method rest before (site ∷ behind)
    ∙ ap (λ (o : Option (List (List ℕ))). or_else (or_else o (words_if (serves pattern method rest site) site)) (last_serving pattern method rest before)) none
    ∙ ap (λ (t : Bool). or_else (words_if t site) (last_serving pattern method rest before)) does

-- one that serves, behind which none does, is the last
pub found_here : (pattern : Bool) (method : List ℕ) (rest : List (List ℕ)) (sites : List Site) (i : ℕ) (site : Site) → i < length sites → site ≡ get_or sites i site
    → last_serving pattern method rest (drop (i + 1) sites) ≡ None → serves pattern method rest site ≡ true → last_serving pattern method rest sites ≡ Some site.route.words
found_here pattern method rest sites i site lt is none does =
    let seam : take i sites ++ site ∷ drop (i + 1) sites ≡ sites =
    ap (λ (s : Site). take i sites ++ s ∷ drop (i + 1) sites) is ∙ ap (λ (s : List Site). take i sites ++ s) (sym (drop_more sites i site lt)) ∙ take-append-drop i sites in
    subst (λ (s : List Site). last_serving pattern method rest s ≡ Some site.route.words) seam (at_seam pattern method rest (take i sites) (drop (i + 1) sites) site none does)

-- one that doesn't serve, behind which none does
pub none_here : (pattern : Bool) (method : List ℕ) (rest : List (List ℕ)) (sites : List Site) (i : ℕ) (site : Site) (t : Bool) → i < length sites → site ≡ get_or sites i site
    → last_serving pattern method rest (drop (i + 1) sites) ≡ None → words_if (serves pattern method rest site) site ≡ None → last_serving pattern method rest (drop i sites) ≡ None
none_here pattern method rest sites i site t lt is none idle =
    ap (last_serving pattern method rest) (drop_more sites i site lt ∙ ap (λ (s : Site). s ∷ drop (i + 1) sites) (sym is))
    ∙ ap (λ (o : Option (List (List ℕ))). or_else o (words_if (serves pattern method rest site) site)) none ∙ idle

idle_by : (suffix : Option (List ℕ)) (same inherit : Bool) → (has_pattern_as true suffix && same && fits inherit suffix []) ≡ false
idle_by None same inherit = refl
idle_by (Some suffix) true inherit = refl
idle_by (Some suffix) false inherit = refl

-- where nothing is left of the path none with a pattern serves
pub no_pattern : (method : List ℕ) (rest : List (List ℕ)) (sites : List Site) → length rest ≡ 0 → last_serving true method rest sites ≡ None
no_pattern method (first ∷ rest) sites is = absurd (omega arith)
no_pattern method [] [] is = refl
no_pattern method [] (site ∷ sites) is =
    ap (λ (o : Option (List (List ℕ))). or_else o (words_if (serves true method [] site) site)) (no_pattern method [] sites is)
    ∙ ap (λ (t : Bool). words_if t site) (idle_by site.suffix (bytes_eq site.method method) site.inherit)
