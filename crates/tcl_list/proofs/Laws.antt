-- Each text has exactly one answer.
use Rattle.std.proofs.Common.{◌≡◌, ℕ, List, ◌⊎◌, inl, inr}
use Rattle.txt_core.specs.Lists.{Listing, elements, bad_at, Lists, IsList, IsBadAt}
use Rattle.txt_core.specs.Listing.{listing, lists_listing, listing_is}

answer_by : (t : List ℕ) (a : Listing) → Lists t a → ((v : List (List ℕ)) × IsList t v) ⊎ ((place : ℕ) × IsBadAt t place)
answer_by t (elements v) h = inl (v, h)
answer_by t (bad_at place) h = inr (place, h)

pub some_answer : (t : List ℕ) → ((v : List (List ℕ)) × IsList t v) ⊎ ((place : ℕ) × IsBadAt t place)
some_answer t = answer_by t (listing t) (lists_listing t)

pub same_list : (t : List ℕ) (v w : List (List ℕ)) → IsList t v → IsList t w → v ≡ w
same_list t v w h k =
    let e = listing_is t (elements v) h in
    let f = listing_is t (elements w) k in
    cc

pub same_place : (t : List ℕ) (p q : ℕ) → IsBadAt t p → IsBadAt t q → p ≡ q
same_place t p q h k =
    let e = listing_is t (bad_at p) h in
    let f = listing_is t (bad_at q) k in
    cc

pub list_or_place : (t : List ℕ) (v : List (List ℕ)) (p : ℕ) → IsList t v → IsBadAt t p → ⊥
list_or_place t v p h k =
    let e = listing_is t (elements v) h in
    let f = listing_is t (bad_at p) k in
    absurd (cc)
