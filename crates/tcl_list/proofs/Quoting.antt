-- What is written is read again.
use Rattle.std.proofs.Common.{◌≡◌, ℕ, List, [], ◌∷◌, ◌++◌, Bool, true, false, refl, ap, arith, append_assoc, append-nil}
use Rattle.std.specs.Prelude.{◌==◌, ◌&&◌, not}
use Rattle.std.proofs.lemmas.Bool.Decides.{nat_tests}
use Rattle.tcl_list.proofs.Escapes.{escaped_back, sign_back}
use Rattle.txt_core.specs.Balance.{Balanced, nothing, byte, passed, pair, any_byte, no_newline}
use Rattle.txt_core.specs.Counting.{balances, balances_matches}
use Rattle.txt_core.specs.Lists.{done, is_gap, skip_gaps, ends_element, closing, BracedAt, closed_brace, ends, bytes, next, BytesAt, no_byte, some_bytes, opening, bare, ElementAt, in_braces, in_nothing, ElementsAt, no_element, one_element, Reads, elements}
use Rattle.txt_core.specs.Listing.{listing, listing_is}
use Rattle.txt_core.specs.Quoting.{is_special, none_special, is_plain, letter_of, with_backslashes, escaped, written, quoting}

left_of : (p q : Bool) → (p && q) ≡ true → p ≡ true
left_of true q e = refl
left_of false q e = e

right_of : (p q : Bool) → (p && q) ≡ true → q ≡ true
right_of true q e = e
right_of false q e = absurd (cc)

not_true : (p : Bool) → not p ≡ true → p ≡ false
not_true true e = absurd (cc)
not_true false e = refl

-- what matches without a backslash before a newline matches
matches_so : {x : List ℕ} → Balanced no_newline x → Balanced any_byte x
matches_so nothing = nothing
matches_so (byte e h) = byte e (matches_so h)
matches_so (passed e h) = passed refl (matches_so h)
matches_so (pair h k) = pair (matches_so h) (matches_so k)

no_more : (rest : List ℕ) → ends_element rest ≡ true → next false rest ≡ ends
no_more [] h = refl
no_more (b ∷ t) h = rw h refl

plain_next : (b : ℕ) (t : List ℕ) → is_special b ≡ false → next false (b ∷ t) ≡ bytes (b ∷ []) t
plain_next b t h =
    let g : is_gap b ≡ false = grind (arith, nat_tests) in
    let s : (b == 92) ≡ false = grind (arith, nat_tests) in
    rw (g, s) refl

plain_back : (x rest : List ℕ) → none_special x ≡ true → ends_element rest ≡ true → BytesAt false (x ++ rest) x rest
plain_back [] rest h e = no_byte (no_more rest e)
plain_back (b ∷ x) rest h e =
    some_bytes (plain_next b (x ++ rest) (not_true (is_special b) (left_of (not (is_special b)) (none_special x) h))) (plain_back x rest (right_of (not (is_special b)) (none_special x) h) e)

slashed_step : (b : ℕ) (x rest : List ℕ) (p : Bool) → is_special b ≡ p → BytesAt false (with_backslashes x ++ rest) x rest → BytesAt false (with_backslashes (b ∷ x) ++ rest) (b ∷ x) rest
unfolding with_backslashes
slashed_step b x rest true e h =
    let step : next false (92 ∷ letter_of b ∷ (with_backslashes x ++ rest)) ≡ bytes (b ∷ []) (with_backslashes x ++ rest) = ap (λ (y : List ℕ × List ℕ). bytes y.0 y.1) (escaped_back b (with_backslashes x ++ rest) e) in
    rw e (some_bytes step h)
slashed_step b x rest false e h = rw e (some_bytes (plain_next b (with_backslashes x ++ rest) e) h)

slashed_back : (x rest : List ℕ) → ends_element rest ≡ true → BytesAt false (with_backslashes x ++ rest) x rest
unfolding with_backslashes
slashed_back [] rest e = no_byte (no_more rest e)
slashed_back (b ∷ x) rest e = slashed_step b x rest (is_special b) refl (slashed_back x rest e)

-- A text begins with a byte that is no gap.
abbrev Starts : List ℕ → Type 0
Starts [] = ⊥
Starts (b ∷ t) = is_gap b ≡ false

no_gap : (b : ℕ) → is_special b ≡ false → is_gap b ≡ false
no_gap b h = grind (arith, nat_tests)

bare_byte : (b : ℕ) (t : List ℕ) → is_special b ≡ false → opening (b ∷ t) ≡ bare
bare_byte b t h =
    let p : (b == 123) ≡ false = grind (arith, nat_tests) in
    let q : (b == 34) ≡ false = grind (arith, nat_tests) in
    rw (p, q) refl

slashed_starts : (b : ℕ) (x rest : List ℕ) (p : Bool) → is_special b ≡ p → Starts (with_backslashes (b ∷ x) ++ rest)
unfolding with_backslashes
slashed_starts b x rest true e = rw e refl
slashed_starts b x rest false e = rw e (no_gap b e)

slashed_bare : (b : ℕ) (x rest : List ℕ) (p : Bool) → is_special b ≡ p → opening (with_backslashes (b ∷ x) ++ rest) ≡ bare
unfolding with_backslashes
slashed_bare b x rest true e = rw e refl
slashed_bare b x rest false e = rw e (bare_byte b (x ++ rest) e)

-- what a written element has, with what may follow it
record Written (x text rest : List ℕ) : Type 0 where
  starts : Starts (text ++ rest)
  reads : ElementAt (text ++ rest) (done x rest)

in_braces_back : (x rest : List ℕ) → balances false 0 x ≡ true → ends_element rest ≡ true → Written x (123 ∷ (x ++ (125 ∷ []))) rest
in_braces_back x rest h e =
    let closed : BracedAt (x ++ (125 ∷ rest)) (closing x rest) = closed_brace x rest (matches_so (balances_matches x h)) in
    let same : closing x rest ≡ done x rest = rw e refl in
    let shut : BracedAt ((x ++ (125 ∷ [])) ++ rest) (done x rest) = rw (append_assoc x (125 ∷ []) rest, ← same) closed in
    record { starts = refl; reads = in_braces refl shut }

plain_written : (x rest : List ℕ) → is_plain x ≡ true → ends_element rest ≡ true → Written x x rest
plain_written [] rest h e = absurd (cc)
plain_written (b ∷ x) rest h e =
    let none : none_special (b ∷ x) ≡ true = right_of (not (b == 35)) (none_special (b ∷ x)) h in
    let special : is_special b ≡ false = not_true (is_special b) (left_of (not (is_special b)) (none_special x) none) in
    record { starts = no_gap b special; reads = in_nothing (bare_byte b (x ++ rest) special) (plain_back (b ∷ x) rest none e) }

sign_is : (b : ℕ) → (b == 35) ≡ true → b ≡ 35
sign_is b h = grind (arith, nat_tests)

sign_written : (b : ℕ) (x rest : List ℕ) (p : Bool) → (b == 35) ≡ p → ends_element rest ≡ true → Written (b ∷ x) (escaped (b ∷ x)) rest
sign_written b x rest true p e =
    let step : next false (92 ∷ 35 ∷ (with_backslashes x ++ rest)) ≡ bytes (35 ∷ []) (with_backslashes x ++ rest) = ap (λ (y : List ℕ × List ℕ). bytes y.0 y.1) (sign_back (with_backslashes x ++ rest)) in
    let first : BytesAt false (92 ∷ 35 ∷ (with_backslashes x ++ rest)) (35 ∷ x) rest = some_bytes step (slashed_back x rest e) in
    rw (p, sign_is b p) (record { starts = refl; reads = in_nothing refl first })
sign_written b x rest false p e =
    rw p (record { starts = slashed_starts b x rest (is_special b) refl; reads = in_nothing (slashed_bare b x rest (is_special b) refl) (slashed_back (b ∷ x) rest e) })

written_by : (x rest : List ℕ) (p q : Bool) → is_plain x ≡ p → balances false 0 x ≡ q → ends_element rest ≡ true → Written x (written x) rest
unfolding balances
written_by x rest true q ep eq e = rw ep (plain_written x rest ep e)
written_by x rest false true ep eq e = rw (ep, eq) (in_braces_back x rest eq e)
written_by [] rest false false ep eq e = absurd (cc)
written_by (b ∷ x) rest false false ep eq e = rw (ep, eq) (sign_written b x rest (b == 35) refl e)

element_at : (x rest u : List ℕ) (v : List (List ℕ)) → Starts u → ElementAt u (done x rest) → ElementsAt (skip_gaps rest) (done v []) → ElementsAt (skip_gaps u) (done (x ∷ v) [])
unfolding skip_gaps
element_at x rest [] v s h later = absurd s
element_at x rest (b ∷ t) v s h later = rw s (one_element refl h later)

element_back : (x rest : List ℕ) (v : List (List ℕ)) → ends_element rest ≡ true → ElementsAt (skip_gaps rest) (done v []) → ElementsAt (skip_gaps (written x ++ rest)) (done (x ∷ v) [])
element_back x rest v e later =
    let w = written_by x rest (is_plain x) (balances false 0 x) refl refl e in
    element_at x rest (written x ++ rest) v w.starts w.reads later

-- what is written is split into the same elements
pub splits_quote : (v : List (List ℕ)) → Reads (quoting v) (done v [])
unfolding quoting skip_gaps
splits_quote [] = no_element refl
splits_quote (x ∷ []) = rw (← append-nil (written x)) (element_back x [] [] refl (no_element refl))
splits_quote (x ∷ y ∷ v) = element_back x (32 ∷ quoting (y ∷ v)) (y ∷ v) refl (splits_quote (y ∷ v))

pub listing_quoting : (v : List (List ℕ)) → listing (quoting v) ≡ elements v
listing_quoting v = listing_is (quoting v) (elements v) (splits_quote v)
