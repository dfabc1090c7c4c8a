-- The checks on a head, one after another.
use Rattle.std.proofs.Common.{◌≡◌, ℕ, ◌<◌, ◌≤◌, Bool, true, false, length, refl, arith, Option, Some, None}
use Rattle.std.specs.Prelude.{nat_lt, not, if◌then◌else◌}
use Rattle.std.specs.List.{list_any}
use Rattle.std.proofs.lemmas.Bool.Decides.{nat_tests}
use Rattle.http_req.specs.declared.request.Request.{Request}
use Rattle.http_req.specs.Fields.{lengths, are_one_length, body_length, is_coded, is_mixed, has_host}
use Rattle.http_req.specs.Requests.{is_served, refusal}
use Rattle.http_req.specs.Targets.{is_target, is_unsafe}

few_fields : (r : Request) → length r.fields ≤ 100 → nat_lt 100 (length r.fields) ≡ false
few_fields r few = grind (arith, nat_tests)

pub not_below : (a b : ℕ) → b ≤ a → nat_lt a b ≡ false
not_below a b most = grind (arith, nat_tests)

pub below_is : (a b : ℕ) → a < b → nat_lt a b ≡ true
below_is a b less = grind (arith, nat_tests)

pub no_length : (b : Bool) (n : ℕ) → None ≡ (if b then Some n else None) → b ≡ false
no_length true n e = absurd (cc)
no_length false n e = refl

pub a_length : (b : Bool) (n m : ℕ) → Some m ≡ (if b then Some n else None) → (b ≡ true) × (m ≡ n)
a_length true n m e = (refl, cc)
a_length false n m e = absurd (cc)

pub other_method : (r : Request) → length r.fields ≤ 100 → is_served r.method ≡ false → Some 501 ≡ refusal r
unfolding refusal
other_method r few served = rw (few_fields r few, served) refl

pub coded_body : (r : Request) → length r.fields ≤ 100 → is_served r.method ≡ true → is_coded r.fields ≡ true → Some 501 ≡ refusal r
unfolding refusal
coded_body r few served coded = rw (few_fields r few, served, coded) refl

pub mixed_body : (r : Request) → length r.fields ≤ 100 → is_served r.method ≡ true → is_coded r.fields ≡ false → is_mixed r.minor r.fields ≡ true
    → Some 400 ≡ refusal r
unfolding refusal
mixed_body r few served coded mixed = rw (few_fields r few, served, coded, mixed) refl

pub bad_lengths : (r : Request) → length r.fields ≤ 100 → is_served r.method ≡ true → is_coded r.fields ≡ false → is_mixed r.minor r.fields ≡ false
    → are_one_length (lengths r.fields) ≡ false → Some 400 ≡ refusal r
unfolding refusal
bad_lengths r few served coded mixed one = rw (few_fields r few, served, coded, mixed, one) refl

pub long_body : (r : Request) → length r.fields ≤ 100 → is_served r.method ≡ true → is_coded r.fields ≡ false → is_mixed r.minor r.fields ≡ false
    → are_one_length (lengths r.fields) ≡ true → 8388608 < body_length r.fields → Some 413 ≡ refusal r
unfolding refusal
long_body r few served coded mixed one long = rw (few_fields r few, served, coded, mixed, one, below_is 8388608 (body_length r.fields) long) refl

-- the rest of the checks, where those on the body pass
pub the_rest : (r : Request) → length r.fields ≤ 100 → is_served r.method ≡ true → is_coded r.fields ≡ false → is_mixed r.minor r.fields ≡ false
    → are_one_length (lengths r.fields) ≡ true → body_length r.fields ≤ 8388608
    → (host target unsafe : Bool) → has_host r.minor r.fields ≡ host → is_target r.target ≡ target → list_any is_unsafe r.segments ≡ unsafe
    → refusal r ≡ (if host then (if target then (if unsafe then Some 400 else None) else Some 400) else Some 400)
unfolding refusal
the_rest r few served coded mixed one short true true true host target unsafe =
    rw (few_fields r few, served, coded, mixed, one, not_below 8388608 (body_length r.fields) short, host, target, unsafe) refl
the_rest r few served coded mixed one short true true false host target unsafe =
    rw (few_fields r few, served, coded, mixed, one, not_below 8388608 (body_length r.fields) short, host, target, unsafe) refl
the_rest r few served coded mixed one short true false u host target unsafe =
    rw (few_fields r few, served, coded, mixed, one, not_below 8388608 (body_length r.fields) short, host, target) refl
the_rest r few served coded mixed one short false t u host target unsafe =
    rw (few_fields r few, served, coded, mixed, one, not_below 8388608 (body_length r.fields) short, host) refl

pub too_many : (r : Request) → 100 < length r.fields → Some 431 ≡ refusal r
unfolding refusal
too_many r many = rw (below_is 100 (length r.fields) many) refl

-- the checks as a choice
abbrev chain : (many served coded mixed one long host target unsafe : Bool) → Option ℕ
chain many served coded mixed one long host target unsafe =
    if many then Some 431
    else if not served then Some 501
    else if coded then Some 501
    else if mixed then Some 400
    else if not one then Some 400
    else if long then Some 413
    else if not host then Some 400
    else if not target then Some 400
    else if unsafe then Some 400
    else None

passed : (many served coded mixed one long host target unsafe : Bool) → chain many served coded mixed one long host target unsafe ≡ None
    → (one ≡ true) × (long ≡ false)
passed true served coded mixed one long h t u e = absurd (cc)
passed false false coded mixed one long h t u e = absurd (cc)
passed false true true mixed one long h t u e = absurd (cc)
passed false true false true one long h t u e = absurd (cc)
passed false true false false false long h t u e = absurd (cc)
passed false true false false true true h t u e = absurd (cc)
passed false true false false true false h t u e = (refl, refl)

short_is : (a b : ℕ) → nat_lt a b ≡ false → b ≤ a
short_is a b is = grind (arith, nat_tests)

-- of a head that passes, the length of the body is one, and short
pub checks_passed : (r : Request) → refusal r ≡ None → (are_one_length (lengths r.fields) ≡ true) × (body_length r.fields ≤ 8388608)
unfolding refusal
checks_passed r none =
    let both = passed (nat_lt 100 (length r.fields)) (is_served r.method) (is_coded r.fields) (is_mixed r.minor r.fields) (are_one_length (lengths r.fields)) (nat_lt 8388608 (body_length r.fields))
    (has_host r.minor r.fields) (is_target r.target) (list_any is_unsafe r.segments) none in
    (both.0, short_is 8388608 (body_length r.fields) both.1)
