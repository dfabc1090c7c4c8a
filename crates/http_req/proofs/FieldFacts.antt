-- Numbers in digits, and the values of the fields of one name.
use Rattle.std.proofs.Common.{◌≡◌, ◌≢◌, ℕ, ◌+◌, ◌-◌, ◌*◌, ◌^◌, ◌<◌, ◌≤◌, Bool, true, false, ◌&&◌, ◌||◌, not, List, [], ◌∷◌, ◌++◌, length, take, map, refl, sym, ap, ◌∙◌, subst, arith, get_or, add-one, Option, Some, None}
use Rattle.std.proofs.lemmas.Bool.Decides.{nat_tests}
use Rattle.std.proofs.lemmas.Int.Digits.{digits_value_push}
use Rattle.std.proofs.lemmas.Str.{digit_value_digit}
use Rattle.std.proofs.lemmas.Str.Parse.{digits_value-take-le, digit_at, digits_value_short, numerals_by_value, tells_digits}
use Rattle.std.proofs.Math.Seq.{take-suc}
use Rattle.std.specs.Prelude.{filter, find, nat_lt, nat_le}
use Rattle.std.proofs.lemmas.List.Sums.{length-filter}
use Rattle.std.specs.Char.{digit_value, is_ascii_digit, to_ascii_lowercase}
use Rattle.std.specs.Int.{IsInRange}
use Rattle.std.specs.List.{list_all}
use Rattle.std.specs.Str.Parse.{digits_value, AllDigits}
use Rattle.std.specs.Prelude.{cond, if◌then◌else◌, codes}
use Rattle.std.specs.Str.{bytes_eq}
use Rattle.std.proofs.lemmas.Slice.Eq.{bytes_eq-Decides}
use Rattle.std.proofs.lemmas.List.Folds.{list_all-map}
use Rattle.http_req.specs.Fields.{is_named, codings, are_chunked, is_chunked, count_of, is_length, are_one_length, length_of, lengths, body_length}

digit_is : (b : ℕ) → is_ascii_digit b ≡ true → IsInRange 48 57 b
digit_is b is = grind (arith, nat_tests)

digit_small : (b : ℕ) → is_ascii_digit b ≡ true → digit_value b < 10
digit_small b is = omega (arith, digit_value_digit b (digit_is b is), digit_is b is)

and_true : (a b : Bool) → (a && b) ≡ true → (a ≡ true) × (b ≡ true)
and_true true b e = (refl, e)
and_true false b e = absurd (cc)

pub and_first : (a b : Bool) → a ≡ false → (a && b) ≡ false
and_first true b e = absurd (cc)
and_first false b e = refl

pub and_second : (a b : Bool) → b ≡ false → (a && b) ≡ false
and_second true b e = e
and_second false b e = refl

all_digits : (ds : List ℕ) → list_all is_ascii_digit ds ≡ true → AllDigits 10 ds
all_digits [] all = tt
all_digits (d ∷ ds) all =
    let both = and_true (is_ascii_digit d) (list_all is_ascii_digit ds) all in
    (digit_small d both.0, all_digits ds both.1)

-- a step along the digits of a length: the next one is a digit, and the number so far and with it fits
pub record DigitAt (ds : List ℕ) (i : ℕ) : Type 0 where
  pub low : 48 ≤ get_or ds i 0
  pub high : get_or ds i 0 ≤ 57
  pub next : digits_value 10 (take (i + 1) ds) ≡ 10 * digits_value 10 (take i ds) + (get_or ds i 0 - 48)
  pub fits : digits_value 10 (take (i + 1) ds) < 10000000000000000000

pub digit_step : (ds : List ℕ) (i : ℕ) → is_length ds ≡ true → i < length ds → DigitAt ds i
digit_step ds i length_is inside =
    let both = and_true (nat_lt 0 (length ds) && nat_le (length ds) 19) (list_all is_ascii_digit ds) length_is in
    let sizes = and_true (nat_lt 0 (length ds)) (nat_le (length ds) 19) both.0 in
    let short : length ds ≤ 19 = short_is sizes.1 in
    let all = all_digits ds both.1 in
    let at = digit_at ds i all inside in
    let more : take (i + 1) ds ≡ take i ds ++ get_or ds i 0 ∷ [] = rw add-one (take-suc ds i 0 inside) in
    let value : digits_value 10 (take (i + 1) ds) ≡ digits_value 10 (take i ds) * 10 + digit_value (get_or ds i 0) =
    ap (digits_value 10) more ∙ digits_value_push 10 (take i ds) (get_or ds i 0) in
    let below : digits_value 10 ds < 10 ^ 19 = digits_value_short (numerals_by_value (AllDigits 10) tells_digits) ds 19 all short in
    record {
      low = omega (arith, at);
      high = omega (arith, at);
      next = omega (arith, value, digit_value_digit (get_or ds i 0) at, at);
      fits = omega (arith, digits_value-take-le 10 ds (i + 1) (omega arith), below);
    }
  where
    short_is : nat_le (length ds) 19 ≡ true → length ds ≤ 19
    short_is e = grind (arith, nat_tests)

-- ---- the fields of one name

find_none : {A : Type 0} (p : A → Bool) (xs : List A) → find p xs ≡ None → filter p xs ≡ []
find_none p [] e = refl
find_none {A} p (x ∷ xs) e = go (p x) (λ e. find_none p xs e) e
  where
    go : (b : Bool) → (find p xs ≡ None → filter p xs ≡ []) → cond b (Some x) (find p xs) ≡ None
        → cond b (x ∷ filter p xs) (filter p xs) ≡ []
    go true rest e = absurd (cc)
    go false rest e = rest e

find_some : {A : Type 0} (p : A → Bool) (xs : List A) (first : A) → find p xs ≡ Some first
    → (others : List A) × (filter p xs ≡ first ∷ others)
find_some p [] first e = absurd (cc)
find_some {A} p (x ∷ xs) first e = go (p x) (λ e. find_some p xs first e) e
  where
    go : (b : Bool) → (find p xs ≡ Some first → (others : List A) × (filter p xs ≡ first ∷ others))
        → cond b (Some x) (find p xs) ≡ Some first → (others : List A) × (cond b (x ∷ filter p xs) (filter p xs) ≡ first ∷ others)
    go true rest e = (filter p xs, cc)
    go false rest e = rest e

all_filter : {A : Type 0} (p q : A → Bool) (xs : List A) → list_all (λ x. not (p x) || q x) xs ≡ list_all q (filter p xs)
all_filter p q [] = refl
all_filter {A} p q (x ∷ xs) = go (p x) (all_filter p q xs)
  where
    go : (b : Bool) → list_all (λ y. not (p y) || q y) xs ≡ list_all q (filter p xs)
        → ((not b || q x) && list_all (λ y. not (p y) || q y) xs) ≡ list_all q (cond b (x ∷ filter p xs) (filter p xs))
    go true rest = ap (λ b. q x && b) rest
    go false rest = rest

abbrev pub is_length_field : List ℕ × List ℕ → Bool
is_length_field field = is_named (codes "content-length") field

-- what `body_length` answers
abbrev pub length_told : List (List ℕ × List ℕ) → Option ℕ
length_told fields = if are_one_length (lengths fields) then Some (body_length fields) else None

pub length_absent : (fields : List (List ℕ × List ℕ)) → find is_length_field fields ≡ None → Some 0 ≡ length_told fields
length_absent fields none =
    let no : lengths fields ≡ [] = ap (map (λ (f : List ℕ × List ℕ). f.1)) (find_none is_length_field fields none) in
    rw no refl

same_as_self : (v : List ℕ) → bytes_eq v v ≡ true
same_as_self v = (bytes_eq-Decides v v).1 refl

-- whether all values are that of the first field
pub one_length : (fields : List (List ℕ × List ℕ)) (first : List ℕ × List ℕ) (others : List (List ℕ × List ℕ))
    → filter is_length_field fields ≡ first ∷ others
    → are_one_length (lengths fields) ≡ (is_length first.1 && list_all (λ field. not (is_length_field field) || bytes_eq field.1 first.1) fields)
one_length fields first others parts =
    let there : lengths fields ≡ first.1 ∷ map (λ (f : List ℕ × List ℕ). f.1) others = ap (map (λ (f : List ℕ × List ℕ). f.1)) parts in
    let all : list_all (λ field. not (is_length_field field) || bytes_eq field.1 first.1) fields ≡ list_all (λ field. bytes_eq field.1 first.1) others =
    all_filter is_length_field (λ field. bytes_eq field.1 first.1) fields
    ∙ ap (list_all (λ (field : List ℕ × List ℕ). bytes_eq field.1 first.1)) parts
    ∙ ap (λ b. b && list_all (λ (field : List ℕ × List ℕ). bytes_eq field.1 first.1) others) (same_as_self first.1) in
    rw (there, all, list_all-map) refl

pub length_there : (fields : List (List ℕ × List ℕ)) (first : List ℕ × List ℕ) → find is_length_field fields ≡ Some first
    → (b : Bool) → (is_length first.1 && list_all (λ field. not (is_length_field field) || bytes_eq field.1 first.1) fields) ≡ b
    → length_told fields ≡ (if b then Some (digits_value 10 first.1) else None)
length_there fields first found b is =
    let parts = find_some is_length_field fields first found in
    let one = one_length fields first parts.0 parts.1 ∙ is in
    let there : lengths fields ≡ first.1 ∷ map (λ (f : List ℕ × List ℕ). f.1) parts.0 = ap (map (λ (f : List ℕ × List ℕ). f.1)) parts.1 in
    rw one (ap (λ (vs : List (List ℕ)). if b then Some (length_of vs) else None) there)

pub length_found : (fields : List (List ℕ × List ℕ)) (first : List ℕ × List ℕ) (value : List ℕ) (number : ℕ) → find is_length_field fields ≡ Some first
    → value ≡ first.1 → is_length value ≡ true → list_all (λ field. not (is_length_field field) || bytes_eq field.1 value) fields ≡ true
    → number ≡ digits_value 10 value → Some number ≡ length_told fields
length_found fields first value number found is length all number_is =
    let both : (is_length first.1 && list_all (λ field. not (is_length_field field) || bytes_eq field.1 first.1) fields) ≡ true =
    subst (λ (v : List ℕ). (is_length v && list_all (λ field. not (is_length_field field) || bytes_eq field.1 v) fields) ≡ true) is (rw (length, all) refl) in
    ap (λ n. Some n) (number_is ∙ ap (digits_value 10) is) ∙ sym (length_there fields first found true both)

pub length_bad : (fields : List (List ℕ × List ℕ)) (first : List ℕ × List ℕ) (value : List ℕ) → find is_length_field fields ≡ Some first
    → value ≡ first.1 → (is_length value && list_all (λ field. not (is_length_field field) || bytes_eq field.1 value) fields) ≡ false
    → None ≡ length_told fields
length_bad fields first value found is none =
    sym (length_there fields first found false
    (subst (λ (v : List ℕ). (is_length v && list_all (λ field. not (is_length_field field) || bytes_eq field.1 v) fields) ≡ false) is none))

-- ---- chunked bodies

abbrev pub is_coding_field : List ℕ × List ℕ → Bool
is_coding_field field = is_named (codes "transfer-encoding") field

-- the field says `chunked`
abbrev pub says_chunked : List ℕ × List ℕ → Bool
says_chunked field = bytes_eq (map to_ascii_lowercase field.1) (map to_ascii_lowercase (codes "chunked"))

pub chunked_absent : (fields : List (List ℕ × List ℕ)) → find is_coding_field fields ≡ None → false ≡ is_chunked fields
chunked_absent fields none =
    let no : codings fields ≡ [] = ap (map (λ (f : List ℕ × List ℕ). f.1)) (find_none is_coding_field fields none) in
    rw no refl

pub chunked_first : (fields : List (List ℕ × List ℕ)) (first : List ℕ × List ℕ) → find is_coding_field fields ≡ Some first
    → (n : ℕ) → n ≡ count_of (codes "transfer-encoding") fields → ((n ≡ 1) → says_chunked first ≡ is_chunked fields) × ((n ≢ 1) → false ≡ is_chunked fields)
chunked_first fields first found n n_is =
    let parts = find_some is_coding_field fields first found in
    let there : codings fields ≡ first.1 ∷ map (λ (f : List ℕ × List ℕ). f.1) parts.0 = ap (map (λ (f : List ℕ × List ℕ). f.1)) parts.1 in
    let size : length (first ∷ parts.0) ≡ n = ap length (sym parts.1) ∙ length-filter is_coding_field fields ∙ sym n_is in
    rw there (go parts.0 size)
  where
    go : (others : List (List ℕ × List ℕ)) → length (first ∷ others) ≡ n
        → ((n ≡ 1) → says_chunked first ≡ are_chunked (first.1 ∷ map (λ (f : List ℕ × List ℕ). f.1) others))
        × ((n ≢ 1) → false ≡ are_chunked (first.1 ∷ map (λ (f : List ℕ × List ℕ). f.1) others))
    go [] size = (λ one. refl, λ many. absurd (many (omega (arith, size))))
    go (o ∷ others) size = (λ one. absurd (omega (arith, size, one)), λ many. refl)
