-- The head of a response is lines that hold no line end.
use Rattle.std.proofs.Common.{◌≡◌, ℕ, zero, suc, ◌+◌, ◌/◌, ◌%◌, ◌<◌, ◌≤◌, Bool, true, false, ◌&&◌, List, [], ◌∷◌, ◌++◌, map, length, codes, decimal, if◌then◌else◌, refl, ap, ◌∙◌, arith, get_or, min}
use Rattle.std.specs.Prelude.{filter, ◌==◌}
use Rattle.std.specs.List.{list_all}
use Rattle.std.specs.Fmt.{digits, digits_onto, digit_glyph}
use Rattle.std.proofs.lemmas.Bool.Decides.{nat_tests}
use Rattle.std.proofs.lemmas.List.Folds.{list_all-append}
use Rattle.http_header.specs.Token.{is_value_byte, is_token_byte, token_test}
use Rattle.http_resp.specs.OutputFields.{field_line, field_lines, is_sent}
use Rattle.http_resp.specs.StatusLine.{reason, status_line}
use Rattle.http_resp.specs.ResponseBytes.{has_content, content_fields, connection_field, head_fields, head_bytes}
use Rattle.std.proofs.lemmas.Bool.{and_parts}
use Rattle.std.proofs.Common.{cond, ◌-◌}
use Rattle.httpdate.specs.Calendar.{days_in_month}
use Rattle.httpdate.specs.Valid.{IsValid}
use Rattle.httpdate.specs.Text.{two_digits, four_digits, day_name, month_name, time_of_day, imf_fixdate}
use Rattle.httpdate.specs.declared.parts.Parts.{Parts}
use Rattle.http_header.proofs.TokenLemmas.{token_byte_range}
use Rattle.http_resp.specs.Moment.{fixdate, parts_at}
use Rattle.txt_core.specs.Limits.{last_moment}
use Rattle.http_resp.proofs.MomentLemmas.{parts_hold}
use Rattle.http_resp.specs.Lines.{holds_no_line_end, with_ends, field_text, head_lines, IsInLines}
use Rattle.http_resp.specs.declared.response.Response.{Response}

with_ends_fields : (fields : List (List ℕ × List ℕ)) → field_lines fields ≡ with_ends (map field_text fields)
unfolding field_line
with_ends_fields [] = refl
with_ends_fields (field ∷ fields) = ap (λ l. field_line field.0 field.1 ++ l) (with_ends_fields fields)

both : (xs ys : List ℕ) → holds_no_line_end xs ≡ true → holds_no_line_end ys ≡ true → holds_no_line_end (xs ++ ys) ≡ true
both xs ys a b = list_all-append is_value_byte xs ys ∙ cc

digit_unbroken : (digit : ℕ) → digit < 10 → is_value_byte (digit_glyph false digit) ≡ true
digit_unbroken digit h = grind (arith, nat_tests)

either_unbroken : (b : Bool) (xs ys : List ℕ) → holds_no_line_end xs ≡ true → holds_no_line_end ys ≡ true → holds_no_line_end (if b then xs else ys) ≡ true
either_unbroken true xs ys a b = a
either_unbroken false xs ys a b = b

digits_unbroken : (most n : ℕ) (acc : List ℕ) → holds_no_line_end acc ≡ true → holds_no_line_end (digits_onto most 10 false n acc) ≡ true
digits_unbroken zero n acc is = is
digits_unbroken (suc most) n acc is =
    let next : holds_no_line_end (digit_glyph false (n % 10) ∷ acc) ≡ true = rw (digit_unbroken (n % 10) (omega arith), is) refl in
    either_unbroken (n / 10 == 0) _ _ next (digits_unbroken most (n / 10) (digit_glyph false (n % 10) ∷ acc) next)

decimal_unbroken : (n : ℕ) → holds_no_line_end (decimal n) ≡ true
unfolding digits
decimal_unbroken n = digits_unbroken 64 n [] refl

reason_unbroken : (status : ℕ) → holds_no_line_end (reason status) ≡ true
unfolding reason
reason_unbroken status = search (either_unbroken) depth 40

two_digits_unbroken : (n : ℕ) → n < 100 → holds_no_line_end (two_digits n) ≡ true
two_digits_unbroken n h =
    let high : is_value_byte (48 + n / 10) ≡ true = grind (arith, nat_tests) in
    let low : is_value_byte (48 + n % 10) ≡ true = grind (arith, nat_tests) in
    rw (high, low) refl

name_unbroken : (names : List (List ℕ)) (at : ℕ) → list_all holds_no_line_end names ≡ true → holds_no_line_end (get_or names at []) ≡ true
name_unbroken [] at is = refl
name_unbroken (name ∷ names) zero is = (and_parts _ _ is).0
name_unbroken (name ∷ names) (suc at) is = name_unbroken names at (and_parts _ _ is).1

and_true : (a b : Bool) → a ≡ true → b ≡ true → (a && b) ≡ true
and_true a b p q = rw (p, q) refl

ten_unbroken : (a b c d e f g h i j : List ℕ) → holds_no_line_end a ≡ true → holds_no_line_end b ≡ true → holds_no_line_end c ≡ true → holds_no_line_end d ≡ true → holds_no_line_end e ≡ true → holds_no_line_end f ≡ true → holds_no_line_end g ≡ true → holds_no_line_end h ≡ true → holds_no_line_end i ≡ true → holds_no_line_end j ≡ true
    → holds_no_line_end (a ++ b ++ c ++ d ++ e ++ f ++ g ++ h ++ i ++ j) ≡ true
ten_unbroken a b c d e f g h i j pa pb pc pd pe pf pg ph pi pj =
    both (a ++ b ++ c ++ d ++ e ++ f ++ g ++ h ++ i) j (both (a ++ b ++ c ++ d ++ e ++ f ++ g ++ h) i (both (a ++ b ++ c ++ d ++ e ++ f ++ g) h (both (a ++ b ++ c ++ d ++ e ++ f) g (both (a ++ b ++ c ++ d ++ e) f (both (a ++ b ++ c ++ d) e (both (a ++ b ++ c) d (both (a ++ b) c (both a b pa pb) pc) pd) pe) pf) pg) ph) pi) pj

short_month : (year month : ℕ) → days_in_month year month ≤ 31
short_month year month = grind (arith, nat_tests)

time_unbroken : (p : Parts) → IsValid p → holds_no_line_end (time_of_day p) ≡ true
time_unbroken p valid =
    both (two_digits p.hour ++ codes ":" ++ two_digits p.min ++ codes ":") (two_digits p.sec)
    (both (two_digits p.hour ++ codes ":" ++ two_digits p.min) (codes ":")
    (both (two_digits p.hour ++ codes ":") (two_digits p.min)
    (both (two_digits p.hour) (codes ":") (two_digits_unbroken p.hour (omega (arith, valid.1))) refl)
    (two_digits_unbroken p.min (omega (arith, valid.1)))) refl)
    (two_digits_unbroken p.sec (omega (arith, valid.1)))

date_unbroken : (p : Parts) → IsValid p → holds_no_line_end (imf_fixdate p) ≡ true
date_unbroken p valid =
    ten_unbroken (day_name p.wday) (codes ", ") (two_digits p.day) (codes " ") (month_name p.mon) (codes " ") (four_digits p.year) (codes " ") (time_of_day p) (codes " GMT")
    (name_unbroken (codes "Mon" ∷ codes "Tue" ∷ codes "Wed" ∷ codes "Thu" ∷ codes "Fri" ∷ codes "Sat" ∷ codes "Sun" ∷ []) (p.wday - 1) refl) refl
    (two_digits_unbroken p.day (omega (arith, valid.0, short_month p.year p.mon))) refl
    (name_unbroken (codes "Jan" ∷ codes "Feb" ∷ codes "Mar" ∷ codes "Apr" ∷ codes "May" ∷ codes "Jun" ∷ codes "Jul" ∷ codes "Aug" ∷ codes "Sep" ∷ codes "Oct" ∷ codes "Nov" ∷ codes "Dec" ∷ []) (p.mon - 1) refl) refl
    (both (two_digits (p.year / 100)) (two_digits (p.year % 100)) (two_digits_unbroken (p.year / 100) (omega (arith, valid.0))) (two_digits_unbroken (p.year % 100) (omega arith))) refl
    (time_unbroken p valid) refl

fixdate_unbroken : (moment : ℕ) → holds_no_line_end (fixdate moment) ≡ true
unfolding fixdate
fixdate_unbroken moment = date_unbroken (parts_at (min moment last_moment)) (parts_hold (min moment last_moment) (omega arith)).0

token_is_value : (b : ℕ) → token_test b ≡ true → is_value_byte b ≡ true
unfolding is_token_byte
token_is_value b is = let range = token_byte_range b is in grind (arith, nat_tests)

token_unbroken : (name : List ℕ) → list_all token_test name ≡ true → holds_no_line_end name ≡ true
token_unbroken [] is = refl
token_unbroken (b ∷ name) is =
    let parts = and_parts _ _ is in
    and_true _ _ (token_is_value b parts.0) (token_unbroken name parts.1)

field_unbroken : (field : List ℕ × List ℕ) → is_sent field ≡ true → holds_no_line_end (field_text field) ≡ true
field_unbroken field sent =
    let fit = and_parts _ _ (and_parts _ _ sent).0 in
    let name = and_parts _ _ (and_parts _ _ fit.0).0 in
    both (field.0 ++ codes ": ") field.1 (both field.0 (codes ": ") (token_unbroken field.0 name.1) refl) fit.1

fields_step : (sent : Bool) (field : List ℕ × List ℕ) (others : List (List ℕ × List ℕ)) → is_sent field ≡ sent
    → list_all holds_no_line_end (map field_text others) ≡ true
    → list_all holds_no_line_end (map field_text (cond sent (field ∷ others) others)) ≡ true
fields_step true field others is rest = and_true _ _ (field_unbroken field is) rest
fields_step false field others is rest = rest

fields_unbroken : (fields : List (List ℕ × List ℕ)) → list_all holds_no_line_end (map field_text (filter is_sent fields)) ≡ true
fields_unbroken [] = refl
fields_unbroken (field ∷ fields) = fields_step (is_sent field) field (filter is_sent fields) refl (fields_unbroken fields)

content_unbroken : (response : Response) (content : Bool) → has_content response.status ≡ content → holds_no_line_end response.kind ≡ true → list_all holds_no_line_end (map field_text (content_fields response)) ≡ true
unfolding content_fields
content_unbroken response true is kind =
    rw is (and_true _ _ (both (codes "Content-Type: ") response.kind refl kind) (and_true _ _ (both (codes "Content-Length: ") (decimal (length response.body)) refl (decimal_unbroken (length response.body))) refl))
content_unbroken response false is kind = rw is refl

connection_unbroken : (close : Bool) → holds_no_line_end (field_text (connection_field close)) ≡ true
connection_unbroken true = refl
connection_unbroken false = refl

texts_append : (xs ys : List (List ℕ × List ℕ)) → list_all holds_no_line_end (map field_text xs) ≡ true → list_all holds_no_line_end (map field_text ys) ≡ true → list_all holds_no_line_end (map field_text (xs ++ ys)) ≡ true
texts_append [] ys a b = b
texts_append (x ∷ xs) ys a b =
    let parts = and_parts _ _ a in
    and_true _ _ parts.0 (texts_append xs ys parts.1 b)

head_whole : (response : Response) (moment : ℕ) (close : Bool) → head_bytes response moment close ≡ with_ends (head_lines response moment close) ++ codes "\r\n"
unfolding head_bytes status_line
head_whole response moment close = ap (λ l. (status_line response.status ++ l) ++ codes "\r\n") (with_ends_fields (head_fields response moment close))

pub in_lines : (response : Response) (moment : ℕ) (close : Bool) → holds_no_line_end response.kind ≡ true → IsInLines response moment close
in_lines response moment close kind =
    let outputs = filter is_sent response.fields in
    record {
      whole = head_whole response moment close;
      unbroken =
          and_true _ _ (both (decimal response.status ++ codes " ") (reason response.status) (both (decimal response.status) (codes " ") (decimal_unbroken response.status) refl) (reason_unbroken response.status))
          (and_true _ _ (fixdate_unbroken moment)
          (texts_append (outputs ++ content_fields response) (connection_field close ∷ [])
          (texts_append outputs (content_fields response) (fields_unbroken response.fields) (content_unbroken response (has_content response.status) refl kind))
          (and_true _ _ (connection_unbroken close) refl)));
    }
