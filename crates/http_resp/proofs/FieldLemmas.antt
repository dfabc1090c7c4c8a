-- Which output fields are sent.
use Rattle.std.proofs.Common.{◌≡◌, ℕ, Bool, true, false, not, ◌&&◌, IsTrue, List, length, nat_lt, nat_le, bytes_eq, refl, ap, ◌∙◌, subst, arith}
use Rattle.std.specs.List.{list_all, list_any}
use Rattle.std.proofs.lemmas.Bool.Decides.{nat_tests}
use Rattle.std.proofs.lemmas.List.Sums.{list_all-from_AllPass}
use Rattle.http_header.specs.FieldName.{IsFieldName, IsHeaderName, is_field_name}
use Rattle.http_header.specs.Token.{token_test, is_token_byte, is_value_byte, AllPass, lowercase}
use Rattle.http_header.proofs.TokenLemmas.{IsFieldName-from_test, IsFieldName-from_lowercase}
use Rattle.http_resp.specs.OutputFields.{is_sent, own_names}

true_is : (b : Bool) → b ≡ true → IsTrue b
true_is b is = is

all_pass : (bytes : List ℕ) → AllPass is_token_byte bytes → list_all token_test bytes ≡ true
unfolding is_token_byte
all_pass bytes pass = list_all-from_AllPass token_test bytes pass

name_test : (name : List ℕ) → IsFieldName name → is_field_name name ≡ true
name_test name is =
    let some : nat_lt 0 (length name) ≡ true = grind (arith, nat_tests) in
    let few : nat_le (length name) 65535 ≡ true = grind (arith, nat_tests) in
    rw (some, all_pass name is.0.1, few) refl

not_name : (fits : Bool) (name value : List ℕ) → is_field_name name ≡ fits → ¬ (IsFieldName name) → false ≡ is_sent (name, value)
not_name true name value test isnt = absurd (isnt (IsFieldName-from_test name (true_is _ test)))
not_name false name value test isnt = rw test refl

pub no_name_isnt_sent : (name value : List ℕ) → ¬ (IsFieldName name) → false ≡ is_sent (name, value)
no_name_isnt_sent name value isnt = not_name _ name value refl isnt

out : (b c : Bool) → false ≡ b && false && c
out true c = refl
out false c = refl

pub no_value_isnt_sent : (name value : List ℕ) → list_all is_value_byte value ≡ false → false ≡ is_sent (name, value)
no_value_isnt_sent name value test = rw test (out (is_field_name name) _)

pub is_sent_is : (name value lower text : List ℕ) (own : Bool) → lower ≡ lowercase name → IsHeaderName lower → text ≡ lower → list_all is_value_byte value ≡ true → own ≡ list_any (bytes_eq text) own_names → not own ≡ is_sent (name, value)
is_sent_is name value lower text own lowered valid same fits is =
    let isname = IsFieldName-from_lowercase name (subst (λ l. IsFieldName l) lowered valid.0) in
    rw (name_test name isname, fits) (ap not (is ∙ ap (λ l. list_any (bytes_eq l) own_names) (same ∙ lowered)))
