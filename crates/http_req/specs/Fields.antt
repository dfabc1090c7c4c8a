-- What the fields of a request say. A field is a name and a value.
use Rattle.std.specs.Prelude.{◌==◌, ℕ, Bool, true, false, not, ◌&&◌, ◌||◌, [], ◌∷◌, length, map, filter, count_by, nat_lt, nat_le, codes}
use Rattle.std.specs.List.{list_all}
use Rattle.std.specs.Str.{bytes_eq}
use Rattle.std.specs.Char.{is_ascii_digit, to_ascii_lowercase}
use Rattle.std.specs.Str.Parse.{digits_value}
use Rattle.txt_core.specs.Names.{Bytes, Words, Pairs}
use Rattle.http_req.specs.Limits.{digit_limit}

-- the field has this name, whatever the case of the letters
abbrev pub is_named : Bytes → Bytes × Bytes → Bool
is_named name field = bytes_eq (map to_ascii_lowercase field.0) (map to_ascii_lowercase name)

-- the values of the fields of this name, in order
abbrev pub values_of : Bytes → Pairs → Words
values_of name fields = map (λ field. field.1) (filter (is_named name) fields)

-- how many fields have this name
abbrev pub count_of : Bytes → Pairs → ℕ
count_of name fields = count_by (is_named name) fields

-- the value writes a length: 1 to 19 digits
abbrev pub is_length : Bytes → Bool
is_length value = nat_lt 0 (length value) && nat_le (length value) digit_limit && list_all is_ascii_digit value

-- the values write one length, all in the same text
abbrev pub are_one_length : Words → Bool
are_one_length [] = true
are_one_length (value ∷ others) = is_length value && list_all (λ other. bytes_eq other value) others

-- the length that the values write, and 0 where there is none
abbrev pub length_of : Words → ℕ
length_of [] = 0
length_of (value ∷ others) = digits_value 10 value

-- the values of Content-Length
abbrev pub lengths : Pairs → Words
lengths fields = values_of (codes "content-length") fields

-- how long the body is
abbrev pub body_length : Pairs → ℕ
body_length fields = length_of (lengths fields)

-- the values of Transfer-Encoding
abbrev pub codings : Pairs → Words
codings fields = values_of (codes "transfer-encoding") fields

-- the values are one, which is `chunked`, whatever the case of its letters
abbrev pub are_chunked : Words → Bool
are_chunked [] = false
are_chunked (value ∷ []) = bytes_eq (map to_ascii_lowercase value) (map to_ascii_lowercase (codes "chunked"))
are_chunked (value ∷ other ∷ more) = false

-- the body comes in chunks
abbrev pub is_chunked : Pairs → Bool
is_chunked fields = are_chunked (codings fields)

-- the body comes in another way than by its length or in chunks
abbrev pub is_coded : Pairs → Bool
is_coded fields = nat_lt 0 (count_of (codes "transfer-encoding") fields) && not (is_chunked fields)

-- the body comes in chunks where none may: in HTTP/1.0, or beside a length
abbrev pub is_mixed : ℕ → Pairs → Bool
is_mixed minor fields = is_chunked fields && (minor == 0 || nat_lt 0 (count_of (codes "content-length") fields))

-- one host is named, or none by HTTP/1.0
abbrev pub has_host : ℕ → Pairs → Bool
has_host minor fields =
    let count = count_of (codes "host") fields in
    count == 1 || (count == 0 && minor == 0)
