-- The fields that a script set for its response.
use Rattle.std.specs.Prelude.{Bool, ◌&&◌, not, [], ◌∷◌, ◌++◌, codes, filter, bytes_eq}
use Rattle.std.specs.List.{list_all, list_any, flat_map}
use Rattle.http_header.specs.FieldName.{is_field_name}
use Rattle.http_header.specs.Token.{is_value_byte, lowercase}
use Rattle.txt_core.specs.Names.{Bytes, Words, Pairs}

-- A field line (RFC 9112, section 5).
unfoldable pub field_line : Bytes → Bytes → Bytes
field_line name value = name ++ codes ": " ++ value ++ codes "\r\n"

-- The lines of fields, in their order.
abbrev pub field_lines : Pairs → Bytes
field_lines fields = flat_map (λ (field : Bytes × Bytes). field_line field.0 field.1) fields

-- The names of the fields that the server writes itself, or never, in lower case.
abbrev pub own_names : Words
own_names =
    codes "date" ∷ codes "server" ∷ codes "content-type" ∷ codes "content-length"
    ∷ codes "transfer-encoding" ∷ codes "connection" ∷ []

-- The name is one of these, ignoring case.
abbrev pub is_own_name : Bytes → Bool
is_own_name name = list_any (bytes_eq (lowercase name)) own_names

-- An output field is sent where its key is a field name, no byte of its value is 127 or one below 32
-- other than tab, and the field isn't the server's own.
abbrev pub is_sent : Bytes × Bytes → Bool
is_sent field = is_field_name field.0 && list_all is_value_byte field.1 && not (is_own_name field.0)

-- Those that are sent, in their order; the others are left out.
unfoldable pub output_lines : Pairs → Bytes
output_lines fields = field_lines (filter is_sent fields)
