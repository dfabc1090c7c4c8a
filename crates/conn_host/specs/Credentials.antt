-- The credentials of a request (RFC 7617).
use Rattle.std.specs.Prelude.{ℕ, ◌+◌, nat_eq, Bool, ◌==◌, List, [], ◌∷◌, length, take, drop, codes, Option, Some, None, option_and_then, filter_map, if◌then◌else◌}
use Rattle.std.specs.List.{position, starts_with}
use Rattle.base64.specs.Engines.{standard}
use Rattle.base64.specs.GeneralPurpose.{decoded_of}
use Rattle.txt_core.specs.Names.{Bytes}
use Rattle.ns_sets.specs.Fields.{Field, ignoring_case, has_key}
use Rattle.conn_host.specs.declared.authorization.Credentials.{Credentials}

abbrev pub is_colon : ℕ → Bool
is_colon byte = byte == 58

abbrev pub parted_at : Bytes → Option ℕ → Option Credentials
parted_at bytes None = None
parted_at bytes (Some colon) = Some (record { user = take colon bytes; password = drop (colon + 1) bytes })

-- The user stands before the first colon, the password behind it. Without a colon there are no credentials.
abbrev pub user_and_password : Bytes → Option Credentials
user_and_password bytes = parted_at bytes (position is_colon bytes)

-- how a value with credentials begins: as it stands here, with one space
abbrev pub basic_scheme : Bytes
basic_scheme = codes "Basic "

-- the credentials that a value shows: behind the scheme stands base64 with its padding and without spare bits
abbrev pub shown_by : Bytes → Option Credentials
shown_by value =
    if starts_with nat_eq value basic_scheme
    then option_and_then user_and_password (decoded_of standard (drop (length basic_scheme) value))
    else None

-- the credentials that a field shows, where it is an Authorization field
abbrev pub shown_in : Field → Option Credentials
shown_in field = if has_key ignoring_case (codes "authorization") field then shown_by field.1 else None

-- two empty texts
abbrev pub no_credentials : Credentials
no_credentials = record { user = []; password = [] }

abbrev pub first_of : List Credentials → Credentials
first_of [] = no_credentials
first_of (first ∷ others) = first

-- The user and the password of a request: those of its first Authorization field that shows any, and else empty texts.
abbrev pub credentials : List Field → Credentials
credentials fields = first_of (filter_map shown_in fields)
