-- `ns_set`, which makes and changes sets. In this order it looks at the number of words against that of all subcommands, the
-- subcommand, the number of its own words, and its words from left to right. An error changes nothing.
use Rattle.std.specs.Prelude.{ℕ, ℤ, pos, negsuc, List, [], length, take, remove, slice_set, decimal, Bool, ◌||◌, ◌==◌, nat_lt, bytes_eq, codes, if◌then◌else◌, Option, Some, None, Ok, Err}
use Rattle.std.specs.Fmt.{signed_decimal}
use Rattle.std.specs.List.{slice_index_or}
use Rattle.txt_core.specs.Names.{Bytes, Words}
use Rattle.ns_sets.specs.Fields.{Field, Sameness, exact, ignoring_case, place_of, place_number, value_of, with_field, without_first, with_absent, place_put, merged}
use Rattle.ns_sets.specs.Sets.{name_of, fields_of, with_new, with_fields}
use Rattle.tcl_host.specs.Leaf.{Leaf}
use Rattle.natives.specs.Words.{arg}
use Rattle.conn_host.specs.Conns.{ConnState, with_sets}
use Rattle.tcl_host.specs.Checks.{gives, shaped, no_subcommand, integer}
use Rattle.conn_host.specs.Checks.{Checked, given, counted, count}
use Rattle.conn_host.specs.Errors.{no_field}
use Rattle.conn_host.specs.Ids.{set_id, set_at}
use Rattle.conn_host.specs.declared.set_verb.SetVerb.{SetVerb}
use Rattle.conn_host.specs.declared.set_verb.SetVerb.TheVariants as verbs

-- the fields of a set by its number
abbrev pub fields_in : ConnState → ℕ → List Field
fields_in host number = fields_of host.sets number

-- these are now the fields of the set of this number
abbrev pub holding : ConnState → ℕ → List Field → ConnState
holding host number fields = with_sets host (with_fields host.sets number fields)

-- ---- places

-- there is a field at this place
abbrev pub within : ℤ → List Field → Bytes → Checked ℕ
within (pos n) fields id = if nat_lt n (length fields) then Ok n else Err (no_field (pos n) id)
within (negsuc n) fields id = Err (no_field (negsuc n) id)

abbrev pub place_in : Checked ℤ → List Field → Bytes → Checked ℕ
place_in (Ok place) fields id = within place fields id
place_in (Err message) fields id = Err message

-- the fourth word is the place of a field of the set of this number, counted from 0
abbrev pub field_at : Words → ℕ → ConnState → Checked ℕ
field_at words number host = place_in (integer words 3) (fields_in host number) (arg words 2)

-- the field at a place
abbrev pub field_of : List Field → ℕ → Field
field_of fields place = slice_index_or fields place ([], [])

-- ---- subcommands

-- `create ?NAME?` makes a set of this name, or of the empty one, without fields; its id is the result
abbrev pub set_create : Words → ConnState → Leaf ConnState
set_create words host = gives (set_id (length host.sets)) (with_sets host (with_new host.sets (arg words 2) []))

-- `put ID KEY VALUE` puts a field at the end; its place is the result
abbrev pub set_put : Words → ℕ → ConnState → Leaf ConnState
set_put words number host =
    gives (decimal (length (fields_in host number)))
    (holding host number (with_field (fields_in host number) (arg words 3) (arg words 4)))

-- `get ID KEY` gives the value of the first field of the key, or the empty text; `iget` ignores case
abbrev pub set_get : Sameness → Words → ℕ → ConnState → Leaf ConnState
set_get same words number host = gives (value_of same (fields_in host number) (arg words 3)) host

-- `find ID KEY` gives the place of the first field of the key, or -1; `ifind` ignores case
abbrev pub set_find : Sameness → Words → ℕ → ConnState → Leaf ConnState
set_find same words number host =
    gives (signed_decimal (place_number (place_of same (fields_in host number) (arg words 3)))) host

-- `cput ID KEY VALUE` puts a field at the end where the key is absent; its place is the result, or -1 where none was put;
-- `icput` ignores case
abbrev pub set_cput : Sameness → Words → ℕ → ConnState → Leaf ConnState
set_cput same words number host =
    gives (signed_decimal (place_put same (fields_in host number) (arg words 3)))
    (holding host number (with_absent same (fields_in host number) (arg words 3) (arg words 4)))

-- the fields without the first one of the key in the fourth word, where there is one
abbrev pub less_first : Sameness → Words → ℕ → ConnState → List Field
less_first same words number host = without_first same (fields_in host number) (arg words 3)

-- `update ID KEY VALUE` removes the first field of the key, where there is one, and puts a field at the end; its place then is
-- the result
abbrev pub set_update : Words → ℕ → ConnState → Leaf ConnState
set_update words number host =
    gives (decimal (length (less_first exact words number host)))
    (holding host number (with_field (less_first exact words number host) (arg words 3) (arg words 4)))

-- `delete ID PLACE` removes the field at the place
abbrev pub set_delete : Words → ℕ → ConnState → Leaf ConnState
set_delete words number host =
    given (field_at words number host) (λ place host. gives [] (holding host number (remove (fields_in host number) place))) host

-- `delkey ID KEY` removes the first field of the key, where there is one; `idelkey` ignores case
abbrev pub set_delkey : Sameness → Words → ℕ → ConnState → Leaf ConnState
set_delkey same words number host = gives [] (holding host number (less_first same words number host))

-- `truncate ID N` keeps the first N fields
abbrev pub set_truncate : Words → ℕ → ConnState → Leaf ConnState
set_truncate words number host =
    given (count words 3) (λ most host. gives [] (holding host number (take most (fields_in host number)))) host

-- `merge HIGH LOW` puts at the end of the first set, in order, each field of the second one whose key the first one then lacks
abbrev pub set_merge : Words → ℕ → ConnState → Leaf ConnState
set_merge words high host =
    given (set_at words 3 host)
    (λ low host. gives [] (holding host high (merged (fields_in host high) (fields_in host low)))) host

-- `copy ID` makes a set of the same name and fields; its id is the result
abbrev pub set_copy : ℕ → ConnState → Leaf ConnState
set_copy number host =
    gives (set_id (length host.sets))
    (with_sets host (with_new host.sets (name_of host.sets number) (fields_in host number)))

-- `free ID` lets the set go; its id is not given again
abbrev pub set_free : ℕ → ConnState → Leaf ConnState
set_free number host = gives [] (with_sets host (slice_set host.sets number None))

-- `size ID` gives how many fields the set has
abbrev pub set_size : ℕ → ConnState → Leaf ConnState
set_size number host = gives (decimal (length (fields_in host number))) host

-- `name ID` gives the set's name
abbrev pub set_name : ℕ → ConnState → Leaf ConnState
set_name number host = gives (name_of host.sets number) host

-- `key ID PLACE` gives the key of the field at the place
abbrev pub set_key : Words → ℕ → ConnState → Leaf ConnState
set_key words number host =
    given (field_at words number host) (λ place host. gives (field_of (fields_in host number) place).0 host) host

-- `value ID PLACE` gives the value of the field at the place
abbrev pub set_value : Words → ℕ → ConnState → Leaf ConnState
set_value words number host =
    given (field_at words number host) (λ place host. gives (field_of (fields_in host number) place).1 host) host

-- ---- the command

-- the subcommand of a name, among those that deal with a set as a whole or with a place in it
abbrev pub place_verb_of : Bytes → Option SetVerb
place_verb_of name =
    if bytes_eq name (codes "create") then Some verbs.Create
    else if bytes_eq name (codes "delete") then Some verbs.Delete
    else if bytes_eq name (codes "truncate") then Some verbs.Truncate
    else if bytes_eq name (codes "merge") then Some verbs.Merge
    else if bytes_eq name (codes "copy") then Some verbs.Copy
    else if bytes_eq name (codes "free") then Some verbs.Free
    else if bytes_eq name (codes "size") then Some verbs.Size
    else if bytes_eq name (codes "name") then Some verbs.Name
    else if bytes_eq name (codes "key") then Some verbs.Key
    else if bytes_eq name (codes "value") then Some verbs.Value
    else None

-- the subcommand of a name: those that deal with the fields of a key, and the others
abbrev pub set_verb_of : Bytes → Option SetVerb
set_verb_of name =
    if bytes_eq name (codes "put") then Some verbs.Put
    else if bytes_eq name (codes "get") then Some verbs.Get
    else if bytes_eq name (codes "iget") then Some verbs.Iget
    else if bytes_eq name (codes "find") then Some verbs.Find
    else if bytes_eq name (codes "ifind") then Some verbs.Ifind
    else if bytes_eq name (codes "cput") then Some verbs.Cput
    else if bytes_eq name (codes "icput") then Some verbs.Icput
    else if bytes_eq name (codes "update") then Some verbs.Update
    else if bytes_eq name (codes "delkey") then Some verbs.Delkey
    else if bytes_eq name (codes "idelkey") then Some verbs.Idelkey
    else place_verb_of name

-- whether a subcommand may have so many words, with both names among them
abbrev pub set_takes : SetVerb → ℕ → Bool
set_takes verbs.Create n = n == 2 || n == 3
set_takes verbs.Put n = n == 5
set_takes verbs.Get n = n == 4
set_takes verbs.Iget n = n == 4
set_takes verbs.Find n = n == 4
set_takes verbs.Ifind n = n == 4
set_takes verbs.Cput n = n == 5
set_takes verbs.Icput n = n == 5
set_takes verbs.Update n = n == 5
set_takes verbs.Delete n = n == 4
set_takes verbs.Delkey n = n == 4
set_takes verbs.Idelkey n = n == 4
set_takes verbs.Truncate n = n == 4
set_takes verbs.Merge n = n == 4
set_takes verbs.Copy n = n == 3
set_takes verbs.Free n = n == 3
set_takes verbs.Size n = n == 3
set_takes verbs.Name n = n == 3
set_takes verbs.Key n = n == 4
set_takes verbs.Value n = n == 4

-- the third word is the id of a set that stands, with which the command goes on
abbrev pub on_set : Words → (ℕ → ConnState → Leaf ConnState) → ConnState → Leaf ConnState
on_set words does host = given (set_at words 2 host) does host

-- what each subcommand does
abbrev pub does_set : SetVerb → Words → ConnState → Leaf ConnState
does_set verbs.Create words host = set_create words host
does_set verbs.Put words host = on_set words (set_put words) host
does_set verbs.Get words host = on_set words (set_get exact words) host
does_set verbs.Iget words host = on_set words (set_get ignoring_case words) host
does_set verbs.Find words host = on_set words (set_find exact words) host
does_set verbs.Ifind words host = on_set words (set_find ignoring_case words) host
does_set verbs.Cput words host = on_set words (set_cput exact words) host
does_set verbs.Icput words host = on_set words (set_cput ignoring_case words) host
does_set verbs.Update words host = on_set words (set_update words) host
does_set verbs.Delete words host = on_set words (set_delete words) host
does_set verbs.Delkey words host = on_set words (set_delkey exact words) host
does_set verbs.Idelkey words host = on_set words (set_delkey ignoring_case words) host
does_set verbs.Truncate words host = on_set words (set_truncate words) host
does_set verbs.Merge words host = on_set words (set_merge words) host
does_set verbs.Copy words host = on_set words set_copy host
does_set verbs.Free words host = on_set words set_free host
does_set verbs.Size words host = on_set words set_size host
does_set verbs.Name words host = on_set words set_name host
does_set verbs.Key words host = on_set words (set_key words) host
does_set verbs.Value words host = on_set words (set_value words) host

abbrev pub by_set_verb : Option SetVerb → Words → ConnState → Leaf ConnState
by_set_verb None words host = no_subcommand words host
by_set_verb (Some verb) words host = shaped (set_takes verb (length words)) words (does_set verb words) host

-- `ns_set SUBCOMMAND ..`
abbrev pub ns_set : Words → ConnState → Leaf ConnState
ns_set words host = counted 2 5 words (by_set_verb (set_verb_of (arg words 1)) words) host
