-- The form of a request: the pairs of its query, and then those of its body where that is a form.
use Rattle.std.specs.Prelude.{ℕ, Bool, ◌==◌, List, [], ◌++◌, map, codes, if◌then◌else◌}
use Rattle.std.specs.List.{before_first}
use Rattle.std.specs.Str.{str_eq_ignore_ascii_case}
use Rattle.std.specs.Str.Lossy.{utf8_lossy}
use Rattle.form_urlencoded.specs.Form.{raw_pairs, decode}
use Rattle.txt_core.specs.Names.{Bytes}
use Rattle.txt_core.specs.Number.{trimmed}
use Rattle.ns_sets.specs.Fields.{Field, ignoring_case, value_of}
use Rattle.http_req.specs.declared.request.Request.{Request}

-- The text that a name or a value of a form stands for: each `+` is a space, then what is percent-encoded is decoded, once,
-- and then each sequence that is not UTF-8 is U+FFFD.
abbrev pub form_text : Bytes → Bytes
form_text bytes = utf8_lossy (decode bytes)

-- the pairs of a form, in order
abbrev pub form_fields : Bytes → List Field
form_fields form = map (λ (pair : Bytes × Bytes). (form_text pair.0, form_text pair.1)) (raw_pairs form)

abbrev pub is_semicolon : ℕ → Bool
is_semicolon byte = byte == 59

-- the media type of a body: what its first Content-Type field has before any `;`, without the blanks round it
abbrev pub media_type : List Field → Bytes
media_type fields = trimmed (before_first is_semicolon (value_of ignoring_case fields (codes "content-type")))

-- the body is a form by its media type, ignoring case
abbrev pub is_form : List Field → Bool
is_form fields = str_eq_ignore_ascii_case (media_type fields) (codes "application/x-www-form-urlencoded")

-- the pairs of the body, where it is a form
abbrev pub body_fields : Request → List Field
body_fields request = if is_form request.fields then form_fields request.body else []

-- the pairs of the query, and then those of the body
abbrev pub form_of : Request → List Field
form_of request = form_fields request.query ++ body_fields request
