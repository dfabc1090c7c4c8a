-- The head of a response as lines.
use Rattle.std.specs.Prelude.{◌≡◌, Bool, IsTrue, ◌∷◌, ◌++◌, codes, map}
use Rattle.std.specs.List.{list_all, flat_map}
use Rattle.http_header.specs.Token.{is_value_byte}
use Rattle.txt_core.specs.Names.{Bytes, Words, Moment}
use Rattle.http_resp.specs.StatusLine.{status_text}
use Rattle.http_resp.specs.ResponseBytes.{head_bytes, head_fields}
use Rattle.http_resp.specs.declared.response.Response.{Response}

-- No byte is 127 or one below 32 other than tab; so none is a carriage return, a line feed or a NUL.
abbrev pub holds_no_line_end : Bytes → Bool
holds_no_line_end bytes = list_all is_value_byte bytes

-- Each line with its end.
abbrev pub with_ends : Words → Bytes
with_ends lines = flat_map (λ line. line ++ codes "\r\n") lines

abbrev pub field_text : Bytes × Bytes → Bytes
field_text field = field.0 ++ codes ": " ++ field.1

-- The lines of a head before the empty one.
abbrev pub head_lines : Response → Moment → Bool → Words
head_lines response moment close =
    (codes "HTTP/1.1 " ++ status_text response.status) ∷ map field_text (head_fields response moment close)

-- The head is these lines and an empty one, and no line holds the end of a line.
pub record IsInLines (response : Response) (moment : Moment) (close : Bool) : Type 0 where
  pub whole : head_bytes response moment close ≡ with_ends (head_lines response moment close) ++ codes "\r\n"
  pub unbroken : IsTrue (list_all holds_no_line_end (head_lines response moment close))
