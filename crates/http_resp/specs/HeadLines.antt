-- The lines of a head around its output fields and those of its content.
use Rattle.std.specs.Prelude.{ℕ, Bool, ◌++◌, codes}
use Rattle.txt_core.specs.Names.{Bytes, Moment}
use Rattle.http_resp.specs.Moment.{fixdate}
use Rattle.http_resp.specs.OutputFields.{field_line}
use Rattle.http_resp.specs.ResponseBytes.{connection_field, server_name}
use Rattle.http_resp.specs.StatusLine.{status_line}

-- The status line with the Date and Server fields.
abbrev pub first_lines : ℕ → Moment → Bytes
first_lines status moment =
    status_line status ++ (field_line (codes "Date") (fixdate moment) ++ field_line (codes "Server") server_name)

-- The Connection field and the empty line.
abbrev pub last_lines : Bool → Bytes
last_lines close = field_line (connection_field close).0 (connection_field close).1 ++ codes "\r\n"
