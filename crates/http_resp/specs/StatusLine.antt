-- The first line of a response (RFC 9112, section 4).
use Rattle.std.specs.Prelude.{ℕ, ◌==◌, ◌++◌, codes, decimal, if◌then◌else◌}
use Rattle.txt_core.specs.Names.{Bytes}

-- The reason phrase of a status code.
unfoldable pub reason : ℕ → Bytes
reason status =
    if status == 200 then codes "OK"
    else if status == 201 then codes "Created"
    else if status == 204 then codes "No Content"
    else if status == 301 then codes "Moved Permanently"
    else if status == 302 then codes "Found"
    else if status == 304 then codes "Not Modified"
    else if status == 400 then codes "Bad Request"
    else if status == 401 then codes "Unauthorized"
    else if status == 403 then codes "Forbidden"
    else if status == 404 then codes "Not Found"
    else if status == 405 then codes "Method Not Allowed"
    else if status == 413 then codes "Content Too Large"
    else if status == 431 then codes "Request Header Fields Too Large"
    else if status == 500 then codes "Internal Server Error"
    else if status == 501 then codes "Not Implemented"
    else if status == 503 then codes "Service Unavailable"
    else codes "Unknown"

-- The code and its reason phrase.
abbrev pub status_text : ℕ → Bytes
status_text status = decimal status ++ codes " " ++ reason status

-- The version is always 1.1, the highest that the server conforms to.
unfoldable pub status_line : ℕ → Bytes
status_line status = codes "HTTP/1.1 " ++ status_text status ++ codes "\r\n"
