-- The replies that are written without memory are responses like any other.
use Rattle.std.proofs.Common.{◌≡◌, ℕ, List, [], ◌++◌, codes, append_assoc, append-nil}
use Rattle.std.specs.Fmt.{digits}
use Rattle.http_resp.specs.Moment.{fixdate}
use Rattle.http_resp.specs.OutputFields.{field_line}
use Rattle.http_resp.specs.StatusLine.{status_line, reason}
use Rattle.http_resp.specs.ResponseBytes.{content_fields, head_bytes, response_bytes}
use Rattle.http_resp.specs.Replies.{busy_bytes, no_memory_bytes}

around : (line name date end server kind long connection empty body : List ℕ)
    → (line ++ name) ++ (date ++ (end ++ (server ++ (kind ++ (long ++ (connection ++ (empty ++ body)))))))
    ≡ ((line ++ ((name ++ date ++ end) ++ (server ++ (kind ++ (long ++ (connection ++ [])))))) ++ empty) ++ body
around line name date end server kind long connection empty body = simp (append_assoc, append-nil)

pub no_memory_is : (moment : ℕ) (date : List ℕ) → date ≡ fixdate moment → codes "HTTP/1.1 503 Service Unavailable\r\nDate: " ++ (date ++ codes "\r\nServer: AOLserver-profile/1\r\nContent-Type: text/plain\r\nContent-Length: 14\r\nConnection: close\r\n\r\nout of memory\n") ≡ no_memory_bytes moment
unfolding digits response_bytes head_bytes status_line reason field_line content_fields
no_memory_is moment date is =
    rw is
    (around (codes "HTTP/1.1 503 Service Unavailable\r\n") (codes "Date: ") (fixdate moment) (codes "\r\n") (codes "Server: AOLserver-profile/1\r\n") (codes "Content-Type: text/plain\r\n") (codes "Content-Length: 14\r\n") (codes "Connection: close\r\n") (codes "\r\n") (codes "out of memory\n"))

pub busy_is : (moment : ℕ) (date : List ℕ) → date ≡ fixdate moment → codes "HTTP/1.1 503 Service Unavailable\r\nDate: " ++ (date ++ codes "\r\nServer: AOLserver-profile/1\r\nContent-Type: text/plain\r\nContent-Length: 24\r\nConnection: close\r\n\r\n503 Service Unavailable\n") ≡ busy_bytes moment
unfolding digits response_bytes head_bytes status_line reason field_line content_fields
busy_is moment date is =
    rw is
    (around (codes "HTTP/1.1 503 Service Unavailable\r\n") (codes "Date: ") (fixdate moment) (codes "\r\n") (codes "Server: AOLserver-profile/1\r\n") (codes "Content-Type: text/plain\r\n") (codes "Content-Length: 24\r\n") (codes "Connection: close\r\n") (codes "\r\n") (codes "503 Service Unavailable\n"))
