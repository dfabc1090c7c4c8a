-- The statuses of the responses whose status no script names (RFC 9110, section 15).
use Rattle.std.specs.Prelude.{ℕ}

abbrev pub ok : ℕ
ok = 200

-- what is asked for is at another URL
abbrev pub found : ℕ
found = 302

abbrev pub unauthorized : ℕ
unauthorized = 401

abbrev pub forbidden : ℕ
forbidden = 403

abbrev pub not_found : ℕ
not_found = 404

abbrev pub internal_server_error : ℕ
internal_server_error = 500

abbrev pub service_unavailable : ℕ
service_unavailable = 503
