-- The statuses of refusals (RFC 9110, section 15; RFC 6585, section 5).
use Rattle.std.specs.Prelude.{ℕ}

abbrev pub bad_request : ℕ
bad_request = 400

abbrev pub content_too_large : ℕ
content_too_large = 413

abbrev pub fields_too_large : ℕ
fields_too_large = 431

abbrev pub not_implemented : ℕ
not_implemented = 501
