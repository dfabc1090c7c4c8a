-- The commands on texts of URLs and on moments.
use Rattle.std.specs.Prelude.{ℕ, [], ◌∷◌, decimal, Bool, ◌||◌, ◌==◌, nat_le, flat_map, if◌then◌else◌, Ok, Err}
use Rattle.std.specs.Char.{is_ascii_alphanumeric}
use Rattle.percent_encoding.specs.Percent.{percent_encode_byte}
use Rattle.form_urlencoded.specs.Form.{decode}
use Rattle.txt_core.specs.Names.{Bytes, Words}
use Rattle.txt_core.specs.Limits.{last_moment}
use Rattle.http_resp.specs.Moment.{fixdate}
use Rattle.tcl_host.specs.Leaf.{Leaf}
use Rattle.natives.specs.Words.{arg}
use Rattle.conn_host.specs.Conns.{ConnState}
use Rattle.tcl_host.specs.Checks.{gives, unfit}
use Rattle.conn_host.specs.Checks.{Checked, given, counted, count}

-- a letter, a digit, or one of `-_.~` (RFC 3986, section 2.3)
abbrev pub is_unreserved : ℕ → Bool
is_unreserved byte = is_ascii_alphanumeric byte || byte == 45 || byte == 95 || byte == 46 || byte == 126

-- these bytes stand as they are, and each other is `%` and two hexadecimal digits, with capital letters
abbrev pub encoded : Bytes → Bytes
encoded text = flat_map (λ byte. if is_unreserved byte then byte ∷ [] else percent_encode_byte byte) text

-- `ns_urlencode TEXT` gives the text so encoded
abbrev pub ns_urlencode : Words → ConnState → Leaf ConnState
ns_urlencode words host = counted 2 2 words (gives (encoded (arg words 1))) host

-- `ns_urldecode TEXT` gives the text in which each `+` is a space and then each `%` with two hexadecimal digits is their byte;
-- any other `%` stays
abbrev pub ns_urldecode : Words → ConnState → Leaf ConnState
ns_urldecode words host = counted 2 2 words (gives (decode (arg words 1))) host

-- `ns_time` gives the moment of the run, in seconds since 1970
abbrev pub ns_time : Words → ConnState → Leaf ConnState
ns_time words host = counted 1 1 words (λ host. gives (decimal host.moment) host) host

-- a moment up to the last one
abbrev pub up_to_last : Checked ℕ → Words → Checked ℕ
up_to_last (Ok moment) words = if nat_le moment last_moment then Ok moment else Err (unfit words 1)
up_to_last (Err message) words = Err message

-- the second word is a moment
abbrev pub moment : Words → Checked ℕ
moment words = up_to_last (count words 1) words

-- `ns_httptime MOMENT` gives the moment as a date of HTTP
abbrev pub ns_httptime : Words → ConnState → Leaf ConnState
ns_httptime words host = counted 2 2 words (given (moment words) (λ moment. gives (fixdate moment))) host
