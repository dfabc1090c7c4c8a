use Rattle.std.proofs.Common.{◌≡◌, ℕ, ◌<◌, min, take, get_or, true}
use Rattle.txt_core.specs.Digits.{is_digit, value_of}
use Rattle.tcl_string.proofs.pattern.width.Given as goal

-- the bytes so far are digits, and the width is theirs as far as it matters
abbrev pub invariant-digits : goal.invariant-digits
invariant-digits l = record {
  counted : l.count ≡ l.byte-index;
  digits : (k : ℕ) → k < l.byte-index → is_digit 10 (get_or l.bytes k 0) ≡ true;
  value : l.width ≡ min (value_of 10 (take l.byte-index l.bytes)) 1001;
}
