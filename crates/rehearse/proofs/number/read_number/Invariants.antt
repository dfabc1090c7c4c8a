use Rattle.std.proofs.Common.{◌≡◌, take, true}
use Rattle.std.specs.List.{list_all}
use Rattle.txt_core.specs.Digits.{is_digit, value_of}
use Rattle.rehearse.proofs.number.read_number.Given as goal

abbrev pub invariant-digits : goal.invariant-digits
invariant-digits l = record {
  value : l.number ≡ value_of 10 (take l.byte-index l.digits);
  digits : list_all (is_digit 10) (take l.byte-index l.digits) ≡ true;
}
