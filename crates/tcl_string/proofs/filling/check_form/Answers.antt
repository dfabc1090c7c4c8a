use Rattle.std.proofs.Common.{refl, ap, Ok}
use Rattle.natives.specs.Words.{arg}
use Rattle.tcl_string.specs.Patterns.{form_of, letter_code}
use Rattle.tcl_string.proofs.Filled.{checks_word, checks_decimal, checks_hexadecimal, checks_character}
use Rattle.tcl_string.proofs.filling.check_form.Goals as goal

pub returns-in-Word : goal.returns-in-Word
returns-in-Word c = checks_word {A = Unit {0}} (λ _. Unit {0}) (form_of c.args.form) (arg c.args.words.now 0) (Ok (tt {0})) (ap letter_code c.in-Word.is) (refl, tt {0})

pub returns-in-Decimal : goal.returns-in-Decimal
returns-in-Decimal c =
    checks_decimal {A = Unit {0}} (λ _. Unit {0}) (form_of c.args.form) (arg c.args.words.now 0) c.check_number.result (ap letter_code c.in-Decimal.is) (rw c.first_word.ensures at c.check_number.ensures)

pub returns-in-Hexadecimal : goal.returns-in-Hexadecimal
returns-in-Hexadecimal c =
    checks_hexadecimal {A = Unit {0}} (λ _. Unit {0}) (form_of c.args.form) (arg c.args.words.now 0) c.check_number-in-Hexadecimal.result (ap letter_code c.in-Hexadecimal.is) (rw c.first_word-in-Hexadecimal.ensures at c.check_number-in-Hexadecimal.ensures)

pub returns-in-Character : goal.returns-in-Character
returns-in-Character c =
    checks_character {A = Unit {0}} (λ _. Unit {0}) (form_of c.args.form) (arg c.args.words.now 0) c.check_character.result (ap letter_code c.in-Character.is) (rw c.first_word-in-Character.ensures at c.check_character.ensures)
