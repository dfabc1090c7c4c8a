use Rattle.std.proofs.Common.{◌≡◌, ◌∙◌, ap}
use Rattle.natives.specs.Words.{arg}
use Rattle.tcl_string.specs.Patterns.{form_of, letter_code}
use Rattle.tcl_string.proofs.Filled.{puts_word, puts_decimal, puts_hexadecimal, puts_character}
use Rattle.tcl_string.proofs.filling.put_form.Goals as goal

pub returns-in-Word : goal.returns-in-Word
returns-in-Word c =
    let word : c.bytes.result.now ≡ arg c.args.words.now 0 = c.bytes.ensures ∙ c.first_word.ensures in
    puts_word (form_of c.args.form) (arg c.args.words.now 0) c.args.out.now c.put_text-in-Word.new.out c.put_text-in-Word.result (ap letter_code c.in-Word.is) (rw word at c.put_text-in-Word.ensures)

pub returns-in-Decimal : goal.returns-in-Decimal
returns-in-Decimal c =
    puts_decimal (form_of c.args.form) (arg c.args.words.now 0) c.args.out.now c.put_decimal.new.out c.put_decimal.result (ap letter_code c.in-Decimal.is) (rw c.first_word-in-Decimal.ensures at c.put_decimal.ensures)

pub returns-in-Hexadecimal : goal.returns-in-Hexadecimal
returns-in-Hexadecimal c =
    puts_hexadecimal (form_of c.args.form) (arg c.args.words.now 0) c.args.out.now c.put_hexadecimal.new.out c.put_hexadecimal.result (ap letter_code c.in-Hexadecimal.is) (rw c.first_word-in-Hexadecimal.ensures at c.put_hexadecimal.ensures)

pub returns-in-Character : goal.returns-in-Character
returns-in-Character c =
    puts_character (form_of c.args.form) (arg c.args.words.now 0) c.args.out.now c.put_character.new.out c.put_character.result (ap letter_code c.in-Character.is) (rw c.first_word-in-Character.ensures at c.put_character.ensures)
