-- What forms write.
use Rattle.std.proofs.Common.{◌≡◌, ◌∙◌, ap, sym, refl, ℕ, ◌-◌, ◌<◌, List, [], ◌∷◌, ◌++◌, length, drop, Bool, true, false, Option, None, Some, Result, Ok, Err, arith, append_assoc, append-nil, length-append}
use Rattle.std.proofs.lemmas.Bool.{ltb-true, lt-ltb}
use Rattle.std.specs.Fmt.{digits}
use Rattle.std.specs.Prelude.{replicate, ◌==◌, if◌then◌else◌, codes, decimal, unsigned_abs, encode_utf8, ℤ}
use Rattle.natives.specs.Answers.{Reply, unless, Answers, Tried}
use Rattle.natives.specs.Checks.{integer, integer_error}
use Rattle.txt_core.specs.ErrorTexts.{bad_value}
use Rattle.txt_core.specs.Limits.{is_long}
use Rattle.natives.specs.Words.{arg}
use Rattle.natives.specs.Parts.{Form, Part, itself, form, taken_by}
use Rattle.natives.specs.Formatting.{filled, form_error, form_text, takes_word, put_front, written, sign_of, in_64_bits, is_character}
use Rattle.natives.specs.declared.fault.Fault.{Fault}
use Rattle.natives.specs.declared.fault.Fault.TheVariants.{Error, NoMemory}
use Rattle.tcl_string.specs.Filling.{Puts, PutsNext, part_error, part_text}
use Rattle.tcl_string.specs.Keeping.{Keeps}
use Rattle.tcl_string.specs.declared.output.Output.{Output}
use Rattle.tcl_string.specs.declared.output.Output.TheVariants.{Whole, TooLong}
use Rattle.tcl_string.proofs.Saying.{no_memory}

pub filled_left : (f : Form) (out sign text : List ℕ) → f.left ≡ true → ((out ++ sign) ++ text) ++ replicate (f.width - length (sign ++ text)) 32 ≡ out ++ filled f sign text
unfolding filled
filled_left f out sign text e = rw e (simp append_assoc)

pub filled_zeros : (f : Form) (out sign text : List ℕ) → f.left ≡ false → f.zeros ≡ true → ((out ++ sign) ++ replicate (f.width - length (sign ++ text)) 48) ++ text ≡ out ++ filled f sign text
unfolding filled
filled_zeros f out sign text e z = rw (e, z) (simp append_assoc)

pub filled_spaces : (f : Form) (out sign text : List ℕ) → f.left ≡ false → f.zeros ≡ false → ((out ++ replicate (f.width - length (sign ++ text)) 32) ++ sign) ++ text ≡ out ++ filled f sign text
unfolding filled
filled_spaces f out sign text e z = rw (e, z) (simp append_assoc)

-- texts put in front of what comes
pub front_none : (reply : Reply) → put_front [] reply ≡ reply
front_none (Ok text) = refl
front_none (Err error) = refl

pub front_twice : (a b : List ℕ) (reply : Reply) → put_front a (put_front b reply) ≡ put_front (a ++ b) reply
front_twice a b (Ok text) = ap (λ (t : List ℕ). Ok t) (sym (append_assoc a b text))
front_twice a b (Err error) = refl

-- the parts from one on, by this one
form_next : (percent : Bool) (f : Form) (ps : List Part) (words : List (List ℕ)) → (f.letter == 37) ≡ percent
    → written (form f ∷ ps) words ≡ unless (part_error (form f) (arg words 0)) (put_front (part_text (form f) (arg words 0)) (written ps (drop (taken_by (takes_word (form f))) words)))
unfolding written
form_next true f ps words e = rw e refl
form_next false f ps words e = rw e refl

pub written_next : (p : Part) (ps : List Part) (words : List (List ℕ))
    → written (p ∷ ps) words ≡ unless (part_error p (arg words 0)) (put_front (part_text p (arg words 0)) (written ps (drop (taken_by (takes_word p)) words)))
unfolding written
written_next (itself b) ps words = refl
written_next (form f) ps words = form_next (f.letter == 37) f ps words refl

-- nothing is left to write
pub written_end : (out : List ℕ) (words : List (List ℕ)) (all : Reply) → put_front out (written [] words) ≡ all → Ok out ≡ all
unfolding written
written_end out words all e = ap (λ (t : List ℕ). Ok t) (sym (append-nil out)) ∙ e

-- the first word that a part can't take is the error of all
pub written_fails : {A : Type 0} (P : A → Type 0) (out : List ℕ) (error : Option (List ℕ)) (more all : Reply) (fault : Fault) → put_front out (unless error more) ≡ all → Tried error P (Err fault) → Answers all (Err fault)
written_fails P out error more all (Error text) came e = rw (← came, e) refl
written_fails P out error more all NoMemory came e = no_memory all

-- where it takes it, the text goes on
pub written_on : (out text now : List ℕ) (error : Option (List ℕ)) (more all : Reply) → put_front out (unless error (put_front text more)) ≡ all → error ≡ None → now ≡ out ++ text → put_front now more ≡ all
written_on out text now error more all came none is = rw is (sym (front_twice out text more)) ∙ rw none at came

-- what is wrong with a form's word, and what the form writes, by its letter
error_at : (f : Form) (n : ℕ) (word : List ℕ) → f.letter ≡ n → part_error (form f) word ≡ (if n == 37 then None else form_error n word)
error_at f n word e = ap (λ (k : ℕ). if◌then◌else◌ {A = Option (List ℕ)} (k == 37) None (form_error k word)) e

abbrev text_by : Form → ℕ → List ℕ → List ℕ
text_by f n word =
    if n == 37 then filled f [] (codes "%")
    else if n == 100 then filled f (sign_of (integer word)) (decimal (unsigned_abs (integer word)))
    else if n == 120 then filled f [] (digits 16 false (in_64_bits (integer word)))
    else if n == 99 then filled f [] (encode_utf8 (unsigned_abs (integer word)))
    else filled f [] word

text_at : (f : Form) (n : ℕ) (word : List ℕ) → f.letter ≡ n → part_text (form f) word ≡ text_by f n word
unfolding form_text
text_at f n word e = ap (λ (k : ℕ). text_by f k word) e

put_as : {A : Type 0} (error told : Option (List ℕ)) (text put old now : List ℕ) (result : Result A Fault) → error ≡ told → text ≡ put → Puts told old put now result → Puts error old text now result
put_as error told text put old now result e t h = rw (e, t) h

pub puts_percent : {A : Type 0} (f : Form) (word old now : List ℕ) (result : Result A Fault) → f.letter ≡ 37 → Puts None old (filled f [] (codes "%")) now result → Puts (part_error (form f) word) old (part_text (form f) word) now result
puts_percent f word old now result e h = put_as (part_error (form f) word) None (part_text (form f) word) (filled f [] (codes "%")) old now result (error_at f 37 word e) (text_at f 37 word e) h

pub puts_word : {A : Type 0} (f : Form) (word old now : List ℕ) (result : Result A Fault) → f.letter ≡ 115 → Puts None old (filled f [] word) now result → Puts (part_error (form f) word) old (part_text (form f) word) now result
unfolding form_error
puts_word f word old now result e h = put_as (part_error (form f) word) None (part_text (form f) word) (filled f [] word) old now result (error_at f 115 word e) (text_at f 115 word e) h

pub puts_decimal : {A : Type 0} (f : Form) (word old now : List ℕ) (result : Result A Fault) → f.letter ≡ 100 → Puts (integer_error word) old (filled f (sign_of (integer word)) (decimal (unsigned_abs (integer word)))) now result → Puts (part_error (form f) word) old (part_text (form f) word) now result
unfolding form_error
puts_decimal f word old now result e h =
    put_as (part_error (form f) word) (integer_error word) (part_text (form f) word) (filled f (sign_of (integer word)) (decimal (unsigned_abs (integer word)))) old now result (error_at f 100 word e) (text_at f 100 word e) h

pub puts_hexadecimal : {A : Type 0} (f : Form) (word old now : List ℕ) (result : Result A Fault) → f.letter ≡ 120 → Puts (integer_error word) old (filled f [] (digits 16 false (in_64_bits (integer word)))) now result → Puts (part_error (form f) word) old (part_text (form f) word) now result
unfolding form_error
puts_hexadecimal f word old now result e h =
    put_as (part_error (form f) word) (integer_error word) (part_text (form f) word) (filled f [] (digits 16 false (in_64_bits (integer word)))) old now result (error_at f 120 word e) (text_at f 120 word e) h

pub puts_character : {A : Type 0} (f : Form) (word old now : List ℕ) (result : Result A Fault) → f.letter ≡ 99 → Puts (form_error 99 word) old (filled f [] (encode_utf8 (unsigned_abs (integer word)))) now result → Puts (part_error (form f) word) old (part_text (form f) word) now result
puts_character f word old now result e h =
    put_as (part_error (form f) word) (form_error 99 word) (part_text (form f) word) (filled f [] (encode_utf8 (unsigned_abs (integer word)))) old now result (error_at f 99 word e) (text_at f 99 word e) h

-- the word of a character's form
pub no_number_here : {A : Type 0} (Q : A → Type 0) (R : ℤ → Type 0) (word : List ℕ) (fault : Fault) → Tried (integer_error word) R (Err fault) → Tried (form_error 99 word) Q (Err fault)
unfolding form_error
no_number_here Q R word (Error text) e = rw e refl
no_number_here Q R word NoMemory e = tt

character_is : (is : Bool) (n found : ℕ) → Some found ≡ (if is then Some n else None) → (is ≡ true) × (found ≡ n)
character_is true n found e = (refl, cc)
character_is false n found e = absurd (cc)

pub character_found : (word : List ℕ) (found : ℕ) → integer_error word ≡ None → Some found ≡ (if is_character (integer word) then Some (unsigned_abs (integer word)) else None) → (form_error 99 word ≡ None) × (found ≡ unsigned_abs (integer word))
unfolding form_error
character_found word found none e =
    let is = character_is (is_character (integer word)) (unsigned_abs (integer word)) found e in
    (rw (none, is.0) refl, is.1)

no_character_is : (is : Bool) (n : ℕ) → None ≡ (if is then Some n else None) → is ≡ false
no_character_is true n e = absurd (cc)
no_character_is false n e = refl

pub no_character_found : (word : List ℕ) → integer_error word ≡ None → None ≡ (if is_character (integer word) then Some (unsigned_abs (integer word)) else None) → form_error 99 word ≡ Some (bad_value word (codes "format"))
unfolding form_error
no_character_found word none e = rw (none, no_character_is (is_character (integer word)) (unsigned_abs (integer word)) e) refl

-- the word of a form, by its letter, where it is only looked at
tried_as : {A : Type 0} (P : A → Type 0) (error told : Option (List ℕ)) (result : Result A Fault) → error ≡ told → Tried told P result → Tried error P result
tried_as P error told result e h = rw e h

pub checks_word : {A : Type 0} (P : A → Type 0) (f : Form) (word : List ℕ) (result : Result A Fault) → f.letter ≡ 115 → Tried None P result → Tried (part_error (form f) word) P result
unfolding form_error
checks_word P f word result e h = tried_as P (part_error (form f) word) None result (error_at f 115 word e) h

pub checks_decimal : {A : Type 0} (P : A → Type 0) (f : Form) (word : List ℕ) (result : Result A Fault) → f.letter ≡ 100 → Tried (integer_error word) P result → Tried (part_error (form f) word) P result
unfolding form_error
checks_decimal P f word result e h = tried_as P (part_error (form f) word) (integer_error word) result (error_at f 100 word e) h

pub checks_hexadecimal : {A : Type 0} (P : A → Type 0) (f : Form) (word : List ℕ) (result : Result A Fault) → f.letter ≡ 120 → Tried (integer_error word) P result → Tried (part_error (form f) word) P result
unfolding form_error
checks_hexadecimal P f word result e h = tried_as P (part_error (form f) word) (integer_error word) result (error_at f 120 word e) h

pub checks_character : {A : Type 0} (P : A → Type 0) (f : Form) (word : List ℕ) (result : Result A Fault) → f.letter ≡ 99 → Tried (form_error 99 word) P result → Tried (part_error (form f) word) P result
checks_character P f word result e h = tried_as P (part_error (form f) word) (form_error 99 word) result (error_at f 99 word e) h

-- a part behind a text of which all is kept, and behind one that is over the limit
pub puts_whole : (error : Option (List ℕ)) (kept text more : List ℕ) (out : Output) (result : Result Output Fault) → out ≡ Whole kept → Keeps out text → PutsNext error kept more result → PutsNext error text more result
puts_whole error kept text more out result is keeps puts =
    let whole : (kept ≡ text) × (is_long text ≡ false) = rw is at keeps in
    rw whole.0 at puts

long_more : (text more : List ℕ) → is_long text ≡ true → is_long (text ++ more) ≡ true
long_more text more long =
    let over : 1048576 < length text = ltb-true 1048576 (length text) long in
    lt-ltb 1048576 (length (text ++ more)) (omega (arith, over, length-append text more))

long_next : (text more : List ℕ) (out next : Output) → out ≡ TooLong → Keeps out text → next ≡ TooLong → Keeps next (text ++ more)
long_next text more out next is keeps same =
    let long : is_long text ≡ true = rw is at keeps in
    rw same (long_more text more long)

pub puts_long : (error : Option (List ℕ)) (text more : List ℕ) (out : Output) (result : Result Output Fault) → out ≡ TooLong → Keeps out text → Tried error (λ next. next ≡ TooLong) result → PutsNext error text more result
puts_long error text more out (Ok next) is keeps tried = (tried.0, long_next text more out next is keeps tried.1)
puts_long error text more out (Err (Error told)) is keeps tried = tried
puts_long error text more out (Err NoMemory) is keeps tried = tt
