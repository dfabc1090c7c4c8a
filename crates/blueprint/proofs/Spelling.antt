-- A script of definitions spells their commands in literal words.
use Rattle.std.proofs.Common.{◌≡◌, ◌≢◌, ℕ, ◌+◌, List, [], ◌∷◌, ◌++◌, map, Bool, true, false, Some, refl, ap, sym, ◌∙◌, subst, arith, append_assoc, append-nil}
use Rattle.std.specs.Prelude.{◌==◌, ◌&&◌, ◌||◌, not, codes}
use Rattle.std.specs.List.{AllByRecursion}
use Rattle.std.proofs.lemmas.Bool.Decides.{nat_tests}
use Rattle.txt_core.specs.Escape.{escape_of}
use Rattle.txt_core.specs.Limits.{most_nested}
use Rattle.txt_core.specs.Balance.{is_ordinary, Balanced, no_newline}
use Rattle.txt_core.specs.Balance as balance
use Rattle.txt_core.specs.Counting.{balances, balances_matches}
use Rattle.txt_core.specs.Quoting.{is_special, none_special, is_plain, letter_of, with_backslashes, escaped, written, quoting}
use Rattle.tcl_parse.specs.Bytes.{is_blank, ends_command, joins_lines}
use Rattle.tcl_parse.specs.Gaps.{at_end, ends_word, skip, between, skip_blanks}
use Rattle.tcl_parse.specs.Braces.{Braced, matching_brace, taken_byte, inner_braces, plain_byte}
use Rattle.tcl_parse.specs.Steps.{bare_word, ends, bytes, next}
use Rattle.tcl_parse.specs.Tree.{Word, Command, Script, literal}
use Rattle.tcl_parse.specs.Outcome.{Outcome, done, put}
use Rattle.tcl_parse.specs.Grammar.{InBracket, InIndex, bare, opening, followed, PartsAt, no_part, some_bytes, EnclosedAt, in_braces, WordAt, enclosed, in_nothing, WordsAt, no_word, one_word, ScriptAt, no_command, one_command, Reads}
use Rattle.tcl_parse.specs.Reading.{reading_is}
use Rattle.cmd_table.specs.declared.definition.Def.{Def}
use Rattle.cmd_table.specs.declared.definition.Def.TheVariants.{Proc, Rename, Route, Filter, Cleanup, Set}
use Rattle.blueprint.specs.Scripts.{when_name, command_words, script_of}
use Rattle.blueprint.specs.Reading.{literal_of, literals_of, command_def, def_of_literals, commands_from, by_reading, IsMade, definitions}
use Rattle.blueprint.specs.Laws.{ScriptsAreRead}

-- ---- truth values

left_of : (p q : Bool) → (p && q) ≡ true → p ≡ true
left_of true q e = refl
left_of false q e = e

right_of : (p q : Bool) → (p && q) ≡ true → q ≡ true
right_of true q e = e
right_of false q e = absurd (cc)

not_true : (p : Bool) → not p ≡ true → p ≡ false
not_true true e = absurd (cc)
not_true false e = refl

-- ---- literal words

-- a word of these bytes
abbrev word_of : List ℕ → Word
word_of x = literal x []

one_more : (b : ℕ) (x : List ℕ) → literal (b ∷ []) (word_of x) ≡ word_of (b ∷ x)
one_more b [] = refl
one_more b (c ∷ x) = refl

literal_back : (x : List ℕ) → literal_of (word_of x) ≡ Some x
literal_back [] = refl
literal_back (b ∷ x) = refl

literals_back : (v : List (List ℕ)) → literals_of (map (λ (x : List ℕ). word_of x) v) ≡ Some v
literals_back [] = refl
literals_back (x ∷ v) = rw (literal_back x, literals_back v) refl

-- ---- a written word

-- parts that stand in no bracket
abbrev Parts : List ℕ → Outcome Word → Type 0
Parts = PartsAt (InBracket most_nested) (InIndex most_nested) (bare_word false)

no_more : (rest : List ℕ) → ends_word false rest ≡ true → next (bare_word false) rest ≡ ends
no_more [] h = refl
no_more (b ∷ t) h = rw h refl

plain_next : (b : ℕ) (t : List ℕ) → is_special b ≡ false → next (bare_word false) (b ∷ t) ≡ bytes (b ∷ []) t
plain_next b t h =
    let blank : is_blank b ≡ false = grind (arith, nat_tests) in
    let command : ends_command b ≡ false = grind (arith, nat_tests) in
    let slash : (b == 92) ≡ false = grind (arith, nat_tests) in
    let dollar : (b == 36) ≡ false = grind (arith, nat_tests) in
    let bracket : (b == 91) ≡ false = grind (arith, nat_tests) in
    rw (blank, command, slash, dollar, bracket) refl

more_bytes : (b : ℕ) (t x u rest : List ℕ) → next (bare_word false) t ≡ bytes (b ∷ []) u → Parts u (done (word_of x) rest) → Parts t (done (word_of (b ∷ x)) rest)
more_bytes b t x u rest step h = subst (λ (w : Word). Parts t (done w rest)) (one_more b x) (some_bytes step h)

plain_back : (x rest : List ℕ) → none_special x ≡ true → ends_word false rest ≡ true → Parts (x ++ rest) (done (word_of x) rest)
plain_back [] rest h e = no_part (no_more rest e)
plain_back (b ∷ x) rest h e =
    more_bytes b (b ∷ (x ++ rest)) x (x ++ rest) rest (plain_next b (x ++ rest) (not_true (is_special b) (left_of (not (is_special b)) (none_special x) h)))
    (plain_back x rest (right_of (not (is_special b)) (none_special x) h) e)

escaped_back : (b : ℕ) (t : List ℕ) → is_special b ≡ true → escape_of (letter_of b ∷ t) ≡ (b ∷ [], t)
unfolding escape_of
escaped_back b t h = grind (arith, nat_tests)

sign_back : (t : List ℕ) → escape_of (35 ∷ t) ≡ (35 ∷ [], t)
unfolding escape_of
sign_back t = refl

letter_stays : (b : ℕ) → is_special b ≡ true → (letter_of b == 10) ≡ false
letter_stays b h = grind (arith, nat_tests)

slash_next : (c b : ℕ) (t : List ℕ) → (c == 10) ≡ false → escape_of (c ∷ t) ≡ (b ∷ [], t) → next (bare_word false) (92 ∷ c ∷ t) ≡ bytes (b ∷ []) t
slash_next c b t h e = rw h (ap (λ (y : List ℕ × List ℕ). bytes y.0 y.1) e)

slashed_step : (b : ℕ) (x rest : List ℕ) (p : Bool) → is_special b ≡ p → Parts (with_backslashes x ++ rest) (done (word_of x) rest) → Parts (with_backslashes (b ∷ x) ++ rest) (done (word_of (b ∷ x)) rest)
unfolding with_backslashes
slashed_step b x rest true e h =
    rw e (more_bytes b (92 ∷ letter_of b ∷ (with_backslashes x ++ rest)) x (with_backslashes x ++ rest) rest (slash_next (letter_of b) b (with_backslashes x ++ rest) (letter_stays b e) (escaped_back b (with_backslashes x ++ rest) e)) h)
slashed_step b x rest false e h = rw e (more_bytes b (b ∷ (with_backslashes x ++ rest)) x (with_backslashes x ++ rest) rest (plain_next b (with_backslashes x ++ rest) e) h)

slashed_back : (x rest : List ℕ) → ends_word false rest ≡ true → Parts (with_backslashes x ++ rest) (done (word_of x) rest)
unfolding with_backslashes
slashed_back [] rest e = no_part (no_more rest e)
slashed_back (b ∷ x) rest e = slashed_step b x rest (is_special b) refl (slashed_back x rest e)

-- A text begins a word: with no blank, nothing that ends a command, and no backslash-newline.
abbrev Begins : List ℕ → Type 0
Begins [] = ⊥
Begins (b ∷ t) = ((is_blank b || ends_command b) ≡ false) × (joins_lines b t ≡ false)

plain_begins : (b : ℕ) (t : List ℕ) → is_special b ≡ false → Begins (b ∷ t)
plain_begins b t h =
    let gap : (is_blank b || ends_command b) ≡ false = grind (arith, nat_tests) in
    let slash : (b == 92) ≡ false = grind (arith, nat_tests) in
    (gap, rw slash refl)

slash_begins : (c : ℕ) (t : List ℕ) → (c == 10) ≡ false → Begins (92 ∷ c ∷ t)
slash_begins c t h = (refl, h)

bare_byte : (b : ℕ) (t : List ℕ) → is_special b ≡ false → opening (b ∷ t) ≡ bare
bare_byte b t h =
    let p : (b == 123) ≡ false = grind (arith, nat_tests) in
    let q : (b == 34) ≡ false = grind (arith, nat_tests) in
    rw (p, q) refl

slashed_begins : (b : ℕ) (x rest : List ℕ) (p : Bool) → is_special b ≡ p → Begins (with_backslashes (b ∷ x) ++ rest)
unfolding with_backslashes
slashed_begins b x rest true e = rw e (slash_begins (letter_of b) (with_backslashes x ++ rest) (letter_stays b e))
slashed_begins b x rest false e = rw e (plain_begins b (with_backslashes x ++ rest) e)

slashed_bare : (b : ℕ) (x rest : List ℕ) (p : Bool) → is_special b ≡ p → opening (with_backslashes (b ∷ x) ++ rest) ≡ bare
unfolding with_backslashes
slashed_bare b x rest true e = rw e refl
slashed_bare b x rest false e = rw e (bare_byte b (with_backslashes x ++ rest) e)

abbrev AWord : List ℕ → Outcome Word → Type 0
AWord = WordAt (InBracket most_nested) (InIndex most_nested) false

-- what a written word has, with what may follow it
record Written (x text rest : List ℕ) : Type 0 where
  begins : Begins (text ++ rest)
  reads : AWord (text ++ rest) (done (word_of x) rest)

-- ---- in braces

ordinary_is : (b : ℕ) → is_ordinary b ≡ true → (b ≢ 92) × (b ≢ 123) × (b ≢ 125)
ordinary_is b h = (λ e. let f = rw e at h in absurd (cc), λ e. let f = rw e at h in absurd (cc), λ e. let f = rw e at h in absurd (cc))

passed_is : (b : ℕ) → no_newline b ≡ true → b ≢ 10
passed_is b h e = let f = rw e at h in absurd (cc)

-- what matches, in front of what stands up to the matching brace
braced_over : {x : List ℕ} (t v r : List ℕ) → Balanced no_newline x → Braced t v r → Braced (x ++ t) (x ++ v) r
braced_over t v r balance.nothing k = k
braced_over t v r (balance.byte {b = b} e h) k = let o = ordinary_is b e in plain_byte o.0 o.1 o.2 (braced_over t v r h k)
braced_over t v r (balance.passed {b = b} e h) k = taken_byte (passed_is b e) (braced_over t v r h k)
braced_over t v r (balance.pair {s = s} {t = u} h g) k =
    let inner : Braced (s ++ (125 ∷ (u ++ t))) (s ++ []) (u ++ t) = braced_over (125 ∷ (u ++ t)) [] (u ++ t) h (matching_brace (u ++ t)) in
    let shut : Braced (s ++ (125 ∷ (u ++ t))) s (u ++ t) = subst (λ (z : List ℕ). Braced (s ++ (125 ∷ (u ++ t))) z (u ++ t)) (append-nil s) inner in
    let all : Braced (123 ∷ (s ++ (125 ∷ (u ++ t)))) (123 ∷ (s ++ (125 ∷ (u ++ v)))) r = inner_braces shut (braced_over t v r g k) in
    rw (append_assoc s (125 ∷ u) t, append_assoc s (125 ∷ u) v) all

in_braces_back : (x rest : List ℕ) → balances false 0 x ≡ true → ends_word false rest ≡ true → Written x (123 ∷ (x ++ (125 ∷ []))) rest
in_braces_back x rest h e =
    let over : Braced (x ++ (125 ∷ rest)) (x ++ []) rest = braced_over (125 ∷ rest) [] rest (balances_matches x h) (matching_brace rest) in
    let shut : Braced (x ++ (125 ∷ rest)) x rest = subst (λ (z : List ℕ). Braced (x ++ (125 ∷ rest)) z rest) (append-nil x) over in
    let at : EnclosedAt (InBracket most_nested) (InIndex most_nested) (123 ∷ (x ++ (125 ∷ rest))) (done (word_of x) rest) = in_braces (Some (x, rest)) refl shut in
    let same : followed false (done (word_of x) rest) ≡ done (word_of x) rest = rw e refl in
    let word : AWord (123 ∷ (x ++ (125 ∷ rest))) (done (word_of x) rest) = subst (λ (o : Outcome Word). AWord (123 ∷ (x ++ (125 ∷ rest))) o) same (enclosed at) in
    record { begins = (refl, refl); reads = subst (λ (z : List ℕ). AWord (123 ∷ z) (done (word_of x) rest)) (sym (append_assoc x (125 ∷ []) rest)) word }

-- ---- each way

plain_written : (x rest : List ℕ) → is_plain x ≡ true → ends_word false rest ≡ true → Written x x rest
plain_written [] rest h e = absurd (cc)
plain_written (b ∷ x) rest h e =
    let none : none_special (b ∷ x) ≡ true = right_of (not (b == 35)) (none_special (b ∷ x)) h in
    let special : is_special b ≡ false = not_true (is_special b) (left_of (not (is_special b)) (none_special x) none) in
    record { begins = plain_begins b (x ++ rest) special; reads = in_nothing (bare_byte b (x ++ rest) special) (plain_back (b ∷ x) rest none e) }

sign_is : (b : ℕ) → (b == 35) ≡ true → b ≡ 35
sign_is b h = grind (arith, nat_tests)

sign_written : (b : ℕ) (x rest : List ℕ) (p : Bool) → (b == 35) ≡ p → ends_word false rest ≡ true → Written (b ∷ x) (escaped (b ∷ x)) rest
sign_written b x rest true p e =
    let first : Parts (92 ∷ 35 ∷ (with_backslashes x ++ rest)) (done (word_of (35 ∷ x)) rest) =
    more_bytes 35 (92 ∷ 35 ∷ (with_backslashes x ++ rest)) x (with_backslashes x ++ rest) rest (slash_next 35 35 (with_backslashes x ++ rest) refl (sign_back (with_backslashes x ++ rest))) (slashed_back x rest e)
    in
    rw (p, sign_is b p) (record { begins = (refl, refl); reads = in_nothing refl first })
sign_written b x rest false p e =
    rw p (record { begins = slashed_begins b x rest (is_special b) refl; reads = in_nothing (slashed_bare b x rest (is_special b) refl) (slashed_back (b ∷ x) rest e) })

written_by : (x rest : List ℕ) (p q : Bool) → is_plain x ≡ p → balances false 0 x ≡ q → ends_word false rest ≡ true → Written x (written x) rest
unfolding balances
written_by x rest true q ep eq e = rw ep (plain_written x rest ep e)
written_by x rest false true ep eq e = rw (ep, eq) (in_braces_back x rest eq e)
written_by [] rest false false ep eq e = absurd (cc)
written_by (b ∷ x) rest false false ep eq e = rw (ep, eq) (sign_written b x rest (b == 35) refl e)

word_back : (x rest : List ℕ) → ends_word false rest ≡ true → Written x (written x) rest
word_back x rest e = written_by x rest (is_plain x) (balances false 0 x) refl refl e

-- ---- commands

abbrev Words : List ℕ → Outcome Command → Type 0
Words = WordsAt (InBracket most_nested) (InIndex most_nested) false

begins_no_end : (t : List ℕ) → Begins t → at_end false t ≡ false
begins_no_end [] h = absurd h
begins_no_end (b ∷ t) h = let c : ends_command b ≡ false = grind (arith, nat_tests, h.0) in rw c refl

begins_no_blank : (t : List ℕ) → Begins t → skip_blanks false (32 ∷ t) ≡ t
unfolding skip_blanks
begins_no_blank [] h = absurd h
begins_no_blank (b ∷ t) h = let c : is_blank b ≡ false = grind (arith, nat_tests, h.0) in rw (c, h.1) refl

end_is_no_blank : (more : List ℕ) → skip_blanks false (10 ∷ more) ≡ 10 ∷ more
unfolding skip_blanks
end_is_no_blank more = refl

-- a list of words, up to the end of its line
words_back : (x : List ℕ) (v : List (List ℕ)) (more : List ℕ) → Begins (quoting (x ∷ v) ++ (10 ∷ more)) × Words (quoting (x ∷ v) ++ (10 ∷ more)) (done (map (λ (y : List ℕ). word_of y) (x ∷ v)) (10 ∷ more))
unfolding quoting
words_back x [] more =
    let w = word_back x (10 ∷ more) refl in
    let later : Words (skip_blanks false (10 ∷ more)) (done [] (10 ∷ more)) = rw (end_is_no_blank more) (no_word refl) in
    (w.begins, one_word (begins_no_end (written x ++ (10 ∷ more)) w.begins) w.reads later)
words_back x (y ∷ v) more =
    let rest : List ℕ = quoting (y ∷ v) ++ (10 ∷ more) in
    let behind = words_back y v more in
    let w = word_back x (32 ∷ rest) refl in
    let later : Words (skip_blanks false (32 ∷ rest)) (done (map (λ (z : List ℕ). word_of z) (y ∷ v)) (10 ∷ more)) = rw (begins_no_blank rest behind.0) behind.1 in
    let all : Begins (written x ++ (32 ∷ rest)) × Words (written x ++ (32 ∷ rest)) (done (map (λ (z : List ℕ). word_of z) (x ∷ y ∷ v)) (10 ∷ more)) =
    (w.begins, one_word (begins_no_end (written x ++ (32 ∷ rest)) w.begins) w.reads later)
    in
    rw (append_assoc (written x) (32 ∷ quoting (y ∷ v)) (10 ∷ more)) all

-- ---- scripts

abbrev Commands : List ℕ → Outcome Script → Type 0
Commands = ScriptAt (InBracket most_nested) (InIndex most_nested) false

abbrev NoComment : List ℕ → Type 0
NoComment [] = Unit {0}
NoComment (b ∷ t) = (b == 35) ≡ false

nothing_passed : (t : List ℕ) → Begins t → NoComment t → skip between t ≡ t
unfolding skip
nothing_passed [] h k = absurd h
nothing_passed (b ∷ t) h k = rw (h.0, h.1, k) refl

line_passed : (more : List ℕ) → skip between (10 ∷ more) ≡ skip between more
unfolding skip
line_passed more = refl

plain_first : (x more : List ℕ) → is_plain x ≡ true → NoComment (written x ++ more)
plain_first [] more h = absurd (cc)
plain_first (b ∷ x) more h = rw h (not_true (b == 35) (left_of (not (b == 35)) (none_special (b ∷ x)) h))

quoted_first : (x : List ℕ) (v : List (List ℕ)) (more : List ℕ) → is_plain x ≡ true → NoComment (quoting (x ∷ v) ++ more)
unfolding quoting
quoted_first x [] more h = plain_first x more h
quoted_first x (y ∷ v) more h =
    let all : NoComment (written x ++ ((32 ∷ quoting (y ∷ v)) ++ more)) = plain_first x ((32 ∷ quoting (y ∷ v)) ++ more) h in
    rw (append_assoc (written x) (32 ∷ quoting (y ∷ v)) more) all

-- a definition's command begins with a plain word
abbrev HasFirst : Def → Type 0
HasFirst def = (x : List ℕ) × (v : List (List ℕ)) × (command_words def ≡ x ∷ v) × (is_plain x ≡ true)

has_first : (def : Def) → HasFirst def
has_first (Proc name params body) = (codes "proc", name ∷ params ∷ body ∷ [], refl, refl)
has_first (Rename old new) = (codes "rename", old ∷ new ∷ [], refl, refl)
has_first (Route method url true words) = (codes "ns_register_proc", method ∷ url ∷ words, refl, refl)
has_first (Route method url false words) = (codes "ns_register_proc", codes "-noinherit" ∷ method ∷ url ∷ words, refl, refl)
has_first (Filter when method pattern words) = (codes "ns_register_filter", when_name when ∷ method ∷ pattern ∷ words, refl, refl)
has_first (Cleanup script) = (codes "ns_ictl", codes "oncleanup" ∷ script ∷ [], refl, refl)
has_first (Set name value) = (codes "set", name ∷ value ∷ [], refl, refl)

-- the command of a definition
abbrev command_of : Def → Command
command_of def = map (λ (x : List ℕ). word_of x) (command_words def)

line_back : (x : List ℕ) (v : List (List ℕ)) (more : List ℕ) (o : Outcome Script) → is_plain x ≡ true → Commands (skip between more) o
    → Commands (skip between (quoting (x ∷ v) ++ (10 ∷ more))) (put (map (λ (y : List ℕ). word_of y) (x ∷ v)) o)
line_back x v more o h later =
    let t : List ℕ = quoting (x ∷ v) ++ (10 ∷ more) in
    let w = words_back x v more in
    let behind : Commands (skip between (10 ∷ more)) o = rw (line_passed more) later in
    let all : Commands t (put (map (λ (y : List ℕ). word_of y) (x ∷ v)) o) = one_command (begins_no_end t w.0) w.1 behind in
    rw (nothing_passed t w.0 (quoted_first x v (10 ∷ more) h)) all

script_back : (defs : List Def) → Reads (script_of defs) (done (map (λ (def : Def). command_of def) defs) [])
unfolding skip
script_back [] = no_command refl
script_back (def ∷ defs) =
    let first = has_first def in
    let line : Commands (skip between (quoting (first.0 ∷ first.1) ++ (10 ∷ script_of defs))) (done (map (λ (y : List ℕ). word_of y) (first.0 ∷ first.1) ∷ map (λ (d : Def). command_of d) defs) []) =
    line_back first.0 first.1 (script_of defs) (done (map (λ (d : Def). command_of d) defs) []) first.3 (script_back defs)
    in
    let same : Commands (skip between (quoting (command_words def) ++ (10 ∷ script_of defs))) (done (command_of def ∷ map (λ (d : Def). command_of d) defs) []) =
    subst (λ (ws : List (List ℕ)). Commands (skip between (quoting ws ++ (10 ∷ script_of defs))) (done (map (λ (y : List ℕ). word_of y) ws ∷ map (λ (d : Def). command_of d) defs) [])) (sym first.2) line
    in
    subst (λ (t : List ℕ). Commands (skip between t) (done (command_of def ∷ map (λ (d : Def). command_of d) defs) [])) (sym (append_assoc (quoting (command_words def)) (10 ∷ []) (script_of defs))) same

def_back : (def : Def) → IsMade def → command_def (command_of def) ≡ Some def
def_back def made = ap def_of_literals (literals_back (command_words def)) ∙ made

defs_back : (number : ℕ) (defs : List Def) → AllByRecursion IsMade defs → commands_from number (map (λ (def : Def). command_of def) defs) ≡ definitions defs
defs_back number [] h = refl
defs_back number (def ∷ defs) h = rw (def_back def h.0, defs_back (number + 1) defs h.1) refl

pub read_back : ScriptsAreRead
read_back defs h = ap by_reading (reading_is (script_of defs) (done (map (λ (def : Def). command_of def) defs) []) (script_back defs)) ∙ defs_back 0 defs h
