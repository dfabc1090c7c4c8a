-- Parts of a pattern written one after another, with the words that they take.
use Rattle.std.proofs.Common.{◌≡◌, ◌∙◌, ap, sym, refl, subst, ℕ, ◌+◌, ◌<◌, ◌≤◌, List, [], ◌∷◌, ◌++◌, length, drop, Bool, true, false, Option, None, Some, Result, Ok, Err, arith, length-drop}
use Rattle.std.proofs.lemmas.List.Sums.{sum_by-cons}
use Rattle.std.proofs.lemmas.Bool.{lt-ltb}
use Rattle.std.proofs.lemmas.Bool.Decides.{nat_tests}
use Rattle.std.specs.Prelude.{count_by, cond, option_map, nat_lt, codes}
use Rattle.txt_core.specs.ErrorTexts.{wrong_words, bad_value}
use Rattle.natives.specs.Answers.{Reply, unless, Answers}
use Rattle.natives.specs.Words.{arg}
use Rattle.natives.specs.Parts.{Part, taken_by, in_front, parts, parts_behind}
use Rattle.natives.specs.Formatting.{takes_word, put_front, format_with}
use Rattle.natives.specs.declared.fault.Fault.{Fault}
use Rattle.tcl_string.specs.Early.{Comes}
use Rattle.tcl_string.specs.Filling.{PutsNext, part_error, part_text}
use Rattle.tcl_string.specs.Keeping.{Keeps}
use Rattle.tcl_string.specs.Patterns.{Fits, first_part, words_taken, written_of}
use Rattle.tcl_string.specs.declared.output.Output.{Output}
use Rattle.tcl_string.proofs.Filled.{front_none, written_next, written_end, written_fails, written_on}
use Rattle.tcl_string.proofs.PatternParts.{follow, parts_first}

-- the parts of a pattern, by the first of them
parts_by : (b : ℕ) (t : List ℕ) (p : Part) (rest : List ℕ) → Some (p, rest) ≡ first_part b t → parts (b ∷ t) ≡ in_front p (parts rest)
parts_by b t p rest e = parts_first b t ∙ ap follow (sym e)

no_parts : (b : ℕ) (t : List ℕ) → None ≡ first_part b t → parts (b ∷ t) ≡ None
no_parts b t e = parts_first b t ∙ ap follow (sym e)

-- how many words they take
takes_one : (takes : Bool) → cond takes 1 0 ≡ taken_by takes
takes_one true = refl
takes_one false = refl

counted_first : (p : Part) (ps : List Part) → count_by takes_word (p ∷ ps) ≡ taken_by (takes_word p) + count_by takes_word ps
counted_first p ps = sum_by-cons (λ (q : Part). cond (takes_word q) 1 0) p ps ∙ ap (λ (n : ℕ). n + count_by takes_word ps) (takes_one (takes_word p))

-- these, behind as many that were taken before
abbrev pub behind_count : ℕ → Option (List Part) → Option ℕ
behind_count taken found = option_map (λ (n : ℕ). taken + n) (words_taken found)

none_more : (n : ℕ) → 0 + n ≡ n
none_more n = omega arith

pub none_counted : (found : Option (List Part)) → behind_count 0 found ≡ words_taken found
none_counted None = refl
none_counted (Some ps) = ap (λ (n : ℕ). Some n) (none_more (count_by takes_word ps))

sum_of_three : (a b c n : ℕ) → n ≡ b + c → a + n ≡ (a + b) + c
sum_of_three a b c n e = omega (arith, e)

counted_more : (taken : ℕ) (p : Part) (found : Option (List Part)) → behind_count taken (in_front p found) ≡ behind_count (taken + taken_by (takes_word p)) found
counted_more taken p None = refl
counted_more taken p (Some ps) =
    ap (λ (n : ℕ). Some n) (sum_of_three taken (taken_by (takes_word p)) (count_by takes_word ps) (count_by takes_word (p ∷ ps)) (counted_first p ps))

pub counted_next : (taken b : ℕ) (t : List ℕ) (p : Part) (rest : List ℕ) (all : Option ℕ) → Some (p, rest) ≡ first_part b t → behind_count taken (parts (b ∷ t)) ≡ all
    → behind_count (taken + taken_by (takes_word p)) (parts rest) ≡ all
counted_next taken b t p rest all e came = sym (ap (behind_count taken) (parts_by b t p rest e) ∙ counted_more taken p (parts rest)) ∙ came

pub counted_none : (taken b : ℕ) (t : List ℕ) (all : Option ℕ) → None ≡ first_part b t → behind_count taken (parts (b ∷ t)) ≡ all → None ≡ all
counted_none taken b t all e came = sym (ap (behind_count taken) (no_parts b t e)) ∙ came

pub counted_end : (taken : ℕ) (rest : List ℕ) (all : Option ℕ) → length rest ≡ 0 → behind_count taken (parts rest) ≡ all → Some taken ≡ all
unfolding parts_behind
counted_end taken [] all none came =
    let same : taken ≡ taken + 0 = omega arith in
    ap (λ (n : ℕ). Some n) same ∙ came
counted_end taken (b ∷ t) all none came = absurd (omega arith)

-- the words that are left are enough for the parts that are left
enough_first : (takes : Bool) (count n : ℕ) (words : List (List ℕ)) → n ≡ taken_by takes + count → n ≤ length words → takes ≡ true → 0 < length words
enough_first true count n words e le is = omega (arith, e)
enough_first false count n words e le is = absurd (cc)

enough_behind : (takes : Bool) (count n : ℕ) (words : List (List ℕ)) → n ≡ taken_by takes + count → n ≤ length words → count ≤ length (drop (taken_by takes) words)
enough_behind true count n words e le = omega (arith, length-drop 1 words, e)
enough_behind false count n words e le = omega (arith, e)

fits_first : (p : Part) (found : Option (List Part)) (words : List (List ℕ)) → Fits (in_front p found) words → takes_word p ≡ true → 0 < length words
fits_first p None words fits is = absurd fits
fits_first p (Some ps) words fits is = enough_first (takes_word p) (count_by takes_word ps) (count_by takes_word (p ∷ ps)) words (counted_first p ps) fits is

fits_behind : (p : Part) (found : Option (List Part)) (words : List (List ℕ)) → Fits (in_front p found) words → Fits found (drop (taken_by (takes_word p)) words)
fits_behind p None words fits = absurd fits
fits_behind p (Some ps) words fits = enough_behind (takes_word p) (count_by takes_word ps) (count_by takes_word (p ∷ ps)) words (counted_first p ps) fits

fits_front : (b : ℕ) (t : List ℕ) (p : Part) (rest : List ℕ) (words : List (List ℕ)) → Some (p, rest) ≡ first_part b t → Fits (parts (b ∷ t)) words → Fits (in_front p (parts rest)) words
fits_front b t p rest words e fits = subst (λ (found : Option (List Part)). Fits found words) (parts_by b t p rest e) fits

pub enough_here : (b : ℕ) (t : List ℕ) (p : Part) (rest : List ℕ) (words : List (List ℕ)) → Some (p, rest) ≡ first_part b t → Fits (parts (b ∷ t)) words → takes_word p ≡ true → 0 < length words
enough_here b t p rest words e fits = fits_first p (parts rest) words (fits_front b t p rest words e fits)

pub enough_next : (b : ℕ) (t : List ℕ) (p : Part) (rest : List ℕ) (words : List (List ℕ)) → Some (p, rest) ≡ first_part b t → Fits (parts (b ∷ t)) words → Fits (parts rest) (drop (taken_by (takes_word p)) words)
enough_next b t p rest words e fits = fits_behind p (parts rest) words (fits_front b t p rest words e fits)

-- where they fit, each `%` begins a form
pub never_none : (b : ℕ) (t : List ℕ) (words : List (List ℕ)) → None ≡ first_part b t → Fits (parts (b ∷ t)) words → ⊥
never_none b t words e fits = subst (λ (found : Option (List Part)). Fits found words) (no_parts b t e) fits

-- a text of which this is kept, in front of what comes, is all
abbrev pub Leads : Output → Reply → Reply → Type 0
Leads out more all = (text : List ℕ) × (Keeps out text × (put_front text more ≡ all))

pub leads_first : (out : Output) (all : Reply) → Keeps out [] → Leads out all all
leads_first out all keeps = ([], (keeps, front_none all))

one_step : (p : Part) (found : Option (List Part)) (words : List (List ℕ)) → Fits (in_front p found) words
    → written_of (in_front p found) words ≡ unless (part_error p (arg words 0)) (put_front (part_text p (arg words 0)) (written_of found (drop (taken_by (takes_word p)) words)))
one_step p None words fits = absurd fits
one_step p (Some ps) words fits = written_next p ps words

step_from : (b : ℕ) (t : List ℕ) (p : Part) (rest : List ℕ) (words : List (List ℕ)) (text : List ℕ) (all : Reply) → Some (p, rest) ≡ first_part b t → Fits (parts (b ∷ t)) words → put_front text (written_of (parts (b ∷ t)) words) ≡ all
    → put_front text (unless (part_error p (arg words 0)) (put_front (part_text p (arg words 0)) (written_of (parts rest) (drop (taken_by (takes_word p)) words)))) ≡ all
step_from b t p rest words text all e fits came =
    sym (ap (put_front text) (ap (λ (found : Option (List Part)). written_of found words) (parts_by b t p rest e) ∙ one_step p (parts rest) words (fits_front b t p rest words e fits))) ∙ came

-- the first word that a part can't take is the error of all
pub leads_fails : (b : ℕ) (t : List ℕ) (p : Part) (rest : List ℕ) (words : List (List ℕ)) (out : Output) (all : Reply) (fault : Fault) → Some (p, rest) ≡ first_part b t → Fits (parts (b ∷ t)) words → Leads out (written_of (parts (b ∷ t)) words) all
    → ((text : List ℕ) → Keeps out text → PutsNext (part_error p (arg words 0)) text (part_text p (arg words 0)) (Err fault)) → Answers all (Err fault)
leads_fails b t p rest words out all fault e fits leads puts =
    written_fails (λ (next : Output). Keeps next (leads.0 ++ part_text p (arg words 0))) leads.0 (part_error p (arg words 0)) (put_front (part_text p (arg words 0)) (written_of (parts rest) (drop (taken_by (takes_word p)) words))) all fault
    (step_from b t p rest words leads.0 all e fits leads.1.1) (puts leads.0 leads.1.0)

-- where it takes it, the text goes on
pub leads_on : (b : ℕ) (t : List ℕ) (p : Part) (rest : List ℕ) (words : List (List ℕ)) (out next : Output) (all : Reply) → Some (p, rest) ≡ first_part b t → Fits (parts (b ∷ t)) words → Leads out (written_of (parts (b ∷ t)) words) all
    → ((text : List ℕ) → Keeps out text → PutsNext (part_error p (arg words 0)) text (part_text p (arg words 0)) (Ok next)) → Leads next (written_of (parts rest) (drop (taken_by (takes_word p)) words)) all
leads_on b t p rest words out next all e fits leads puts =
    let put = puts leads.0 leads.1.0 in (
      leads.0 ++ part_text p (arg words 0),
      (
        put.1,
        written_on leads.0 (part_text p (arg words 0)) (leads.0 ++ part_text p (arg words 0)) (part_error p (arg words 0)) (written_of (parts rest) (drop (taken_by (takes_word p)) words)) all
            (step_from b t p rest words leads.0 all e fits leads.1.1) put.0 refl,
      ),
    )

-- behind the last part nothing is written
pub leads_last : (rest : List ℕ) (words : List (List ℕ)) (out : Output) (all : Reply) (result : Result (List ℕ) Fault) → length rest ≡ 0 → Leads out (written_of (parts rest) words) all → ((text : List ℕ) → Keeps out text → Comes (Ok text) result) → Comes all result
unfolding parts_behind
leads_last [] words out all result none leads comes = subst (λ (r : Reply). Comes r result) (written_end leads.0 words all leads.1.1) (comes leads.0 leads.1.0)
leads_last (b ∷ t) words out all result none leads comes = absurd (omega arith)

-- what a pattern comes to, by how many words its parts take
pub no_pattern : (pattern : List ℕ) (found : Option (List Part)) (words : List (List ℕ)) → None ≡ words_taken found → format_with pattern found words ≡ Err (bad_value pattern (codes "format"))
no_pattern pattern None words e = refl
no_pattern pattern (Some ps) words e = absurd (cc)

same_number : (n m : ℕ) → Some n ≡ Some m → n ≡ m
same_number n m e = cc

pub too_few : (pattern : List ℕ) (found : Option (List Part)) (words : List (List ℕ)) (taken : ℕ) → Some taken ≡ words_taken found → length words < taken → format_with pattern found words ≡ Err (wrong_words (codes "format"))
too_few pattern None words taken e few = absurd (cc)
too_few pattern (Some ps) words taken e few =
    let same : taken ≡ count_by takes_word ps = same_number taken (count_by takes_word ps) e in
    let test : nat_lt (length words) (count_by takes_word ps) ≡ true = lt-ltb (length words) (count_by takes_word ps) (rw same at few) in
    rw test refl

pub enough : (found : Option (List Part)) (words : List (List ℕ)) (taken : ℕ) → Some taken ≡ words_taken found → taken ≤ length words → Fits found words
enough None words taken e le = absurd (cc)
enough (Some ps) words taken e le = rw (same_number taken (count_by takes_word ps) e) at le

not_few : (count : ℕ) (words : List (List ℕ)) → count ≤ length words → nat_lt (length words) count ≡ false
not_few count words le = grind (arith, nat_tests)

pub fits_with : (pattern : List ℕ) (found : Option (List Part)) (words : List (List ℕ)) → Fits found words → written_of found words ≡ format_with pattern found words
fits_with pattern None words fits = absurd fits
fits_with pattern (Some ps) words fits = rw (not_few (count_by takes_word ps) words fits) refl
