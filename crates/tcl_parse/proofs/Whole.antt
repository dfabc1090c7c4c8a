-- A text that is read to a script is read whole.
use Rattle.std.proofs.Common.{◌≡◌, ℕ, ◌+◌, ◌-◌, ◌≤◌, List, [], ◌∷◌, length, Bool, true, false, refl, subst, arith, ◌⊎◌, inl, inr}
use Rattle.std.specs.Prelude.{◌||◌, ◌==◌}
use Rattle.tcl_parse.specs.declared.fault.Kind.{Kind}
use Rattle.tcl_parse.specs.Bytes.{is_blank, ends_command, joins_lines}
use Rattle.tcl_parse.specs.Gaps.{skip, between, joining, comment, escaped, Before, at_end}
use Rattle.tcl_parse.specs.Tree.{Word, Command, Script}
use Rattle.tcl_parse.specs.Outcome.{Outcome, done, fault, put}
use Rattle.tcl_parse.specs.Grammar.{ScriptAt, no_command, bad_command, one_command, InBracket, InIndex, Reads}
use Rattle.tcl_parse.specs.Laws.Within.{reads_within}
use Rattle.tcl_parse.specs.Laws.One.{one_reading}
use Rattle.tcl_parse.specs.Reading.{reading, reads_reading, Spells, HasFault}

ends_neither : (p q : Bool) → (p || q) ≡ false → (q || false) ≡ true → ⊥
ends_neither true q e f = absurd (cc)
ends_neither false true e f = absurd (cc)
ends_neither false false e f = absurd (cc)

ends_step : (b : ℕ) (t : List ℕ) (p j q : Bool) → (is_blank b || ends_command b) ≡ p → joins_lines b t ≡ j → (b == 35) ≡ q
    → (at_end false (skip between t) ≡ true → skip between t ≡ []) → (at_end false (skip joining t) ≡ true → skip joining t ≡ []) → (at_end false (skip comment t) ≡ true → skip comment t ≡ [])
    → at_end false (skip between (b ∷ t)) ≡ true → skip between (b ∷ t) ≡ []
unfolding skip
ends_step b t true j q ep ej eq h k l = rw ep h
ends_step b t false true q ep ej eq h k l = rw (ep, ej) k
ends_step b t false false true ep ej eq h k l = rw (ep, ej, eq) l
ends_step b t false false false ep ej eq h k l = rw (ep, ej, eq) (λ e. absurd (ends_neither (is_blank b) (ends_command b) ep e))

ends_comment : (b : ℕ) (t : List ℕ) (p q : Bool) → (b == 10) ≡ p → (b == 92) ≡ q
    → (at_end false (skip between t) ≡ true → skip between t ≡ []) → (at_end false (skip escaped t) ≡ true → skip escaped t ≡ []) → (at_end false (skip comment t) ≡ true → skip comment t ≡ [])
    → at_end false (skip comment (b ∷ t)) ≡ true → skip comment (b ∷ t) ≡ []
unfolding skip
ends_comment b t true q ep eq h k l = rw ep h
ends_comment b t false true ep eq h k l = rw (ep, eq) k
ends_comment b t false false ep eq h k l = rw (ep, eq) l

-- behind what is passed over, only the end of the text ends a command
skip_ends : (m : Before) (t : List ℕ) → at_end false (skip m t) ≡ true → skip m t ≡ []
unfolding skip
skip_ends between [] = λ e. refl
skip_ends joining [] = λ e. refl
skip_ends comment [] = λ e. refl
skip_ends escaped [] = λ e. refl
skip_ends between (b ∷ t) = ends_step b t (is_blank b || ends_command b) (joins_lines b t) (b == 35) refl refl refl (skip_ends between t) (skip_ends joining t) (skip_ends comment t)
skip_ends joining (b ∷ t) = skip_ends between t
skip_ends comment (b ∷ t) = ends_comment b t (b == 10) (b == 92) refl refl (skip_ends between t) (skip_ends escaped t) (skip_ends comment t)
skip_ends escaped (b ∷ t) = skip_ends comment t

abbrev Whole : Outcome Script → Type 0
Whole (done s r) = r ≡ []
Whole (fault k n) = Unit {0}

whole_put : (c : Command) (o : Outcome Script) → Whole o → Whole (put c o)
whole_put c (done s r) h = h
whole_put c (fault k n) h = h

script_whole : (S : List ℕ → Outcome Script → Type 0) (I : List ℕ → Outcome Word → Type 0) {t : List ℕ} {o : Outcome Script} → (at_end false t ≡ true → t ≡ []) → ScriptAt S I false t o → Whole o
script_whole S I h (no_command e) = h e
script_whole S I h (bad_command e p) = tt
script_whole S I h (one_command {r = r} {c = c} {o = o} e p q) = whole_put c o (script_whole S I (skip_ends between r) q)

reads_whole : (t : List ℕ) (s : Script) (r : List ℕ) → Reads t (done s r) → r ≡ []
reads_whole t s r h = script_whole (InBracket 200) (InIndex 200) (skip_ends between t) h

answer_of : (t : List ℕ) (o : Outcome Script) → Reads t o → ((s : Script) × Spells s t) ⊎ ((place : ℕ) × (k : Kind) × HasFault t place k)
answer_of t (done s r) h = inl (s, subst (λ u. Reads t (done s u)) (reads_whole t s r h) h)
answer_of t (fault k n) h =
    let le : n ≤ length t = reads_within t (fault k n) h in
    let fits : length t - n + n ≡ length t = omega arith in
    inr (length t - n, k, (n, fits, h))

pub some_answer : (t : List ℕ) → ((s : Script) × Spells s t) ⊎ ((place : ℕ) × (k : Kind) × HasFault t place k)
some_answer t = answer_of t (reading t) (reads_reading t)

pub same_script : (t : List ℕ) (s r : Script) → Spells s t → Spells r t → s ≡ r
same_script t s r h k = let e : done s [] ≡ done r [] = one_reading t (done s []) (done r []) h k in cc

pub same_fault : (t : List ℕ) (p q : ℕ) (j k : Kind) → HasFault t p j → HasFault t q k → (p ≡ q) × (j ≡ k)
same_fault t p q j k h i =
    let e : ◌≡◌ {A = Outcome Script} (fault j h.0) (fault k i.0) = one_reading t (fault j h.0) (fault k i.0) h.2 i.2 in
    let same : h.0 ≡ i.0 = cc in
    let kinds : j ≡ k = cc in
    let one : p + h.0 ≡ length t = h.1 in
    let two : q + i.0 ≡ length t = i.1 in
    (omega arith, kinds)

pub script_or_fault : (t : List ℕ) (s : Script) (p : ℕ) (k : Kind) → Spells s t → HasFault t p k → ⊥
script_or_fault t s p k h i = let e : done s [] ≡ fault k i.0 = one_reading t (done s []) (fault k i.0) h i.2 in cc
