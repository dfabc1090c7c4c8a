-- What is passed over before a command is what the cases say.
use Rattle.std.proofs.Common.{◌≡◌, ◌≢◌, ℕ, zero, suc, ◌<◌, ◌≤◌, List, [], ◌∷◌, length, Bool, true, false, refl, sym, subst, ◌∙◌, arith}
use Rattle.std.proofs.lemmas.Bool.Decides.{nat_tests}
use Rattle.std.specs.Prelude.{◌||◌, ◌==◌}
use Rattle.tcl_parse.specs.Bytes.{is_blank, ends_command, joins_lines}
use Rattle.tcl_parse.specs.Gaps.{skip, between, comment, Commented, text_ends, comment_ends, taken_last, taken, commented, Passed, nothing, begins, passed, joined, behind_comment}

is : (a b : ℕ) → (a == b) ≡ true → a ≡ b
is a b e = grind (arith, nat_tests)

isnt : (a b : ℕ) → (a == b) ≡ false → a ≢ b
isnt a b e = grind (arith, nat_tests)

other : (a b : ℕ) → a ≢ b → (a == b) ≡ false
other a b e = grind (arith, nat_tests)

-- a comment, then what is behind it
comment_is : {t u : List ℕ} → Commented t u → skip comment t ≡ skip between u
unfolding skip
comment_is text_ends = refl
comment_is (comment_ends r) = refl
comment_is taken_last = refl
comment_is (taken h) = comment_is h
comment_is (commented {b = b} e1 e2 h) = rw (other b 10 e1, other b 92 e2) (comment_is h)

pub passed_is : {t r : List ℕ} → Passed t r → skip between t ≡ r
unfolding skip
passed_is nothing = refl
passed_is (begins {b = b} e1 e2 e3) = rw (e1, e2, other b 35 e3) refl
passed_is (passed e h) = rw e (passed_is h)
passed_is (joined h) = passed_is h
passed_is (behind_comment {t = t} h k) = comment_is h ∙ passed_is k

-- where a comment ends
record Ends (t : List ℕ) : Type 0 where
  left : List ℕ
  here : Commented t left
  short : length left ≤ length t

comment_step : (b : ℕ) (t : List ℕ) (p q : Bool) → (b == 10) ≡ p → (b == 92) ≡ q → Ends t → ((c : ℕ) (u : List ℕ) → t ≡ c ∷ u → Ends u) → Ends (b ∷ t)
comment_step b t true q ep eq go pair = subst (λ c. Ends (c ∷ t)) (sym (is b 10 ep)) (record { left = t; here = comment_ends t; short = omega arith })
comment_step b [] false true ep eq go pair = subst (λ c. Ends (c ∷ [])) (sym (is b 92 eq)) (record { left = []; here = taken_last; short = omega arith })
comment_step b (c ∷ u) false true ep eq go pair = let e = pair c u refl in subst (λ d. Ends (d ∷ c ∷ u)) (sym (is b 92 eq)) (record { left = e.left; here = taken e.here; short = let le : length e.left ≤ length u = e.short in omega arith })
comment_step b t false false ep eq go pair = record { left = go.left; here = commented (isnt b 10 ep) (isnt b 92 eq) go.here; short = let le : length go.left ≤ length t = go.short in omega arith }

comment_below : (k : ℕ) (t : List ℕ) → length t < k → Ends t
comment_below zero t lt = absurd (omega arith)
comment_below (suc k) [] lt = record { left = []; here = text_ends; short = omega arith }
comment_below (suc k) (b ∷ t) lt = comment_step b t (b == 10) (b == 92) refl refl (comment_below k t (omega arith)) (λ c u e. comment_below k u (let f : length t ≡ suc (length u) = subst (λ x. length x ≡ suc (length u)) (sym e) refl in omega arith))

abbrev Goes : ℕ → Type 0
Goes k = (t : List ℕ) → length t < k → Passed t (skip between t)

line_step : (k b : ℕ) (t : List ℕ) → joins_lines b t ≡ true → (is_blank b || ends_command b) ≡ false → length t < k → Goes k → Passed (b ∷ t) (skip between (b ∷ t))
line_step k b [] e f lt go = absurd (grind (arith, nat_tests))
line_step k b (c ∷ u) e f lt go =
    let one : b ≡ 92 = grind (arith, nat_tests) in
    let two : c ≡ 10 = grind (arith, nat_tests) in
    let h : Passed (92 ∷ 10 ∷ u) (skip between u) = joined (go u (omega arith)) in
    let same : skip between (92 ∷ 10 ∷ u) ≡ skip between u = passed_is h in
    rw (one, two, same) h

step : (k b : ℕ) (t : List ℕ) (p j q : Bool) → (is_blank b || ends_command b) ≡ p → joins_lines b t ≡ j → (b == 35) ≡ q → length t < k → Goes k → Passed (b ∷ t) (skip between (b ∷ t))
step k b t true j q ep ej eq lt go = let h : Passed (b ∷ t) (skip between t) = passed ep (go t lt) in subst (Passed (b ∷ t)) (sym (passed_is h)) h
step k b t false true q ep ej eq lt go = line_step k b t ej ep lt go
step k b t false false true ep ej eq lt go =
    let c = comment_below (suc (length t)) t (omega arith) in
    let le : length c.left ≤ length t = c.short in
    let h : Passed (35 ∷ t) (skip between c.left) = behind_comment c.here (go c.left (omega arith)) in
    let g : Passed (b ∷ t) (skip between c.left) = rw (is b 35 eq) h in
    subst (Passed (b ∷ t)) (sym (passed_is g)) g
step k b t false false false ep ej eq lt go = let h : Passed (b ∷ t) (b ∷ t) = begins ep ej (isnt b 35 eq) in subst (Passed (b ∷ t)) (sym (passed_is h)) h

text_step : (k : ℕ) (t : List ℕ) → length t < suc k → Goes k → Passed t (skip between t)
text_step k [] lt go = let h : Passed [] [] = nothing in subst (Passed []) (sym (passed_is h)) h
text_step k (b ∷ t) lt go = step k b t (is_blank b || ends_command b) (joins_lines b t) (b == 35) refl refl refl (omega arith) go

below : (k : ℕ) → Goes k
below zero = λ t lt. absurd (omega arith)
below (suc k) = λ t lt. text_step k t lt (below k)

pub passed_skip : (t : List ℕ) → Passed t (skip between t)
passed_skip t = below (suc (length t)) t (omega arith)
