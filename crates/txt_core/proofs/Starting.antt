-- Where a pattern behind a `*` may begin to match.
use Rattle.std.proofs.Common.{◌≡◌, ℕ, ◌+◌, ◌-◌, zero, suc, ◌⊎◌, inl, inr, ◌<◌, ◌≤◌, List, [], ◌∷◌, length, take, drop, Bool, true, false, None, Some, Option, refl, sym, ap, ◌∙◌, subst, arith, ⊎_elim, length-take, length-append}
use Rattle.std.specs.Prelude.{◌==◌, ◌||◌, ◌↔◌, IsTrue, if◌then◌else◌, not, cond}
use Rattle.std.specs.List.{position_or_len}
use Rattle.std.proofs.lemmas.Bool.{eq-eqb, eqb-true, true≢false}
use Rattle.std.proofs.lemmas.List.{drop-append-le, drop_at, length-take-le, nil_from_length}
use Rattle.std.proofs.lemmas.List.Sums.{prefix_len-le-length}
use Rattle.memchr.specs.Find.{FindsNeedle, OccursAt}
use Rattle.memchr.proofs.lemmas.MatchLemmas.{OccursAt-from_part}
use Rattle.txt_core.specs.Pattern.{Matches, at_end, star, one_byte, takes, class_takes, escaped_takes}
use Rattle.txt_core.specs.PatternLaws.{AfterStar, AfterByte, behind_part, of_star, of_byte, no_pattern, takes_same}
use Rattle.txt_core.specs.PatternRuns.{RunIs, SearchIs, is_special}
use Rattle.txt_core.specs.declared.run.Run.{Run}
use Rattle.txt_core.specs.declared.run.Run.TheVariants.{Failed, Star, Ended}
use Rattle.txt_core.proofs.Matching.{star_here, star_nothing, star_later, star_absorbs, star_moves, star_back, end_decides, next_try}

-- An end of a text that a pattern behind a `*` matches exactly where it matches the text.
pub record EndOf (pattern text rest : List ℕ) : Type 0 where
  pub onward : Matches (42 ∷ pattern) text → Matches (42 ∷ pattern) rest
  pub back : Matches (42 ∷ pattern) rest → Matches (42 ∷ pattern) text

pub end_of : (p t : List ℕ) (k : ℕ) → (Matches (42 ∷ p) t → Matches (42 ∷ p) (drop k t)) → EndOf p t (drop k t)
end_of p t k onward = record { onward = onward; back = star_later p t k }

pub end_of_end : (p t u v : List ℕ) → EndOf p t u → EndOf p u v → EndOf p t v
end_of_end p t u v a b = record { onward = λ m. b.onward (a.onward m); back = λ m. a.back (b.back m) }

-- the text behind a byte at which the pattern doesn't match
pub end_of_tail : (p t tail : List ℕ) (b : ℕ) → t ≡ b ∷ tail → (Matches p t → ⊥) → EndOf p t tail
end_of_tail p t tail b split fails = record {
  onward = λ m. next_try p tail b (λ h. fails (subst (λ (u : List ℕ). Matches p u) (sym split) h)) (subst (λ (u : List ℕ). Matches (42 ∷ p) u) split m);
  back = λ m. subst (λ (u : List ℕ). Matches (42 ∷ p) u) (sym split) (star_absorbs p (b ∷ []) tail m);
}

-- a run at an end of a text where the pattern matches if it matches behind a `*` at all
pub search_is : (p t place : List ℕ) (o : Run) → EndOf p t place → (o ≡ Failed → Matches (42 ∷ p) t → ⊥) → RunIs p place o → SearchIs p t o
search_is p t place Failed e none r = none refl
search_is p t place (Star behind rest) e none r = record {
  onward = λ m. star_moves p place behind.now rest.now r (e.onward m);
  back = λ m. e.back (star_back p place behind.now rest.now r m);
  shorter = r.shorter;
}
search_is p t place (Ended answer) e none r =
    let decides : IsTrue answer ↔ Matches (42 ∷ p) place = end_decides p place answer r in
    (λ h. e.back (decides.0 h), λ m. decides.1 (e.onward m))

-- what a pattern behind a `*` leaves begins no earlier than here
pub from_here : (p t : List ℕ) (k : ℕ) → ((a : AfterStar p t) → k ≤ length a.some) → Matches (42 ∷ p) t → Matches (42 ∷ p) (drop k t)
from_here p t k late m =
    let a : AfterStar p t = of_star (42 ∷ p) t p m refl in
    star p (drop k a.some) a.rest refl (ap (drop k) a.split ∙ drop-append-le k a.some a.rest (late a)) a.matched

-- where none of these tests passes, a part is what its last test says
last_test : (v1 v2 v3 v4 : Bool) (some class escaped other : Option (List ℕ)) → (v1 || v2 || v3 || v4) ≡ false → (if◌then◌else◌ {A = Option (List ℕ)} v1 None (if v2 then some else if v3 then class else if v4 then escaped else other)) ≡ other
last_test true v2 v3 v4 some class escaped other e = absurd (true≢false e)
last_test false true v3 v4 some class escaped other e = absurd (true≢false e)
last_test false false true v4 some class escaped other e = absurd (true≢false e)
last_test false false false true some class escaped other e = absurd (true≢false e)
last_test false false false false some class escaped other e = refl

plain_takes : (x : ℕ) (p : List ℕ) (b : ℕ) → is_special x ≡ false → takes (x ∷ p) b ≡ (if◌then◌else◌ {A = Option (List ℕ)} (x == b) (Some p) None)
unfolding takes
plain_takes x p b e = last_test (x == 42) (x == 63) (x == 91) (x == 92) (Some p) (class_takes p b) (escaped_takes p b) (if x == b then Some p else None) e

if_same : (v : Bool) (p : List ℕ) → v ≡ true → (if◌then◌else◌ {A = Option (List ℕ)} v (Some p) None) ≡ Some p
if_same true p e = refl
if_same false p e = absurd (true≢false (sym e))

if_some_true : (v : Bool) (p r : List ℕ) → (if◌then◌else◌ {A = Option (List ℕ)} v (Some p) None) ≡ Some r → v ≡ true
if_some_true true p r e = refl
if_some_true false p r e = absurd (cc)

-- a text that a pattern matches begins with the pattern's plain bytes
pub plain_begins : (p t : List ℕ) → Matches p t → take (position_or_len is_special p) t ≡ take (position_or_len is_special p) p
plain_begins [] t m = refl
plain_begins (x ∷ p) t m = step (is_special x) refl (λ u h. plain_begins p u h)
  where
    step : (v : Bool) → is_special x ≡ v → ((u : List ℕ) → Matches p u → take (position_or_len is_special p) u ≡ take (position_or_len is_special p) p) → take (cond (not v) (1 + position_or_len is_special p) 0) t ≡ take (cond (not v) (1 + position_or_len is_special p) 0) (x ∷ p)
    step true e begins = refl
    step false e begins =
        let itself : takes (x ∷ p) x ≡ Some p = plain_takes x p x e ∙ if_same (x == x) p (eq-eqb x x refl) in
        let a : AfterByte (x ∷ p) p t = of_byte (x ∷ p) t p x m itself in
        let same : x ≡ a.byte = eqb-true x a.byte (if_some_true (x == a.byte) p p (sym (plain_takes x p a.byte e) ∙ a.taken)) in
        let n : ℕ = position_or_len is_special p in
        let one : 1 + n ≡ suc n = omega arith in
        let first : take (suc n) t ≡ x ∷ take n a.rest = ap (take (suc n)) a.split ∙ ap (λ (y : ℕ). y ∷ take n a.rest) (sym same) in
        ap (λ (k : ℕ). take k t) one ∙ first ∙ ap (λ (u : List ℕ). x ∷ u) (begins a.rest a.matched) ∙ sym (ap (λ (k : ℕ). take k (x ∷ p)) one)

-- so its plain bytes stand where it begins
occurs_there : (p t : List ℕ) (a : AfterStar p t) → OccursAt t (take (position_or_len is_special p) p) (length a.some)
occurs_there p t a =
    let n : ℕ = position_or_len is_special p in
    let bound : n ≤ length p = prefix_len-le-length (λ x. not (is_special x)) p in
    let same : take n a.rest ≡ take n p = plain_begins p a.rest a.matched in
    let long : length (take n p) ≡ n = length-take-le n p bound in
    let fits : length a.some + length (take n p) ≤ length t = omega (arith, ap length a.split, length-append a.some a.rest, ap length same, length-take n a.rest) in
    let dropped : drop (length a.some) t ≡ a.rest = ap (drop (length a.some)) a.split ∙ drop_at a.some a.rest (length a.some) refl in
    OccursAt-from_part t (take n p) (length a.some) fits (ap (λ k. take k (drop (length a.some) t)) long ∙ (ap (take n) dropped ∙ same))

-- where the plain bytes at the front of the pattern stand nowhere
pub place_none : (p t plain : List ℕ) → plain ≡ take (position_or_len is_special p) p → FindsNeedle t plain 0 None → Matches (42 ∷ p) t → ⊥
place_none p t plain e nowhere m =
    let a : AfterStar p t = of_star (42 ∷ p) t p m refl in
    nowhere (length a.some) (omega arith) (omega (arith, ap length a.split, length-append a.some a.rest)) (rw e (occurs_there p t a))

-- the first place where they stand
pub place_some : (p t plain : List ℕ) (k : ℕ) → plain ≡ take (position_or_len is_special p) p → FindsNeedle t plain 0 (Some k) → EndOf p t (drop k t)
place_some p t plain k e found =
    end_of p t k (from_here p t k (λ a. ⊎_elim (λ le. le) (λ lt. absurd (found.0.before (length a.some) (omega arith) lt (rw e (occurs_there p t a)))) (le_or_gt k (length a.some))))
  where
    le_or_gt : (n m : ℕ) → (n ≤ m) ⊎ (m < n)
    le_or_gt zero m = inl (omega arith)
    le_or_gt (suc n) zero = inr (omega arith)
    le_or_gt (suc n) (suc m) = ⊎_elim (λ h. inl (omega (arith, h))) (λ h. inr (omega (arith, h))) (le_or_gt n m)

-- what a part of a pattern leaves of a text, when its parts before took so many bytes
pub record LeftOf (part text : List ℕ) (count : ℕ) : Type 0 where
  pub rest : List ℕ
  pub matched : Matches part rest
  pub counted : length text ≡ count + length rest

pub left_next : (part t behind : List ℕ) (x n : ℕ) → part ≡ x ∷ behind → (x ≡ 42 → ⊥) → LeftOf part t n → LeftOf (behind_part (x ∷ behind)) t (n + 1)
left_next part t behind x n e no_star left = by_match left.rest left.counted left.matched
  where
    by_match : (rest : List ℕ) → length t ≡ n + length rest → Matches part rest → LeftOf (behind_part (x ∷ behind)) t (n + 1)
    by_match rest counted (at_end f g) = absurd (cc)
    by_match rest counted (star r some tail f g m) = absurd (no_star (cc))
    by_match rest counted (one_byte r tail b f g m) = record {
      rest = tail;
      matched = subst (λ (q : List ℕ). Matches q tail) (takes_same (x ∷ behind) r b (subst (λ (q : List ℕ). takes q b ≡ Some r) e g)) m;
      counted = omega (arith, counted, ap length f);
    }

pub left_last : (p t : List ℕ) (n : ℕ) → p ≡ [] → LeftOf p t n → length t ≡ n
left_last p t n e left = omega (arith, left.counted, ap length (no_pattern p left.rest e left.matched))

-- a part that is no `*` takes a byte more
pub more_left : (part t behind : List ℕ) (x n : ℕ) → part ≡ x ∷ behind → (x ≡ 42 → ⊥) → LeftOf part t n → n < length t
more_left part t behind x n e no_star left =
    let next : LeftOf (behind_part (x ∷ behind)) t (n + 1) = left_next part t behind x n e no_star left in
    omega (arith, next.counted)

-- a text that is shorter than each that the pattern matches
pub too_short : (p t : List ℕ) → ((u : List ℕ) → Matches p u → length t < length u) → Matches (42 ∷ p) t → ⊥
too_short p t more m =
    let a : AfterStar p t = of_star (42 ∷ p) t p m refl in
    omega (arith, more a.rest a.matched, ap length a.split, length-append a.some a.rest)

-- the one end of a text that is as long as each that the pattern matches
pub last_here : (p t : List ℕ) (n : ℕ) → ((u : List ℕ) → Matches p u → length u ≡ n) → n ≤ length t → Matches (42 ∷ p) t → Matches p (drop (length t - n) t)
last_here p t n count long m =
    let a : AfterStar p t = of_star (42 ∷ p) t p m refl in
    let at : length a.some ≡ length t - n = omega (arith, long, count a.rest a.matched, ap length a.split, length-append a.some a.rest) in
    let there : drop (length t - n) t ≡ a.rest = ap (drop (length t - n)) a.split ∙ drop_at a.some a.rest (length t - n) at in
    subst (λ (u : List ℕ). Matches p u) (sym there) a.matched

pub last_is : (p t : List ℕ) (n : ℕ) (o : Run) → ((u : List ℕ) → Matches p u → length u ≡ n) → n ≤ length t → RunIs p (drop (length t - n) t) o → SearchIs p t o
last_is p t n o count long r =
    let k : ℕ = length t - n in
    search_is p t (drop k t) o (end_of p t k (λ m. star_here p (drop k t) (last_here p t n count long m)))
    (λ e m. subst (λ (q : Run). RunIs p (drop k t) q) e r (last_here p t n count long m)) r

-- a pattern that matches the empty end of a text behind a `*` matches the empty text
pub nothing_there : (p place : List ℕ) → length place ≡ 0 → (Matches p place → ⊥) → Matches (42 ∷ p) place → ⊥
nothing_there p place none fails m =
    let e : place ≡ [] = nil_from_length place none in
    fails (subst (λ (u : List ℕ). Matches p u) (sym e) (star_nothing p (subst (λ (u : List ℕ). Matches (42 ∷ p) u) e m)))
