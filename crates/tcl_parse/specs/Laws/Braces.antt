-- What stands behind an opening brace can be read byte by byte, with a count of the braces that are open.
use Rattle.std.proofs.Common.{◌≡◌, ◌≢◌, ℕ, zero, suc, ◌+◌, ◌-◌, ◌<◌, ◌≤◌, [], ◌∷◌, ◌++◌, length, Bool, true, false, Option, Some, None, refl, sym, ap, subst, ◌∙◌, append_assoc, add-one, arith}
use Rattle.std.proofs.lemmas.Bool.Decides.{nat_tests}
use Rattle.std.specs.Prelude.{◌||◌, ◌==◌, if◌then◌else◌}
use Rattle.txt_core.specs.Names.{Bytes}
use Rattle.txt_core.specs.Escape.{skip_margin}
use Rattle.txt_core.specs.EscapeWithin.{margin_within}
use Rattle.txt_core.specs.Counting.{in_front, front_append}
use Rattle.tcl_parse.specs.Bytes.{space, tab, backslash, left_brace, right_brace, joins_lines}
use Rattle.tcl_parse.specs.Braces.{Braced, BracedAt, matching_brace, joined_lines, taken_byte, inner_braces, plain_byte}

-- Where reading stands.
pub data Inside : Type 0 where
  -- anywhere else
  plain : Inside
  -- behind a backslash
  escaped : Inside
  -- behind the backslash of a backslash-newline
  joining : Inside
  -- behind a backslash-newline, and spaces and tabs
  margin : Inside

abbrev pub passes : Inside → ℕ → Bool
passes plain b = false
passes escaped b = false
passes joining b = true
passes margin b = (b == space) || (b == tab)

abbrev pub is_escaped : Inside → Bool
is_escaped plain = false
is_escaped escaped = true
is_escaped joining = false
is_escaped margin = false

-- what stands before the brace that closes, with open_now braces between, and what is left behind it
unfoldable pub braced : Inside → ℕ → Bytes → Option (Bytes × Bytes)
braced m open_now [] = None
braced m open_now (b ∷ t) =
    if passes m b then braced margin open_now t
    else if is_escaped m then in_front (b ∷ []) (braced plain open_now t)
    else if joins_lines b t then in_front (space ∷ []) (braced joining open_now t)
    else if b == backslash then in_front (b ∷ []) (braced escaped open_now t)
    else if b == left_brace then in_front (b ∷ []) (braced plain (open_now + 1) t)
    else if b == right_brace then (if open_now == 0 then Some ([], t) else in_front (b ∷ []) (braced plain (open_now - 1) t))
    else in_front (b ∷ []) (braced plain open_now t)

margin_step : (n b : ℕ) (t : Bytes) → braced margin n t ≡ braced plain n (skip_margin t) → (v : Bool) → ((b == 32) || (b == 9)) ≡ v → braced margin n (b ∷ t) ≡ braced plain n (skip_margin (b ∷ t))
unfolding braced skip_margin
margin_step n b t h true e = rw e h
margin_step n b t h false e = rw e refl

-- behind a backslash-newline the spaces and tabs are left out
pub braced-margin : (n : ℕ) (t : Bytes) → braced margin n t ≡ braced plain n (skip_margin t)
unfolding braced skip_margin
braced-margin n [] = refl
braced-margin n (b ∷ t) = margin_step n b t (braced-margin n t) _ refl

-- a backslash-newline
pub braced_line : (n b c : ℕ) (s t r : Bytes) → s ≡ b ∷ t → t ≡ c ∷ r → b ≡ 92 → c ≡ 10 → braced plain n s ≡ in_front (32 ∷ []) (braced plain n (skip_margin r))
unfolding braced
braced_line n b c s t r es et eb ec = rw (es, et, eb, ec) (ap (in_front (32 ∷ [])) (braced-margin n r))

-- a backslash and another byte
pub braced_pair : (n b c : ℕ) (s t r : Bytes) → s ≡ b ∷ t → t ≡ c ∷ r → b ≡ 92 → c ≢ 10 → braced plain n s ≡ in_front (92 ∷ []) (in_front (c ∷ []) (braced plain n r))
unfolding braced
braced_pair n b c s t r es et eb ec = rw (es, et, eb) (grind (arith, nat_tests))

-- a backslash at the end
pub braced_last : (n b : ℕ) (s t : Bytes) → s ≡ b ∷ t → t ≡ [] → b ≡ 92 → braced plain n s ≡ None
unfolding braced
braced_last n b s t es et eb = rw (es, et, eb) refl

pub braced_open : (n b : ℕ) (s t : Bytes) → s ≡ b ∷ t → b ≡ 123 → braced plain n s ≡ in_front (b ∷ []) (braced plain (n + 1) t)
unfolding braced
braced_open n b s t es eb = rw (es, eb) refl

pub braced_match : (b : ℕ) (s t : Bytes) → s ≡ b ∷ t → b ≡ 125 → braced plain 0 s ≡ Some ([], t)
unfolding braced
braced_match b s t es eb = rw (es, eb) refl

pub braced_shut : (n b : ℕ) (s t : Bytes) → s ≡ b ∷ t → b ≡ 125 → n ≢ 0 → braced plain n s ≡ in_front (b ∷ []) (braced plain (n - 1) t)
unfolding braced
braced_shut n b s t es eb en = rw (es, eb) (grind (arith, nat_tests))

pub braced_byte : (n b : ℕ) (s t : Bytes) → s ≡ b ∷ t → b ≢ 92 → b ≢ 123 → b ≢ 125 → braced plain n s ≡ in_front (b ∷ []) (braced plain n t)
unfolding braced
braced_byte n b s t es e1 e2 e3 = rw es (grind (arith, nat_tests))

pub ruleset braced_steps = (front_append, braced_line, braced_pair, braced_open, braced_shut, braced_byte)

-- closing one level more leaves the levels below
shut_suc : (n : ℕ) (t : Bytes) → braced plain (suc n) (right_brace ∷ t) ≡ in_front (right_brace ∷ []) (braced plain n t)
shut_suc n t =
    let less : suc n - 1 ≡ n = omega arith in
    let some : suc n ≢ 0 = omega arith in
    rw (braced_shut (suc n) right_brace (right_brace ∷ t) t refl refl some, less) refl

around : (w v : Bytes) → left_brace ∷ ((w ++ right_brace ∷ []) ++ (v ++ right_brace ∷ [])) ≡ left_brace ∷ ((w ++ right_brace ∷ v) ++ right_brace ∷ [])
around w v = ap (λ x. left_brace ∷ x) (append_assoc w (right_brace ∷ []) (v ++ right_brace ∷ []) ∙ sym (append_assoc w (right_brace ∷ v) (right_brace ∷ [])))

-- with one brace more between, reading goes on behind the matching brace
deeper : (n : ℕ) {t v r : Bytes} → Braced t v r → braced plain (suc n) t ≡ in_front (v ++ right_brace ∷ []) (braced plain n r)
deeper n (matching_brace r) = shut_suc n r
deeper n (joined_lines {t = t} {v = v} {r = r} h) =
    rw (braced_line (suc n) 92 10 (92 ∷ 10 ∷ t) (10 ∷ t) t refl refl refl refl, deeper n h) (sym (front_append (32 ∷ []) (v ++ right_brace ∷ []) (braced plain n r)))
deeper n (taken_byte {c = c} {t = t} {v = v} {r = r} other h) =
    rw (braced_pair (suc n) 92 c (92 ∷ c ∷ t) (c ∷ t) t refl refl refl other, deeper n h, ← front_append (c ∷ []) (v ++ right_brace ∷ []) (braced plain n r)) (sym (front_append (92 ∷ []) ((c ∷ []) ++ (v ++ right_brace ∷ [])) (braced plain n r)))
deeper n (inner_braces {t = t} {w = w} {u = u} {v = v} {r = r} h k) =
    let first : braced plain (suc n) (left_brace ∷ t) ≡ in_front (left_brace ∷ []) (braced plain (suc (suc n)) t) = rw (← add-one (suc n)) (braced_open (suc n) left_brace (left_brace ∷ t) t refl refl) in
    first ∙ ap (in_front (left_brace ∷ [])) (deeper (suc n) h ∙ ap (in_front (w ++ right_brace ∷ [])) (deeper n k))
    ∙ ap (in_front (left_brace ∷ [])) (sym (front_append (w ++ right_brace ∷ []) (v ++ right_brace ∷ []) (braced plain n r)))
    ∙ sym (front_append (left_brace ∷ []) ((w ++ right_brace ∷ []) ++ (v ++ right_brace ∷ [])) (braced plain n r))
    ∙ ap (λ x. in_front x (braced plain n r)) (around w v)
deeper n (plain_byte {b = b} {t = t} {v = v} {r = r} e1 e2 e3 h) =
    rw (braced_byte (suc n) b (b ∷ t) t refl e1 e2 e3, deeper n h) (sym (front_append (b ∷ []) (v ++ right_brace ∷ []) (braced plain n r)))

-- what the rules give is read
matched : {t v r : Bytes} → Braced t v r → braced plain 0 t ≡ Some (v, r)
matched (matching_brace r) = braced_match 125 (125 ∷ r) r refl refl
matched (joined_lines {t = t} {v = v} {r = r} h) = rw (braced_line 0 92 10 (92 ∷ 10 ∷ t) (10 ∷ t) t refl refl refl refl, matched h) refl
matched (taken_byte {c = c} {t = t} {v = v} {r = r} other h) = rw (braced_pair 0 92 c (92 ∷ c ∷ t) (c ∷ t) t refl refl refl other, matched h) refl
matched (inner_braces {t = t} {w = w} {u = u} {v = v} {r = r} h k) =
    braced_open 0 left_brace (left_brace ∷ t) t refl refl ∙ ap (in_front (left_brace ∷ [])) (deeper 0 h ∙ ap (in_front (w ++ right_brace ∷ [])) (matched k))
    ∙ ap (λ (x : Bytes). Some (left_brace ∷ x, r)) (append_assoc w (right_brace ∷ []) v)
matched (plain_byte {b = b} {t = t} {v = v} {r = r} e1 e2 e3 h) = rw (braced_byte 0 b (b ∷ t) t refl e1 e2 e3, matched h) refl

-- n more levels are closed one after the other
abbrev Levels : ℕ → Bytes → Bytes → Bytes → Type 0
Levels zero t v r = Braced t v r
Levels (suc n) t v r = (w : Bytes) × (u : Bytes) × (x : Bytes) × Braced t w u × Levels n u x r × (v ≡ w ++ right_brace ∷ x)

lift : (bs t s : Bytes) → ((w u : Bytes) → Braced t w u → Braced s (bs ++ w) u) → (n : ℕ) (v r : Bytes) → Levels n t v r → Levels n s (bs ++ v) r
lift bs t s f zero v r h = f v r h
lift bs t s f (suc n) v r (w, u, x, h, k, e) = (bs ++ w, u, x, f w u h, k, ap (λ y. bs ++ y) e ∙ sym (append_assoc bs w (right_brace ∷ x)))

levels_open : (n : ℕ) (t v r : Bytes) → Levels (suc n) t v r → Levels n (left_brace ∷ t) (left_brace ∷ v) r
levels_open n t v r (w, u, x, h, k, e) =
    let bs : Bytes = left_brace ∷ (w ++ right_brace ∷ []) in
    let one : (y s : Bytes) → Braced u y s → Braced (left_brace ∷ t) (bs ++ y) s = λ y s g. subst (λ z. Braced (left_brace ∷ t) (left_brace ∷ z) s) (sym (append_assoc w (right_brace ∷ []) y)) (inner_braces h g) in
    let joined : left_brace ∷ ((w ++ right_brace ∷ []) ++ x) ≡ left_brace ∷ v = ap (λ z. left_brace ∷ z) (append_assoc w (right_brace ∷ []) x ∙ sym e) in
    subst (λ z. Levels n (left_brace ∷ t) z r) joined (lift bs u (left_brace ∷ t) one n x r k)

none_some : (x : Bytes × Bytes) → ◌≡◌ {A = Option (Bytes × Bytes)} None (Some x) → ⊥
none_some x e = cc

some_pair : (x y : Bytes × Bytes) → ◌≡◌ {A = Option (Bytes × Bytes)} (Some x) (Some y) → x ≡ y
some_pair x y e = cc

-- what is read behind bytes in front
record Front (bs : Bytes) (o : Option (Bytes × Bytes)) (v r : Bytes) : Type 0 where
  behind : Bytes
  gives : o ≡ Some (behind, r)
  whole : v ≡ bs ++ behind

front : (bs : Bytes) (o : Option (Bytes × Bytes)) (v r : Bytes) → in_front bs o ≡ Some (v, r) → Front bs o v r
front bs None v r e = absurd (cc)
front bs (Some x) v r e =
    let pair : ◌≡◌ {A = Bytes × Bytes} (bs ++ x.0, x.1) (v, r) = cc in
    let first : bs ++ x.0 ≡ v = ap (λ (y : Bytes × Bytes). y.0) pair in
    let second : x.1 ≡ r = ap (λ (y : Bytes × Bytes). y.1) pair in
    record { behind = x.0; gives = ap (λ (y : Bytes). Some (x.0, y)) second; whole = sym first }

is : (a b : ℕ) → (a == b) ≡ true → a ≡ b
is a b e = grind (arith, nat_tests)

isnt : (a b : ℕ) → (a == b) ≡ false → a ≢ b
isnt a b e = grind (arith, nat_tests)

-- what is read of shorter texts closes its levels
abbrev Goes : ℕ → Type 0
Goes k = (m : ℕ) (u x y : Bytes) → length u < k → braced plain m u ≡ Some (x, y) → Levels m u x y

along : (n : ℕ) (t v w r : Bytes) → v ≡ w → Levels n t w r → Levels n t v r
along n t v w r e h = subst (λ x. Levels n t x r) (sym e) h

pair_levels : (k n c : ℕ) (u v r : Bytes) (j : Bool) → (c == 10) ≡ j → length u < k → Goes k → braced plain n (92 ∷ c ∷ u) ≡ Some (v, r) → Levels n (92 ∷ c ∷ u) v r
pair_levels k n c u v r true ec lt go e =
    let line : braced plain n (92 ∷ c ∷ u) ≡ in_front (32 ∷ []) (braced plain n (skip_margin u)) = braced_line n 92 c (92 ∷ c ∷ u) (c ∷ u) u refl refl refl (is c 10 ec) in
    let f = front (32 ∷ []) (braced plain n (skip_margin u)) v r (sym line ∙ e) in
    let fits : length (skip_margin u) ≤ length u = margin_within u in
    let inside = go n (skip_margin u) f.behind r (omega arith) f.gives in
    let one : (w y : Bytes) → Braced (skip_margin u) w y → Braced (92 ∷ c ∷ u) ((32 ∷ []) ++ w) y = λ w y g. subst (λ d. Braced (92 ∷ d ∷ u) (32 ∷ w) y) (sym (is c 10 ec)) (joined_lines g) in
    along n (92 ∷ c ∷ u) v ((32 ∷ []) ++ f.behind) r f.whole (lift (32 ∷ []) (skip_margin u) (92 ∷ c ∷ u) one n f.behind r inside)
pair_levels k n c u v r false ec lt go e =
    let pair : braced plain n (92 ∷ c ∷ u) ≡ in_front (92 ∷ []) (in_front (c ∷ []) (braced plain n u)) = braced_pair n 92 c (92 ∷ c ∷ u) (c ∷ u) u refl refl refl (isnt c 10 ec) in
    let f = front (92 ∷ c ∷ []) (braced plain n u) v r (front_append (92 ∷ []) (c ∷ []) (braced plain n u) ∙ sym pair ∙ e) in
    let inside = go n u f.behind r lt f.gives in
    let one : (w y : Bytes) → Braced u w y → Braced (92 ∷ c ∷ u) ((92 ∷ c ∷ []) ++ w) y = λ w y g. taken_byte (isnt c 10 ec) g in
    along n (92 ∷ c ∷ u) v ((92 ∷ c ∷ []) ++ f.behind) r f.whole (lift (92 ∷ c ∷ []) u (92 ∷ c ∷ u) one n f.behind r inside)

slash_levels : (k n : ℕ) (t v r : Bytes) → length t ≤ k → Goes k → braced plain n (92 ∷ t) ≡ Some (v, r) → Levels n (92 ∷ t) v r
slash_levels k n [] v r le go e = let none : braced plain n (92 ∷ []) ≡ None = braced_last n 92 (92 ∷ []) [] refl refl refl in absurd (none_some (v, r) (sym none ∙ e))
slash_levels k n (c ∷ u) v r le go e = pair_levels k n c u v r (c == 10) refl (omega arith) go e

shut_levels : (k n : ℕ) (t v r : Bytes) → length t < k → Goes k → braced plain n (125 ∷ t) ≡ Some (v, r) → Levels n (125 ∷ t) v r
shut_levels k zero t v r lt go e =
    let now : ◌≡◌ {A = Option (Bytes × Bytes)} (Some ([], t)) (Some (v, r)) = sym (braced_match 125 (125 ∷ t) t refl refl) ∙ e in
    let pair : ◌≡◌ {A = Bytes × Bytes} ([], t) (v, r) = some_pair ([], t) (v, r) now in
    let first : [] ≡ v = ap (λ (y : Bytes × Bytes). y.0) pair in
    let second : t ≡ r = ap (λ (y : Bytes × Bytes). y.1) pair in
    subst (λ x. Braced (125 ∷ t) x r) first (subst (λ x. Braced (125 ∷ t) [] x) second (matching_brace t))
shut_levels k (suc n) t v r lt go e =
    let f = front (125 ∷ []) (braced plain n t) v r (sym (shut_suc n t) ∙ e) in
    ([], t, f.behind, matching_brace t, go n t f.behind r lt f.gives, f.whole)

byte_levels : (k n b : ℕ) (t v r : Bytes) (p q s : Bool) → (b == 92) ≡ p → (b == 123) ≡ q → (b == 125) ≡ s → length t < k → Goes k → braced plain n (b ∷ t) ≡ Some (v, r) → Levels n (b ∷ t) v r
byte_levels k n b t v r true q s ep eq es lt go e =
    subst (λ c. Levels n (c ∷ t) v r) (sym (is b 92 ep)) (slash_levels k n t v r (omega arith) go (subst (λ c. braced plain n (c ∷ t) ≡ Some (v, r)) (is b 92 ep) e))
byte_levels k n b t v r false true s ep eq es lt go e =
    let more : braced plain n (b ∷ t) ≡ in_front (b ∷ []) (braced plain (suc n) t) = rw (← add-one n) (braced_open n b (b ∷ t) t refl (is b 123 eq)) in
    let f = front (b ∷ []) (braced plain (suc n) t) v r (sym more ∙ e) in
    let inside = levels_open n t f.behind r (go (suc n) t f.behind r lt f.gives) in
    along n (b ∷ t) v (b ∷ f.behind) r f.whole (subst (λ c. Levels n (c ∷ t) (c ∷ f.behind) r) (sym (is b 123 eq)) inside)
byte_levels k n b t v r false false true ep eq es lt go e =
    subst (λ c. Levels n (c ∷ t) v r) (sym (is b 125 es)) (shut_levels k n t v r lt go (subst (λ c. braced plain n (c ∷ t) ≡ Some (v, r)) (is b 125 es) e))
byte_levels k n b t v r false false false ep eq es lt go e =
    let byte : braced plain n (b ∷ t) ≡ in_front (b ∷ []) (braced plain n t) = braced_byte n b (b ∷ t) t refl (isnt b 92 ep) (isnt b 123 eq) (isnt b 125 es) in
    let f = front (b ∷ []) (braced plain n t) v r (sym byte ∙ e) in
    let one : (w y : Bytes) → Braced t w y → Braced (b ∷ t) ((b ∷ []) ++ w) y = λ w y g. plain_byte (isnt b 92 ep) (isnt b 123 eq) (isnt b 125 es) g in
    along n (b ∷ t) v ((b ∷ []) ++ f.behind) r f.whole (lift (b ∷ []) t (b ∷ t) one n f.behind r (go n t f.behind r lt f.gives))

none_empty : (n : ℕ) → braced plain n [] ≡ None
unfolding braced
none_empty n = refl

text_levels : (k n : ℕ) (t v r : Bytes) → length t < suc k → Goes k → braced plain n t ≡ Some (v, r) → Levels n t v r
text_levels k n [] v r lt go e = absurd (none_some (v, r) (sym (none_empty n) ∙ e))
text_levels k n (b ∷ t) v r lt go e = byte_levels k n b t v r (b == 92) (b == 123) (b == 125) refl refl refl (omega arith) go e

levels : (k : ℕ) → Goes k
levels zero = λ m u x y lt e. absurd (omega arith)
levels (suc k) = λ m u x y lt e. text_levels k m u x y lt (levels k) e

-- what is read is what the rules give
pub reads_matched : (t v r : Bytes) → braced plain 0 t ≡ Some (v, r) → Braced t v r
reads_matched t v r e = levels (suc (length t)) 0 t v r (omega arith) e

at_of : (t : Bytes) (x : Option (Bytes × Bytes)) → braced plain 0 t ≡ x → BracedAt t x
at_of t None e = λ v r h. none_some (v, r) (sym e ∙ matched h)
at_of t (Some x) e = reads_matched t x.0 x.1 e

pub braced_at : (t : Bytes) → BracedAt t (braced plain 0 t)
braced_at t = at_of t (braced plain 0 t) refl

none_of : (t : Bytes) (x : Option (Bytes × Bytes)) → braced plain 0 t ≡ x → BracedAt t None → x ≡ None
none_of t None e h = refl
none_of t (Some x) e h = absurd (h x.0 x.1 (reads_matched t x.0 x.1 e))

-- the rules give nothing else
pub braced_is : (t : Bytes) (x : Option (Bytes × Bytes)) → BracedAt t x → braced plain 0 t ≡ x
braced_is t (Some x) h = matched h
braced_is t None h = none_of t (braced plain 0 t) refl h
