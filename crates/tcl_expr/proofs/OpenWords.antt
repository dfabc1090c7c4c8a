-- Words, commands and scripts that are open at the end of a text can be closed.
use Rattle.std.proofs.Common.{◌≡◌, ◌≢◌, ℕ, zero, suc, ◌+◌, ◌-◌, ◌<◌, List, [], ◌∷◌, ◌++◌, length, drop, Bool, true, false, Option, None, Some, refl, ap, sym, ◌∙◌, subst, ◌⊎◌, inl, inr, arith, append-nil}
use Rattle.std.specs.Prelude.{◌==◌, ◌||◌, nat_lt, if◌then◌else◌}
use Rattle.std.specs.List.{list_all}
use Rattle.std.proofs.lemmas.Bool.{eqb-true}
use Rattle.txt_core.specs.Escape.{skip_margin}
use Rattle.tcl_parse.specs.declared.fault.Kind.{Kind}
use Rattle.tcl_parse.specs.declared.fault.Kind.TheVariants.{Extra}
use Rattle.tcl_parse.specs.Bytes.{newline, joins_lines}
use Rattle.tcl_parse.specs.Gaps.{skip, skip_blanks, between, ends_word, at_end}
use Rattle.tcl_parse.specs.Tree.{Part, Word, Command, Script, element, bracket, parts, commands, literal}
use Rattle.tcl_parse.specs.Names.{named_part}
use Rattle.tcl_parse.specs.Outcome.{Outcome, done, fault, put, put_text}
use Rattle.tcl_parse.specs.Steps.{Mode, quotes, index, bare_word, Substitution, named, indexed, opened, unnamed, Step, ends, bytes, substituted, next}
use Rattle.tcl_parse.specs.Grammar.{PartIs, PartsAt, no_part, some_bytes, bad_part, one_part, EnclosedAt, in_braces, in_quotes, WordAt, enclosed, in_nothing, WordsAt, no_word, bad_word, one_word, ScriptAt, no_command, bad_command, one_command, InBracket, InIndex, close_bracket, close_index, close_brace, close_quote, followed, by_brace, by_quote, bare, opening}
use Rattle.tcl_parse.specs.Braces.{Braced, BracedAt, matching_brace, joined_lines, taken_byte, inner_braces, plain_byte}
use Rattle.tcl_parse.specs.Laws.Braces.{Inside, braced, passes, is_escaped, braced_is, reads_matched, braced_shut}
use Rattle.txt_core.specs.Counting.{in_front}
use Rattle.txt_core.specs.Texts.{begins_with}
use Rattle.tcl_parse.specs.Laws.Braces as braces
use Rattle.tcl_parse.specs.Laws.Within.{Within, bracket_within, index_within}
use Rattle.tcl_expr.specs.Grammar.{fault_place}
use Rattle.tcl_expr.proofs.Words as words
use Rattle.tcl_expr.proofs.Open.{Goes, IsLone, joins_before, next_goes, next_nil, next_lone, next_taken, skip_out, blanks_before}

-- ---- bytes

abbrev pub all_bytes : List ℕ → Bool
all_bytes z = list_all (λ b. nat_lt b 256) z

-- bytes, where it goes on with bytes
abbrev pub Adds : (List ℕ → List ℕ) → Type 0
Adds T = (z : List ℕ) → all_bytes z ≡ true → all_bytes (T z) ≡ true

-- ---- braces

abbrev Shuts : Option (List ℕ × List ℕ) → (List ℕ → Option (List ℕ × List ℕ)) → Type 0
Shuts x f = x ≡ None → (T : List ℕ → List ℕ) × Adds T × ((z : List ℕ) → (y : List ℕ) × (f (T z) ≡ Some (y, z)))

record ShutsOpen (x : Option (List ℕ × List ℕ)) (f : List ℕ → Option (List ℕ × List ℕ)) : Type 0 where
  shuts : Shuts x f

shut_if : (t : Bool) (x y : Option (List ℕ × List ℕ)) (f g : List ℕ → Option (List ℕ × List ℕ)) → ShutsOpen x f → ShutsOpen y g → ShutsOpen (if t then x else y) (λ z. if t then f z else g z)
shut_if true x y f g h k = h
shut_if false x y f g h k = k

shut_same : (x : Option (List ℕ × List ℕ)) (f g : List ℕ → Option (List ℕ × List ℕ)) → ((z : List ℕ) → f z ≡ g z) → ShutsOpen x g → ShutsOpen x f
shut_same x f g e h = record { shuts = λ n. let k = h.shuts n in (k.0, k.1, λ z. ((k.2 z).0, e (k.0 z) ∙ (k.2 z).1)) }

shut_joins : (t : Bool) (s : List ℕ → Bool) (x y : Option (List ℕ × List ℕ)) (f g : List ℕ → Option (List ℕ × List ℕ)) → ((z : List ℕ) → s z ≡ t) → ShutsOpen x f → ShutsOpen y g → ShutsOpen (if t then x else y) (λ z. if s z then f z else g z)
shut_joins t s x y f g e h k = shut_same (if t then x else y) (λ z. if s z then f z else g z) (λ z. if t then f z else g z) (λ z. ap (λ q. if q then f z else g z) (e z)) (shut_if t x y f g h k)

front_none : (bs : List ℕ) (x : Option (List ℕ × List ℕ)) → in_front bs x ≡ None → x ≡ None
front_none bs None e = refl
front_none bs (Some x) e = absurd (cc)

shut_front : (bs : List ℕ) (x : Option (List ℕ × List ℕ)) (f : List ℕ → Option (List ℕ × List ℕ)) → ShutsOpen x f → ShutsOpen (in_front bs x) (λ z. in_front bs (f z))
shut_front bs x f h = record { shuts = λ n. let k = h.shuts (front_none bs x n) in (k.0, k.1, λ z. (bs ++ (k.2 z).0, ap (in_front bs) (k.2 z).1)) }

shut_some : (x : List ℕ × List ℕ) (f : List ℕ → Option (List ℕ × List ℕ)) → ShutsOpen (Some x) f
shut_some x f = record { shuts = λ n. absurd (cc) }

-- as many closing braces as are open, and one more
shut : ℕ → List ℕ → List ℕ
shut zero z = 125 ∷ z
shut (suc n) z = 125 ∷ shut n z

shut_adds : (n : ℕ) → Adds (shut n)
unfolding shut
shut_adds zero z b = b
shut_adds (suc n) z b = shut_adds n z b

shut_plain : (n : ℕ) (z : List ℕ) → (y : List ℕ) × (braced braces.plain n (shut n z) ≡ Some (y, z))
unfolding braced shut
shut_plain zero z = ([], refl)
shut_plain (suc n) z =
    let k = shut_plain n z in
    let less : suc n - 1 ≡ n = omega arith in
    let some : suc n ≢ 0 = omega arith in
    (125 ∷ k.0, rw (braced_shut (suc n) 125 (125 ∷ shut n z) (shut n z) refl refl some, less) (ap (in_front (125 ∷ [])) k.1))

shut_margin : (n k : ℕ) (z : List ℕ) → braced braces.margin n (shut k z) ≡ braced braces.plain n (shut k z)
unfolding braced shut
shut_margin n zero z = refl
shut_margin n (suc k) z = refl

shut_end : (m : Inside) (n : ℕ) (z : List ℕ) → (y : List ℕ) × (braced m n (59 ∷ shut n z) ≡ Some (y, z))
unfolding braced
shut_end braces.plain n z = let k = shut_plain n z in (59 ∷ k.0, ap (in_front (59 ∷ [])) k.1)
shut_end braces.escaped n z = let k = shut_plain n z in (59 ∷ k.0, ap (in_front (59 ∷ [])) k.1)
shut_end braces.joining n z = let k = shut_plain n z in (k.0, shut_margin n n z ∙ k.1)
shut_end braces.margin n z = let k = shut_plain n z in (59 ∷ k.0, ap (in_front (59 ∷ [])) k.1)

braces_open : (m : Inside) (n : ℕ) (g : List ℕ) → ShutsOpen (braced m n g) (λ z. braced m n (g ++ 59 ∷ z))
unfolding braced
braces_open m n [] = record { shuts = λ e. (shut n, shut_adds n, λ z. shut_end m n z) }
braces_open m n (b ∷ g) =
    shut_if (passes m b) _ _ _ _ (braces_open braces.margin n g)
    (shut_if (is_escaped m) _ _ _ _ (shut_front (b ∷ []) _ _ (braces_open braces.plain n g))
    (shut_joins (joins_lines b g) (λ z. joins_lines b (g ++ 59 ∷ z)) _ _ _ _ (joins_before b g) (shut_front (32 ∷ []) _ _ (braces_open braces.joining n g))
    (shut_if (b == 92) _ _ _ _ (shut_front (b ∷ []) _ _ (braces_open braces.escaped n g))
    (shut_if (b == 123) _ _ _ _ (shut_front (b ∷ []) _ _ (braces_open braces.plain (n + 1) g))
    (shut_if (b == 125) _ _ _ _ (shut_if (n == 0) _ _ _ _ (shut_some ([], g) _) (shut_front (b ∷ []) _ _ (braces_open braces.plain (n - 1) g)))
    (shut_front (b ∷ []) _ _ (braces_open braces.plain n g)))))))

-- ---- more at the end

pub fine_all : (v : List ℕ) → begins_with newline v ≡ false → (g : List ℕ) → words.Fine [] v g
unfolding words.Fine
fine_all v h [] = tt
fine_all v h (b ∷ []) = λ e. sym h
fine_all v h (b ∷ c ∷ g) = fine_all v h (c ∷ g)

pub kept_of : {A : Type 0} (R : List ℕ → Outcome A → Type 0) (v : List ℕ) → begins_with newline v ≡ false → words.IsLocal [] v R → (t : List ℕ) (x : A) (r : List ℕ) → 0 < length r → R t (done x r) → R (t ++ v) (done x (r ++ v))
kept_of R v h local t x r lt k =
    let z = local t (done x r) k t (sym (append-nil t)) (fine_all v h t) lt in
    let e : z.0 ≡ r = sym (append-nil z.0) ∙ sym z.1 in
    subst (λ y. R (t ++ v) (done x (y ++ v))) e z.3

skip_some : (r z : List ℕ) → 0 < length (skip between r) → skip between (r ++ 59 ∷ z) ≡ skip between r ++ 59 ∷ z
skip_some r z lt =
    let v : List ℕ = 59 ∷ z in
    let e : r ++ [] ≡ r = append-nil r in
    let g = words.skip_same [] v between r (fine_all v refl r) (subst (λ y. 0 < length (skip between y)) (sym e) lt) in
    let f : g.0 ≡ skip between r = sym (append-nil g.0) ∙ sym g.1 ∙ ap (skip between) e in
    g.2 ∙ ap (λ y. y ++ v) f

braced_some : {t w r : List ℕ} → Braced t w r → 0 < length t
braced_some (matching_brace r) = omega arith
braced_some (joined_lines h) = omega arith
braced_some (taken_byte n h) = omega arith
braced_some (inner_braces h k) = omega arith
braced_some (plain_byte h k l d) = omega arith

margin_if : (t : Bool) (x y z w v : List ℕ) → (0 < length x → z ≡ x ++ v) → (0 < length y → w ≡ y ++ v) → 0 < length (if t then x else y) → (if t then z else w) ≡ (if t then x else y) ++ v
margin_if true x y z w v h k lt = h lt
margin_if false x y z w v h k lt = k lt

margin_some : (r v : List ℕ) → 0 < length (skip_margin r) → skip_margin (r ++ v) ≡ skip_margin r ++ v
unfolding skip_margin
margin_some [] v lt = absurd (omega (arith, lt))
margin_some (b ∷ r) v lt = margin_if ((b == 32) || (b == 9)) (skip_margin r) (b ∷ r) (skip_margin (r ++ v)) (b ∷ r ++ v) v (margin_some r v) (λ l. refl) lt

braced_kept : {t w r : List ℕ} → Braced t w r → (v : List ℕ) → Braced (t ++ v) w (r ++ v)
braced_kept (matching_brace r) v = matching_brace (r ++ v)
braced_kept (joined_lines {t = t} {v = w} {r = r} h) v = joined_lines (subst (λ y. Braced y w (r ++ v)) (sym (margin_some t v (braced_some h))) (braced_kept h v))
braced_kept (taken_byte n h) v = taken_byte n (braced_kept h v)
braced_kept (inner_braces h k) v = inner_braces (braced_kept h v) (braced_kept k v)
braced_kept (plain_byte h k l d) v = plain_byte h k l (braced_kept d v)

-- ---- what is open

-- it goes to the end of the text, or has a fault that more bytes can mend
abbrev pub IsOpen : {A : Type 0} → Outcome A → Type 0
IsOpen (done x r) = r ≡ []
IsOpen (fault k n) = fault_place k n ≡ 0

-- with a semicolon and more behind the text it is read up to this byte
abbrev pub Closes : {A : Type 0} → ℕ → (List ℕ → Outcome A → Type 0) → List ℕ → Type 0
Closes {A} c R t = (T : List ℕ → List ℕ) × Adds T × ((z : List ℕ) → (x : A) × R (t ++ 59 ∷ T z) (done x (c ∷ z)))

-- the same, up to whatever stands there
abbrev pub ClosesAll : {A : Type 0} → (List ℕ → Outcome A → Type 0) → List ℕ → Type 0
ClosesAll {A} R t = (T : List ℕ → List ℕ) × Adds T × ((z : List ℕ) → (x : A) × R (t ++ 59 ∷ T z) (done x z))

open_text : (bs : List ℕ) (o : Outcome Word) → IsOpen (put_text bs o) → IsOpen o
open_text bs (done y r) e = e
open_text bs (fault k n) e = e

open_put : {A : Type 0} (x : A) (o : Outcome (List A)) → IsOpen (put x o) → IsOpen o
open_put x (done y r) e = e
open_put x (fault k n) e = e

-- the bad place of a fault
abbrev place_of : {A : Type 0} → Outcome A → ℕ
place_of (done x r) = 0
place_of (fault k n) = fault_place k n

-- more behind what is left
abbrev push : {A : Type 0} → List ℕ → Outcome A → Outcome A
push v (done x r) = done x (r ++ v)
push v (fault k n) = fault k n

-- the byte that closes parts
abbrev closer : Mode → ℕ
closer (bare_word nested) = 59
closer quotes = 34
closer index = 41

abbrev leaf : Mode → List ℕ → List ℕ
leaf (bare_word nested) z = z
leaf quotes z = 34 ∷ z
leaf index z = 41 ∷ z

leaf_adds : (m : Mode) → Adds (leaf m)
leaf_adds (bare_word nested) z b = b
leaf_adds quotes z b = b
leaf_adds index z b = b

lone_by : (t : Bool) (b : ℕ) (g : List ℕ) → (b == 92) ≡ t → IsLone b g ⊎ (IsLone b g → ⊥)
lone_by true b [] e = inl (eqb-true b 92 e, refl)
lone_by true b (c ∷ g) e = inr (λ l. absurd (let q : c ∷ g ≡ [] = l.1 in cc))
lone_by false b g e = inr (λ l. absurd (let q : (92 == 92) ≡ false = subst (λ x. (x == 92) ≡ false) l.0 e in cc))

bytes_step : (m : Mode) (t bs r : List ℕ) → next m t ≡ bytes bs r → (t ≡ 92 ∷ []) ⊎ ((z : List ℕ) → next m (t ++ 59 ∷ z) ≡ bytes bs (r ++ 59 ∷ z))
bytes_step m [] bs r e = absurd (let q : ends ≡ bytes bs r = sym (next_nil m) ∙ e in cc)
bytes_step m (b ∷ g) bs r e = by_lone (lone_by (b == 92) b g refl)
  where
    by_lone : IsLone b g ⊎ (IsLone b g → ⊥) → (b ∷ g ≡ 92 ∷ []) ⊎ ((z : List ℕ) → next m (b ∷ g ++ 59 ∷ z) ≡ bytes bs (r ++ 59 ∷ z))
    by_lone (inl l) = inl (ap (λ x. x ∷ g) l.0 ∙ ap (λ (y : List ℕ). 92 ∷ y) l.1)
    by_lone (inr n) = inr (subst (λ s. Goes s (λ z. next m (b ∷ g ++ 59 ∷ z))) e (next_goes m b g n).goes)

sub_step : (m : Mode) (t : List ℕ) (s : Substitution) → next m t ≡ substituted s → Goes (substituted s) (λ z. next m (t ++ 59 ∷ z))
sub_step m [] s e = absurd (let q : ends ≡ substituted s = sym (next_nil m) ∙ e in cc)
sub_step m (b ∷ g) s e = by_lone (lone_by (b == 92) b g refl)
  where
    by_lone : IsLone b g ⊎ (IsLone b g → ⊥) → Goes (substituted s) (λ z. next m (b ∷ g ++ 59 ∷ z))
    by_lone (inl l) =
        let q : b ∷ g ≡ 92 ∷ [] = ap (λ x. x ∷ g) l.0 ∙ ap (λ (y : List ℕ). 92 ∷ y) l.1 in
        absurd (let w : bytes (92 ∷ []) [] ≡ substituted s = sym (next_lone m) ∙ sym (ap (next m) q) ∙ e in cc)
    by_lone (inr n) = subst (λ s. Goes s (λ z. next m (b ∷ g ++ 59 ∷ z))) e (next_goes m b g n).goes

at_before : (t z : List ℕ) → at_end true t ≡ false → at_end true (t ++ z) ≡ false
at_before [] z e = absurd (cc)
at_before (b ∷ g) z e = e

opening_before : (t z : List ℕ) → opening t ≡ bare → opening (t ++ 59 ∷ z) ≡ bare
opening_before [] z e = refl
opening_before (b ∷ g) z e = e

skip_semicolon : (z : List ℕ) → skip between (59 ∷ 93 ∷ z) ≡ 93 ∷ z
unfolding skip
skip_semicolon z = refl

blanks_semicolon : (z : List ℕ) → skip_blanks false (59 ∷ z) ≡ 59 ∷ z
unfolding skip_blanks
blanks_semicolon z = refl

module _ (S : List ℕ → Outcome Script → Type 0) (I : List ℕ → Outcome Word → Type 0) (in_s : (t : List ℕ) (o : Outcome Script) → S t o → Within o (length t + 1)) (in_i : (t : List ℕ) (o : Outcome Word) → I t o → Within o (length t + 1))
    (S_local : (v : List ℕ) → words.IsLocal [] v S) (I_local : (v : List ℕ) → words.IsLocal [] v I) (S_open : (t : List ℕ) (o : Outcome Script) → S t o → IsOpen o → Closes 93 S t) (I_open : (t : List ℕ) (o : Outcome Word) → I t o → IsOpen o → Closes 41 I t) where
  -- a substitution that is read stays so
  pub index_kept : (v : List ℕ) → begins_with newline v ≡ false → (left other : ℕ) (x r : List ℕ) (p : Part) (s : List ℕ) (i : Outcome Word) → I r i → done p s ≡ close_index left x i
      → (j : Outcome Word) × I (r ++ v) j × (done p (s ++ v) ≡ close_index other x j)
  index_kept v n left other x r p s (done w []) h e = absurd (cc)
  index_kept v n left other x r p s (done w (b ∷ y)) h e = (done w (b ∷ y ++ v), kept_of I v n (I_local v) r w (b ∷ y) (omega arith) h, ap (push v) e)
  index_kept v n left other x r p s (fault k d) h e = absurd (cc)

  pub bracket_kept : (v : List ℕ) → begins_with newline v ≡ false → (left other : ℕ) (r : List ℕ) (p : Part) (s : List ℕ) (i : Outcome Script) → S r i → done p s ≡ close_bracket left i
      → (j : Outcome Script) × S (r ++ v) j × (done p (s ++ v) ≡ close_bracket other j)
  bracket_kept v n left other r p s (done w []) h e = absurd (cc)
  bracket_kept v n left other r p s (done w (b ∷ y)) h e = (done w (b ∷ y ++ v), kept_of S v n (S_local v) r w (b ∷ y) (omega arith) h, ap (push v) e)
  bracket_kept v n left other r p s (fault k d) h e = absurd (cc)

  part_kept : (s : Substitution) (f : List ℕ → Step) (left other : ℕ) (p : Part) (r z : List ℕ) → Goes (substituted s) f → PartIs S I left s (done p r) → (y : Substitution) × (f z ≡ substituted y) × PartIs S I other y (done p (r ++ 59 ∷ z))
  part_kept (named x q) f left other p r z g h = (named x (q ++ 59 ∷ z), g z, ap (push (59 ∷ z)) h)
  part_kept unnamed f left other p r z g h = absurd (cc)
  part_kept (indexed x q) f left other p r z g h = (indexed x (q ++ 59 ∷ z), g z, index_kept (59 ∷ z) refl left other x q p r h.0 h.1 h.2)
  part_kept (opened q) f left other p r z g h = (opened (q ++ 59 ∷ z), g z, bracket_kept (59 ∷ z) refl (length q + 1) (length (q ++ 59 ∷ z) + 1) q p r h.0 h.1 h.2)

  -- one that is open can be closed
  index_is_open : (left : ℕ) (x : List ℕ) (k : Kind) (n : ℕ) (i : Outcome Word) → fault k n ≡ close_index left x i → fault_place k n ≡ 0 → IsOpen i
  index_is_open left x k n (done w []) e h = refl
  index_is_open left x k n (done w (b ∷ r)) e h = absurd (cc)
  index_is_open left x k n (fault l m) e h = sym (ap place_of e) ∙ h

  bracket_is_open : (left : ℕ) (k : Kind) (n : ℕ) (i : Outcome Script) → fault k n ≡ close_bracket left i → fault_place k n ≡ 0 → IsOpen i
  bracket_is_open left k n (done w []) e h = refl
  bracket_is_open left k n (done w (b ∷ r)) e h = absurd (cc)
  bracket_is_open left k n (fault l m) e h = sym (ap place_of e) ∙ h

  pub part_open : (s : Substitution) (f : List ℕ → Step) (left : ℕ) (k : Kind) (n : ℕ) → Goes (substituted s) f → PartIs S I left s (fault k n) → fault_place k n ≡ 0
      → (T : List ℕ → List ℕ) × Adds T × ((z : List ℕ) → (y : Substitution) × (p : Part) × (f (T z) ≡ substituted y) × ((other : ℕ) → PartIs S I other y (done p z)))
  part_open (named x q) f left k n g h e = absurd (cc)
  part_open unnamed f left k n g h e = (λ z. 125 ∷ z, λ z b. b, λ z. (named (g z).0 z, named_part (g z).0, (g z).1, λ other. refl))
  part_open (indexed x q) f left k n g h e =
      let c = I_open q h.0 h.1 (index_is_open left x k n h.0 h.2 e) in
      (c.0, c.1, λ z. (indexed x (q ++ 59 ∷ c.0 z), element x (parts (c.2 z).0), g (c.0 z), λ other. (done (c.2 z).0 (41 ∷ z), (c.2 z).1, refl)))
  part_open (opened q) f left k n g h e =
      let c = S_open q h.0 h.1 (bracket_is_open (length q + 1) k n h.0 h.2 e) in
      (c.0, c.1, λ z. (opened (q ++ 59 ∷ c.0 z), bracket (commands (c.2 z).0), g (c.0 z), λ other. (done (c.2 z).0 (93 ∷ z), (c.2 z).1, refl)))

  leaf_parts : (m : Mode) (z : List ℕ) → (x : Word) × PartsAt S I m (59 ∷ leaf m z) (done x (closer m ∷ z))
  leaf_parts (bare_word nested) z = ([], no_part refl)
  leaf_parts quotes z = (literal (59 ∷ []) [], some_bytes {r = 34 ∷ z} {bs = 59 ∷ []} {o = done [] (34 ∷ z)} refl (no_part refl))
  leaf_parts index z = (literal (59 ∷ []) [], some_bytes {r = 41 ∷ z} {bs = 59 ∷ []} {o = done [] (41 ∷ z)} refl (no_part refl))

  bytes_open : (m : Mode) (t r bs : List ℕ) → (t ≡ 92 ∷ []) ⊎ ((z : List ℕ) → next m (t ++ 59 ∷ z) ≡ bytes bs (r ++ 59 ∷ z)) → Closes (closer m) (PartsAt S I m) r → Closes (closer m) (PartsAt S I m) t
  bytes_open m t r bs (inl e) c =
      subst (Closes (closer m) (PartsAt S I m)) (sym e)
      (λ z. 59 ∷ leaf m z, leaf_adds m, λ z. let l = leaf_parts m z in (literal (59 ∷ []) l.0, some_bytes {r = 59 ∷ leaf m z} {bs = 59 ∷ []} {o = done l.0 (closer m ∷ z)} (next_taken m (59 ∷ leaf m z)) l.1))
  bytes_open m t r bs (inr g) c = (c.0, c.1, λ z. let l = c.2 z in (literal bs l.0, some_bytes {r = r ++ 59 ∷ c.0 z} {bs = bs} {o = done l.0 (closer m ∷ z)} (g (c.0 z)) l.1))

  pub parts_open : (m : Mode) {t : List ℕ} {o : Outcome Word} → PartsAt S I m t o → IsOpen o → Closes (closer m) (PartsAt S I m) t
  parts_open m {t} (no_part e) h = subst (Closes (closer m) (PartsAt S I m)) (sym h) (leaf m, leaf_adds m, λ z. leaf_parts m z)
  parts_open m {t} (some_bytes {r = r} {bs = bs} {o = o} e p) h = bytes_open m t r bs (bytes_step m t bs r e) (parts_open m p (open_text bs o h))
  parts_open m {t} (bad_part {s = s} {k = k} {n = n} a p) h =
      let c = part_open s (λ z. next m (t ++ 59 ∷ z)) (length t) k n (sub_step m t s a) p h in
      (λ z. c.0 (59 ∷ leaf m z), λ z b. c.1 (59 ∷ leaf m z) (leaf_adds m z b), λ z. let y = c.2 (59 ∷ leaf m z) in let l = leaf_parts m z in (y.1 ∷ l.0, one_part {r = 59 ∷ leaf m z} {s = y.0} y.1 {o = done l.0 (closer m ∷ z)} y.2 (y.3 (length (t ++ 59 ∷ c.0 (59 ∷ leaf m z)))) l.1))
  parts_open m {t} (one_part {r = r} {s = s} x {o = o} a p w) h =
      let c = parts_open m w (open_put x o h) in (
        c.0,
        c.1,
        λ z. let l = c.2 z in let y = part_kept s (λ z. next m (t ++ 59 ∷ z)) (length t) (length (t ++ 59 ∷ c.0 z)) x r (c.0 z) (sub_step m t s a) p in
            (x ∷ l.0, one_part {r = r ++ 59 ∷ c.0 z} {s = y.0} x {o = done l.0 (closer m ∷ z)} y.1 y.2 l.1),
      )

  -- words in braces and quotes
  brace_closes : (t : List ℕ) → opening t ≡ by_brace → BracedAt (drop 1 t) None → ClosesAll (EnclosedAt S I) t
  brace_closes [] e h = absurd (cc)
  brace_closes (b ∷ g) e h =
      let c = (braces_open braces.plain 0 g).shuts (braced_is g None h) in
      (c.0, c.1, λ z. let y = c.2 z in (literal y.0 [], in_braces (Some (y.0, z)) e (reads_matched (g ++ 59 ∷ c.0 z) y.0 z y.1)))

  quote_closes : (t : List ℕ) → opening t ≡ by_quote → Closes 34 (PartsAt S I quotes) (drop 1 t) → ClosesAll (EnclosedAt S I) t
  quote_closes [] e c = absurd (cc)
  quote_closes (b ∷ g) e c = (c.0, c.1, λ z. let y = c.2 z in (y.0, in_quotes {o = done y.0 (34 ∷ z)} e y.1))

  quote_is_open : (left : ℕ) (i : Outcome Word) (k : Kind) (n : ℕ) → close_quote left i ≡ fault k n → fault_place k n ≡ 0 → IsOpen i
  quote_is_open left (done w []) k n e h = refl
  quote_is_open left (done w (b ∷ r)) k n e h = absurd (cc)
  quote_is_open left (fault l m) k n e h = ap place_of e ∙ h

  pub enclosed_open : {t : List ℕ} {o : Outcome Word} → EnclosedAt S I t o → (k : Kind) (n : ℕ) → o ≡ fault k n → fault_place k n ≡ 0 → ClosesAll (EnclosedAt S I) t
  enclosed_open {t} (in_braces None e h) k n q p = brace_closes t e h
  enclosed_open {t} (in_braces (Some x) e h) k n q p = absurd (cc)
  enclosed_open {t} (in_quotes {o = o} e h) k n q p = quote_closes t e (parts_open quotes h (quote_is_open (length t) o k n q p))

  abbrev IsRead : List ℕ → List ℕ → Outcome Word → Type 0
  IsRead t v (done w r) = EnclosedAt S I (t ++ v) (done w (r ++ v))
  IsRead t v (fault k n) = Unit {0}

  brace_kept : (t v : List ℕ) (x : Option (List ℕ × List ℕ)) → opening t ≡ by_brace → BracedAt (drop 1 t) x → IsRead t v (close_brace (length t) x)
  brace_kept [] v x e h = absurd (cc)
  brace_kept (b ∷ g) v None e h = tt
  brace_kept (b ∷ g) v (Some x) e h = in_braces (Some (x.0, x.1 ++ v)) e (braced_kept h v)

  quote_kept : (t v : List ℕ) (o : Outcome Word) → begins_with newline v ≡ false → opening t ≡ by_quote → PartsAt S I quotes (drop 1 t) o → IsRead t v (close_quote (length t) o)
  quote_kept [] v o n e h = absurd (cc)
  quote_kept (b ∷ g) v (done w []) n e h = tt
  quote_kept (b ∷ g) v (done w (c ∷ r)) n e h =
      in_quotes {o = done w (c ∷ r ++ v)} e (kept_of (PartsAt S I quotes) v n (λ t o k. words.parts_local [] v S I in_s in_i (S_local v) (I_local v) quotes k) g w (c ∷ r) (omega arith) h)
  quote_kept (b ∷ g) v (fault k d) n e h = tt

  enclosed_kept : {t : List ℕ} {o : Outcome Word} → EnclosedAt S I t o → (v : List ℕ) → begins_with newline v ≡ false → IsRead t v o
  enclosed_kept {t} (in_braces x e h) v n = brace_kept t v x e h
  enclosed_kept {t} (in_quotes {o = o} e h) v n = quote_kept t v o n e h

  pub enclosed_stays : (t v : List ℕ) (w : Word) (r : List ℕ) → begins_with newline v ≡ false → EnclosedAt S I t (done w r) → EnclosedAt S I (t ++ v) (done w (r ++ v))
  enclosed_stays t v w r n h = enclosed_kept h v n

  -- words
  followed_by : (t : Bool) (w : Word) (r : List ℕ) → IsOpen (if t then done w r else fault Extra (length r)) → r ≡ []
  followed_by true w r h = h
  followed_by false w [] h = refl
  followed_by false w (b ∷ r) h = absurd (omega (arith, h))

  enclosed_word : (t : List ℕ) (o : Outcome Word) → EnclosedAt S I t o → IsOpen (followed true o) → Closes 59 (WordAt S I true) t
  enclosed_word t (done w r) h e =
      let q = followed_by (ends_word true r) w r e in
      (λ z. z, λ z b. b, λ z. (w, enclosed {o = done w (59 ∷ z)} (subst (λ y. EnclosedAt S I (t ++ 59 ∷ z) (done w (y ++ 59 ∷ z))) q (enclosed_stays t (59 ∷ z) w r refl h))))
  enclosed_word t (fault k n) h e =
      let c = enclosed_open h k n refl e in
      (λ z. c.0 (59 ∷ z), λ z b. c.1 (59 ∷ z) b, λ z. let y = c.2 (59 ∷ z) in (y.0, enclosed {o = done y.0 (59 ∷ z)} y.1))

  word_open : {t : List ℕ} {o : Outcome Word} → WordAt S I true t o → IsOpen o → Closes 59 (WordAt S I true) t
  word_open {t} (enclosed {o = o} h) e = enclosed_word t o h e
  word_open {t} (in_nothing q p) e =
      let c = parts_open (bare_word true) p e in
      (c.0, c.1, λ z. let y = c.2 z in (y.0, in_nothing (opening_before t (c.0 z) q) y.1))

  -- commands
  word_last : (t : List ℕ) → at_end true t ≡ false → Closes 59 (WordAt S I true) t → Closes 59 (WordsAt S I true) t
  word_last t e c =
      (c.0, c.1, λ z. let y = c.2 z in (y.0 ∷ [], one_word {r = 59 ∷ z} {w = y.0} {o = done [] (59 ∷ z)} (at_before t (59 ∷ c.0 z) e) y.1 (subst (λ u. WordsAt S I true u (done [] (59 ∷ z))) (sym (blanks_semicolon z)) (no_word refl))))

  word_more : (t r : List ℕ) (w : Word) → at_end true t ≡ false → WordAt S I true t (done w r) → Closes 59 (WordsAt S I true) (skip_blanks false r) → Closes 59 (WordsAt S I true) t
  word_more t [] w e p c = word_last t e (word_open p refl)
  word_more t (b ∷ r) w e p c = (
    c.0,
    c.1,
    λ z. let y = c.2 z in let v : List ℕ = 59 ∷ c.0 z in (
      w ∷ y.0,
      one_word {r = b ∷ r ++ v} {w = w} {o = done y.0 (59 ∷ z)} (at_before t v e)
          (kept_of (WordAt S I true) v refl (λ t o k. words.word_local [] v S I in_s in_i (S_local v) (I_local v) true k) t w (b ∷ r) (omega arith) p)
          (subst (λ u. WordsAt S I true u (done y.0 (59 ∷ z))) (sym (blanks_before (b ∷ r) (c.0 z))) y.1),
    ),
  )

  words_open : {t : List ℕ} {o : Outcome Command} → WordsAt S I true t o → IsOpen o → Closes 59 (WordsAt S I true) t
  words_open {t} (no_word e) h = subst (Closes 59 (WordsAt S I true)) (sym h) (λ z. z, λ z b. b, λ z. ([], no_word refl))
  words_open {t} (bad_word e p) h = word_last t e (word_open p h)
  words_open {t} (one_word {r = r} {w = w} {o = o} e p l) h = word_more t r w e p (words_open l (open_put w o h))

  -- scripts
  command_last : (t : List ℕ) → at_end true t ≡ false → Closes 59 (WordsAt S I true) t → Closes 93 (ScriptAt S I true) t
  command_last t e c = (
    λ z. c.0 (93 ∷ z),
    λ z b. c.1 (93 ∷ z) b,
    λ z. let y = c.2 (93 ∷ z) in
        (y.0 ∷ [], one_command {r = 59 ∷ 93 ∷ z} {c = y.0} {o = done [] (93 ∷ z)} (at_before t (59 ∷ c.0 (93 ∷ z)) e) y.1 (subst (λ u. ScriptAt S I true u (done [] (93 ∷ z))) (sym (skip_semicolon z)) (no_command refl))),
  )

  abbrev SkipCloses : List ℕ → Type 0
  SkipCloses r = (T : List ℕ → List ℕ) × Adds T × ((z : List ℕ) → (s : Script) × ScriptAt S I true (skip between (r ++ 59 ∷ T z)) (done s (93 ∷ z)))

  pub skip_closes : (r y : List ℕ) → skip between r ≡ y → (0 < length (skip between r) → Closes 93 (ScriptAt S I true) (skip between r)) → SkipCloses r
  skip_closes r [] e go = (λ z. 10 ∷ 93 ∷ z, λ z b. b, λ z. ([], subst (λ u. ScriptAt S I true u (done [] (93 ∷ z))) (sym (skip_out between r z e)) (no_command refl)))
  skip_closes r (b ∷ y) e go =
      let lt : 0 < length (skip between r) = omega (arith, ap length e) in
      let c = go lt in
      (c.0, c.1, λ z. ((c.2 z).0, subst (λ u. ScriptAt S I true u (done (c.2 z).0 (93 ∷ z))) (sym (skip_some r (c.0 z) lt)) (c.2 z).1))

  command_more : (t r : List ℕ) (c : Command) → at_end true t ≡ false → WordsAt S I true t (done c r) → SkipCloses r → Closes 93 (ScriptAt S I true) t
  command_more t [] c e p q = command_last t e (words_open p refl)
  command_more t (b ∷ r) c e p q = (
    q.0,
    q.1,
    λ z. let y = q.2 z in let v : List ℕ = 59 ∷ q.0 z in (
      c ∷ y.0,
      one_command {r = b ∷ r ++ v} {c = c} {o = done y.0 (93 ∷ z)} (at_before t v e)
          (kept_of (WordsAt S I true) v refl (λ t o k. words.words_local [] v S I in_s in_i (S_local v) (I_local v) true k) t c (b ∷ r) (omega arith) p) y.1,
    ),
  )

  pub script_open : {t : List ℕ} {o : Outcome Script} → ScriptAt S I true t o → IsOpen o → 0 < length t → Closes 93 (ScriptAt S I true) t
  script_open {t} (no_command e) h lt = absurd (omega (arith, ap length h, lt))
  script_open {t} (bad_command e p) h lt = command_last t e (words_open p h)
  script_open {t} (one_command {r = r} {c = c} {o = o} e p l) h lt = command_more t r c e p (skip_closes r (skip between r) refl (λ k. script_open l (open_put c o h) k))

mutual
  unfolding InBracket

  pub bracket_open : (room : ℕ) (t : List ℕ) (o : Outcome Script) → InBracket room t o → IsOpen o → Closes 93 (InBracket room) t
  bracket_open zero t o h e = absurd (let q : length t + 1 ≡ 0 = subst IsOpen h e in omega (arith, q))
  bracket_open (suc room) t o h e =
      let R = InBracket room in let J = InIndex room in
      skip_closes R J (bracket_within room) (index_within room) (λ v. words.bracket_local [] v room) (λ v. words.index_local [] v room) (bracket_open room) (index_open room) t (skip between t) refl
      (λ lt. script_open R J (bracket_within room) (index_within room) (λ v. words.bracket_local [] v room) (λ v. words.index_local [] v room) (bracket_open room) (index_open room) h e lt)

  pub index_open : (room : ℕ) (t : List ℕ) (o : Outcome Word) → InIndex room t o → IsOpen o → Closes 41 (InIndex room) t
  index_open zero t o h e = absurd (let q : length t + 1 ≡ 0 = subst IsOpen h e in omega (arith, q))
  index_open (suc room) t o h e =
      parts_open (InBracket room) (InIndex room) (bracket_within room) (index_within room) (λ v. words.bracket_local [] v room) (λ v. words.index_local [] v room) (bracket_open room) (index_open room) index h e
