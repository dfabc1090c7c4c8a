-- A text that is bad at a backslash is bad whatever stands behind the backslash; so with the byte at the bad place of a text no expression can go on.
use Rattle.std.proofs.Common.{◌≡◌, ℕ, ◌+◌, ◌-◌, ◌<◌, ◌≤◌, List, [], ◌∷◌, ◌++◌, length, take, drop, Bool, true, false, cond, Option, None, Some, refl, ap, sym, ◌∙◌, subst, ◌⊎◌, inl, inr, arith, append_assoc}
use Rattle.std.specs.Prelude.{not, ◌==◌, ◌||◌, nat_lt, if◌then◌else◌}
use Rattle.std.specs.List.{prefix_len, position_or_len}
use Rattle.std.specs.Option.{option_map}
use Rattle.std.proofs.Math.Nat.{eq-or-lt_of_le}
use Rattle.std.proofs.Math.Seq.{drop-append-add}
use Rattle.std.proofs.lemmas.Bool.{lt-ltb, eqb-true}
use Rattle.std.proofs.lemmas.List.{length-append, length-drop, take-append-le, drop-append-le}
use Rattle.std.proofs.lemmas.List.Sums.{prefix_len-le-length}
use Rattle.txt_core.specs.Escape.{skip_margin, escape_of}
use Rattle.txt_core.specs.Number.{trimmed_front}
use Rattle.tcl_parse.specs.declared.fault.Kind.{Kind}
use Rattle.tcl_parse.specs.Bytes.{backslash}
use Rattle.tcl_parse.specs.Tree.{Part, Word}
use Rattle.tcl_parse.specs.Names.{name_at, up_to}
use Rattle.tcl_parse.specs.Outcome as script_outcome
use Rattle.tcl_parse.specs.Outcome.{done, fault}
use Rattle.tcl_parse.specs.Steps.{quotes, Substitution, named, indexed, opened, unnamed, Step, ends, bytes, substituted, behind_dollar, between_braces, by_name, step_at}
use Rattle.tcl_parse.specs.Grammar.{PartIs, PartsAt, in_braces, in_quotes, InBracket, InIndex, close_bracket, close_index, close_brace, close_quote, opening, by_brace, by_quote}
use Rattle.txt_core.specs.Limits.{most_nested}
use Rattle.txt_core.specs.Texts.{begins_with}
use Rattle.tcl_parse.specs.Braces.{Braced, BracedAt, matching_brace, joined_lines, taken_byte, inner_braces, plain_byte}
use Rattle.tcl_parse.specs.Laws.Within.{bracket_within, index_within}
use Rattle.tcl_expr.specs.Trees.{Tree, word}
use Rattle.tcl_expr.specs.Outcome as outcome
use Rattle.tcl_expr.specs.Outcome.{Outcome, bad, tree, bad_from}
use Rattle.tcl_expr.specs.Grammar.{fault_place, behind_backslash, bad_place, word_operand, part_operand, Enclosed, Substituted, Reads}
use Rattle.tcl_expr.specs.Answers.{WordGives, PartGives}
use Rattle.tcl_expr.specs.Reading.{IsTree, IsBad}
use Rattle.tcl_expr.specs.Laws.Fits.{trimmed_within, behind_within}
use Rattle.tcl_expr.specs.Laws.Answers.{one_answer}
use Rattle.tcl_expr.specs.Places.{NoneGoesPast}
use Rattle.tcl_expr.proofs.Words as words
use Rattle.tcl_expr.proofs.Local as local
use Rattle.tcl_expr.proofs.Least as least
use Rattle.tcl_expr.proofs.Open.{prefix_near, prefix_far}
use Rattle.tcl_expr.proofs.OpenParts.{trim_firm, name_until}
use Rattle.tcl_expr.proofs.Suffixes.{Suffix, overlap, tail_same}
use Rattle.tcl_expr.proofs.Pairs.{enclosed_good, substituted_good}

cancel : (h p r : List ℕ) → h ++ r ≡ p ++ r → h ≡ p
cancel [] [] r e = refl
cancel [] (c ∷ p) r e = absurd (omega (arith, ap length e, length-append p r))
cancel (b ∷ h) [] r e = absurd (omega (arith, ap length e, length-append h r))
cancel (b ∷ h) (c ∷ p) r e =
    let q : b ≡ c = cc in
    let k = cancel h p r (tail_same b c (h ++ r) (p ++ r) e) in
    ap (λ x. x ∷ h) q ∙ ap (λ (y : List ℕ). c ∷ y) k

-- ---- braces up to what is left

abbrev is_margin : ℕ → Bool
is_margin b = (b == 32) || (b == 9)

margin_front : (t : List ℕ) → (m : List ℕ) × (t ≡ m ++ skip_margin t) × ((x : List ℕ) → skip_margin (m ++ x) ≡ skip_margin x)
unfolding skip_margin
margin_front [] = ([], refl, λ x. refl)
margin_front (b ∷ t) = by_test (is_margin b) refl (margin_front t)
  where
    by_test : (s : Bool) → is_margin b ≡ s → (m : List ℕ) × (t ≡ m ++ skip_margin t) × ((x : List ℕ) → skip_margin (m ++ x) ≡ skip_margin x)
        → (m : List ℕ) × (b ∷ t ≡ m ++ (if s then skip_margin t else b ∷ t)) × ((x : List ℕ) → skip_margin (m ++ x) ≡ skip_margin x)
    by_test true e k = (b ∷ k.0, ap (λ (y : List ℕ). b ∷ y) k.1, λ x. rw e (k.2 x))
    by_test false e k = ([], refl, λ x. refl)

margin_first : (t : List ℕ) (c : ℕ) (y z : List ℕ) → skip_margin t ≡ c ∷ y → skip_margin (c ∷ z) ≡ c ∷ z
unfolding skip_margin
margin_first [] c y z e = absurd (cc)
margin_first (b ∷ t) c y z e = by_test (is_margin b) refl (λ q. margin_first t c y z q) e
  where
    by_test : (s : Bool) → is_margin b ≡ s → (skip_margin t ≡ c ∷ y → skip_margin (c ∷ z) ≡ c ∷ z) → (if s then skip_margin t else b ∷ t) ≡ c ∷ y → skip_margin (c ∷ z) ≡ c ∷ z
    by_test true q go e = go e
    by_test false q go e =
        let n : b ≡ c = cc in
        let k : is_margin c ≡ false = subst (λ x. is_margin x ≡ false) n q in
        rw k refl

abbrev Swaps : List ℕ → List ℕ → List ℕ → Type 0
Swaps t w r = (k : List ℕ) × (t ≡ k ++ r) × ((v : List ℕ) → Braced (k ++ v) w v)

braced_some : {t w r : List ℕ} → Braced t w r → length r < length t
braced_some (matching_brace r) = omega arith
braced_some (joined_lines {t = t} h) = let m = margin_front t in omega (arith, braced_some h, ap length m.1, length-append m.0 (skip_margin t))
braced_some (taken_byte n h) = omega (arith, braced_some h)
braced_some (inner_braces h k) = omega (arith, braced_some h, braced_some k)
braced_some (plain_byte h k l d) = omega (arith, braced_some d)

braced_swaps : {t w r : List ℕ} → Braced t w r → Swaps t w r
braced_swaps (matching_brace r) = (125 ∷ [], refl, λ v. matching_brace v)
braced_swaps (joined_lines {t = t} {v = w} {r = r} h) = by_front (margin_front t) (braced_swaps h)
  where
    by_front : (m : List ℕ) × (t ≡ m ++ skip_margin t) × ((x : List ℕ) → skip_margin (m ++ x) ≡ skip_margin x) → Swaps (skip_margin t) w r → Swaps (92 ∷ 10 ∷ t) (32 ∷ w) r
    by_front m ([], e, f) = absurd (omega (arith, braced_some h, ap length e))
    by_front m (c ∷ k, e, f) = (
      92 ∷ 10 ∷ m.0 ++ c ∷ k,
      ap (λ (y : List ℕ). 92 ∷ 10 ∷ y) (m.1 ∙ ap (λ (y : List ℕ). m.0 ++ y) e ∙ sym (append_assoc m.0 (c ∷ k) r)),
      λ v.
          let q : skip_margin ((m.0 ++ c ∷ k) ++ v) ≡ c ∷ k ++ v = ap skip_margin (append_assoc m.0 (c ∷ k) v) ∙ m.2 (c ∷ k ++ v) ∙ margin_first t c (k ++ r) (k ++ v) e in
          joined_lines (subst (λ y. Braced y w v) (sym q) (f v)),
    )
braced_swaps (taken_byte {c = c} n h) = let z = braced_swaps h in (92 ∷ c ∷ z.0, ap (λ (y : List ℕ). 92 ∷ c ∷ y) z.1, λ v. taken_byte n (z.2 v))
braced_swaps (inner_braces {t = t} {w = w} {u = u} {v = w1} {r = r} h k) =
    let x = braced_swaps h in
    let y = braced_swaps k in
    (123 ∷ x.0 ++ y.0, ap (λ (z : List ℕ). 123 ∷ z) (x.1 ∙ ap (λ (z : List ℕ). x.0 ++ z) y.1 ∙ sym (append_assoc x.0 y.0 r)), λ v. inner_braces (subst (λ z. Braced z w (y.0 ++ v)) (sym (append_assoc x.0 y.0 v)) (x.2 (y.0 ++ v))) (y.2 v))
braced_swaps (plain_byte {b = b} h k l d) = let z = braced_swaps d in (b ∷ z.0, ap (λ (y : List ℕ). b ∷ y) z.1, λ v. plain_byte h k l (z.2 v))

-- what is left, as it is to be
abbrev rest_to : List ℕ → Step → Step
rest_to v ends = ends
rest_to v (bytes bs r) = bytes bs r
rest_to v (substituted (named x r)) = substituted (named x v)
rest_to v (substituted (indexed x r)) = substituted (indexed x r)
rest_to v (substituted (opened r)) = substituted (opened r)
rest_to v (substituted unnamed) = substituted unnamed

abbrev rest_of : Step → List ℕ
rest_of ends = []
rest_of (bytes bs r) = []
rest_of (substituted (named x r)) = r
rest_of (substituted (indexed x r)) = []
rest_of (substituted (opened r)) = []
rest_of (substituted unnamed) = []

abbrev left_to : {A : Type 0} → List ℕ → script_outcome.Outcome A → script_outcome.Outcome A
left_to v (done x r) = done x v
left_to v (fault k n) = fault k n

abbrev left_of : {A : Type 0} → script_outcome.Outcome A → List ℕ
left_of (done x r) = r
left_of (fault k n) = []

module _ (u v : List ℕ) where
  -- both texts, from the backslash on
  abbrev A : List ℕ
  A = 92 ∷ u

  abbrev B : List ℕ
  B = 92 ∷ v

  fine_any : (g : List ℕ) → words.Fine A B g
  unfolding words.Fine
  fine_any [] = tt
  fine_any (b ∷ []) = λ e. refl
  fine_any (b ∷ c ∷ g) = fine_any (c ∷ g)

  swap_of : {X : Type 0} (R : List ℕ → script_outcome.Outcome X → Type 0) → words.IsLocal A B R → (t : List ℕ) (x : X) (c : ℕ) (p : List ℕ) → R (t ++ A) (done x (c ∷ p ++ A)) → R (t ++ B) (done x (c ∷ p ++ B))
  swap_of R l t x c p k =
      let lt : length A < length (c ∷ p ++ A) = omega (arith, length-append p A) in
      let z = l (t ++ A) (done x (c ∷ p ++ A)) k t refl (fine_any t) lt in
      let e : z.0 ≡ c ∷ p = sym (cancel (c ∷ p) z.0 A z.1) in
      subst (λ y. R (t ++ B) (done x (y ++ B))) e z.3

  enclosed_at : words.IsLocal A B Enclosed
  enclosed_at t o k = words.enclosed_local A B (InBracket most_nested) (InIndex most_nested) (bracket_within most_nested) (index_within most_nested) (words.bracket_local A B most_nested) (words.index_local A B most_nested) k

  parts_at : words.IsLocal A B (PartsAt (InBracket most_nested) (InIndex most_nested) quotes)
  parts_at t o k = words.parts_local A B (InBracket most_nested) (InIndex most_nested) (bracket_within most_nested) (index_within most_nested) (words.bracket_local A B most_nested) (words.index_local A B most_nested) quotes k

  -- a word that ends right before the backslash
  abbrev Bordered : List ℕ → script_outcome.Outcome Word → Type 0
  Bordered g (done w r) = r ≡ A → Enclosed (g ++ B) (done w B)
  Bordered g (fault k n) = Unit {0}

  brace_border : (b : ℕ) (g t : List ℕ) (x : Option (List ℕ × List ℕ)) → t ≡ b ∷ g ++ A → opening t ≡ by_brace → BracedAt (drop 1 t) x → Bordered (b ∷ g) (close_brace (length t) x)
  brace_border b g t None q e h = tt
  brace_border b g t (Some x) q e h = λ l.
      let k = braced_swaps (subst (λ y. Braced (drop 1 y) x.0 x.1) q h) in
      let f : g ++ A ≡ k.0 ++ A = k.1 ∙ ap (λ (y : List ℕ). k.0 ++ y) l in
      let c : k.0 ≡ g = sym (cancel g k.0 A f) in
      let o : opening (b ∷ g ++ B) ≡ by_brace = subst (λ y. opening y ≡ by_brace) q e in
      in_braces (Some (x.0, B)) o (subst (λ y. Braced (y ++ B) x.0 B) c (k.2 B))

  quote_border : (b : ℕ) (g t : List ℕ) (o : script_outcome.Outcome Word) → t ≡ b ∷ g ++ A → opening t ≡ by_quote → PartsAt (InBracket most_nested) (InIndex most_nested) quotes (drop 1 t) o → Bordered (b ∷ g) (close_quote (length t) o)
  quote_border b g t (done w []) q e h = tt
  quote_border b g t (done w (c ∷ r)) q e h = λ l.
      let k = subst (λ y. PartsAt (InBracket most_nested) (InIndex most_nested) quotes (drop 1 y) (done w (c ∷ r))) q h in
      let m = subst (λ y. PartsAt (InBracket most_nested) (InIndex most_nested) quotes (g ++ A) (done w (c ∷ y))) l k in
      let o : opening (b ∷ g ++ B) ≡ by_quote = subst (λ y. opening y ≡ by_quote) q e in
      in_quotes {o = done w (c ∷ B)} o (swap_of (PartsAt (InBracket most_nested) (InIndex most_nested) quotes) parts_at g w c [] m)
  quote_border b g t (fault k n) q e h = tt

  enclosed_border : {t : List ℕ} {o : script_outcome.Outcome Word} → Enclosed t o → (b : ℕ) (g : List ℕ) → t ≡ b ∷ g ++ A → Bordered (b ∷ g) o
  enclosed_border {t} (in_braces x e h) b g q = brace_border b g t x q e h
  enclosed_border {t} (in_quotes {o = o} e h) b g q = quote_border b g t o q e h

  enclosed_swap : (b : ℕ) (g : List ℕ) (w : Word) (p : List ℕ) → Enclosed (b ∷ g ++ A) (done w (p ++ A)) → Enclosed (b ∷ g ++ B) (done w (p ++ B))
  enclosed_swap b g w [] h = enclosed_border h b g refl refl
  enclosed_swap b g w (c ∷ p) h = swap_of Enclosed enclosed_at (b ∷ g) w c p h

  -- a name that ends right before the backslash
  record Swap (x y : Step) : Type 0 where
    swaps : (n : List ℕ) → x ≡ substituted (named n A) → y ≡ substituted (named n B)

  swap_if : (t : Bool) (x y z w : Step) → Swap x z → Swap y w → Swap (if t then x else y) (if t then z else w)
  swap_if true x y z w h k = h
  swap_if false x y z w h k = k

  swap_bytes : (bs r : List ℕ) (y : Step) → Swap (bytes bs r) y
  swap_bytes bs r y = record { swaps = λ n e. absurd (cc) }

  swap_far : (c : Bool) (i : ℕ) (g : List ℕ) (y : Step) → length g ≤ i → Swap (between_braces (option_map (λ k. (take k (g ++ A), drop (k + 1) (g ++ A))) (cond c (Some i) None))) y
  swap_far true i g y le = record { swaps = λ n e. absurd (let q : drop (i + 1) (g ++ A) ≡ A = ap rest_of e in omega (arith, ap length q, length-drop (i + 1) (g ++ A), length-append g A, le)) }
  swap_far false i g y le = record { swaps = λ n e. absurd (cc) }

  short_nil : (p : List ℕ) → p ++ A ≡ A → p ++ B ≡ B
  short_nil [] e = refl
  short_nil (b ∷ p) e = absurd (omega (arith, ap length e, length-append p A))

  swap_braces : (g : List ℕ) → (prefix_len (λ b. not (b == 125)) g ≡ length g) ⊎ (prefix_len (λ b. not (b == 125)) g < length g) → Swap (between_braces (up_to 125 (g ++ A))) (between_braces (up_to 125 (g ++ B)))
  swap_braces g (inl q) =
      let f = prefix_far (λ b. not (b == 125)) g A q in
      swap_far (nat_lt (position_or_len (λ b. b == 125) (g ++ A)) (length (g ++ A))) (position_or_len (λ b. b == 125) (g ++ A)) g (between_braces (up_to 125 (g ++ B))) (omega (arith, f))
  swap_braces g (inr lt) =
      let j = prefix_len (λ b. not (b == 125)) g in
      let le : j ≤ length g = omega (arith, lt) in
      let le1 : j + 1 ≤ length g = omega (arith, lt) in
      let at : (w : List ℕ) → up_to 125 (g ++ w) ≡ Some (take j g, drop (j + 1) g ++ w) = λ w.
      let p = prefix_near (λ b. not (b == 125)) g w lt in
      let l : nat_lt j (length (g ++ w)) ≡ true = lt-ltb j (length (g ++ w)) (omega (arith, lt, length-append g w)) in
      rw (p, l) (rw (take-append-le j g w le, drop-append-le (j + 1) g w le1) refl) in
      subst (λ x. Swap (between_braces x) (between_braces (up_to 125 (g ++ B)))) (sym (at A))
      (subst (λ x. Swap (substituted (named (take j g) (drop (j + 1) g ++ A))) (between_braces x)) (sym (at B))
      (record { swaps = λ n e. ap (λ (y : List ℕ). substituted (named (take j g) y)) (short_nil (drop (j + 1) g) (ap rest_of e)) ∙ ap (rest_to B) e }))

  swap_name : (n r : List ℕ) → Swap (by_name n (r ++ A)) (by_name n (r ++ B))
  swap_name [] r = swap_bytes (36 ∷ []) (r ++ A) (by_name [] (r ++ B))
  swap_name (b ∷ n) [] = record { swaps = λ m e. ap (rest_to B) e }
  swap_name (b ∷ n) (d ∷ r) =
      swap_if (d == 40) (substituted (indexed (b ∷ n) (r ++ A))) (substituted (named (b ∷ n) (d ∷ r ++ A))) (substituted (indexed (b ∷ n) (r ++ B))) (substituted (named (b ∷ n) (d ∷ r ++ B)))
      (record { swaps = λ m e. absurd (cc) }) (record { swaps = λ m e. absurd (let q : d ∷ r ++ A ≡ A = ap rest_of e in omega (arith, ap length q, length-append r A)) })

  by_name_same : (x y : List ℕ × List ℕ) (z w : List ℕ × List ℕ) → z ≡ x → w ≡ y → Swap (by_name x.0 x.1) (by_name y.0 y.1) → Swap (by_name z.0 z.1) (by_name w.0 w.1)
  by_name_same x y z w e f h = subst (λ (q : List ℕ × List ℕ). Swap (by_name q.0 q.1) (by_name w.0 w.1)) (sym e) (subst (λ (q : List ℕ × List ℕ). Swap (by_name x.0 x.1) (by_name q.0 q.1)) (sym f) h)

  swap_dollar : (g : List ℕ) → Swap (behind_dollar (g ++ A)) (behind_dollar (g ++ B))
  swap_dollar [] = swap_bytes (36 ∷ []) A (behind_dollar B)
  swap_dollar (b ∷ g) =
      swap_if (b == 123) (between_braces (up_to 125 (g ++ A))) (by_name (name_at (b ∷ g ++ A)).0 (name_at (b ∷ g ++ A)).1) (between_braces (up_to 125 (g ++ B))) (by_name (name_at (b ∷ g ++ B)).0 (name_at (b ∷ g ++ B)).1)
      (swap_braces g (eq-or-lt_of_le (prefix_len-le-length (λ b. not (b == 125)) g)))
      (by_name_same ((name_at (b ∷ g)).0, (name_at (b ∷ g)).1 ++ A) ((name_at (b ∷ g)).0, (name_at (b ∷ g)).1 ++ B) (name_at (b ∷ g ++ A)) (name_at (b ∷ g ++ B)) (name_until (b ∷ g) 92 u refl) (name_until (b ∷ g) 92 v refl)
      (swap_name (name_at (b ∷ g)).0 (name_at (b ∷ g)).1))

  swap_step : (b : ℕ) (g n : List ℕ) → step_at (b ∷ g ++ A) ≡ substituted (named n A) → step_at (b ∷ g ++ B) ≡ substituted (named n B)
  swap_step b g n e =
      (swap_if (b == 92) (bytes (escape_of (g ++ A)).0 (escape_of (g ++ A)).1) (if b == 36 then behind_dollar (g ++ A) else if b == 91 then substituted (opened (g ++ A)) else bytes (b ∷ []) (g ++ A))
      (bytes (escape_of (g ++ B)).0 (escape_of (g ++ B)).1) (if b == 36 then behind_dollar (g ++ B) else if b == 91 then substituted (opened (g ++ B)) else bytes (b ∷ []) (g ++ B))
      (swap_bytes (escape_of (g ++ A)).0 (escape_of (g ++ A)).1 (bytes (escape_of (g ++ B)).0 (escape_of (g ++ B)).1))
      (swap_if (b == 36) (behind_dollar (g ++ A)) (if b == 91 then substituted (opened (g ++ A)) else bytes (b ∷ []) (g ++ A)) (behind_dollar (g ++ B)) (if b == 91 then substituted (opened (g ++ B)) else bytes (b ∷ []) (g ++ B)) (swap_dollar g)
      (swap_if (b == 91) (substituted (opened (g ++ A))) (bytes (b ∷ []) (g ++ A)) (substituted (opened (g ++ B))) (bytes (b ∷ []) (g ++ B)) (record { swaps = λ m e. absurd (cc) }) (swap_bytes (b ∷ []) (g ++ A) (bytes (b ∷ []) (g ++ B)))))).swaps n e

  -- a variable, an element or a bracket that ends right before the backslash
  moved_to : (b : ℕ) (g : List ℕ) (y : Substitution) → step_at (b ∷ g ++ A) ≡ substituted y → words.SubMoves A B y (step_at (b ∷ g ++ B))
  moved_to b g y e = subst (λ x. words.StepMoves A B x (step_at (b ∷ g ++ B))) e (words.step_same A B b g (fine_any (b ∷ g))).moves

  index_border : (b : ℕ) (g x q : List ℕ) (p : Part) (left : ℕ) (i : script_outcome.Outcome Word) → InIndex most_nested q i → done p A ≡ close_index left x i → words.SubMoves A B (indexed x q) (step_at (b ∷ g ++ B)) → Substituted (b ∷ g ++ B) (done p B)
  index_border b g x q p left (done w []) h e m = absurd (cc)
  index_border b g x q p left (done w (c ∷ r)) h e m =
      let l : A ≡ r = ap left_of e in
      let k : length (c ∷ r) ≤ length q + 1 = index_within most_nested q (done w (c ∷ r)) h in
      let z = m (omega (arith, k, ap length l)) in
      let i : InIndex most_nested (z.0 ++ A) (done w (c ∷ A)) = subst (λ y. InIndex most_nested (z.0 ++ A) (done w (c ∷ y))) (sym l) (subst (λ y. InIndex most_nested y (done w (c ∷ r))) z.1 h) in
      (indexed x (z.0 ++ B), z.2, (done w (c ∷ B), swap_of (InIndex most_nested) (words.index_local A B most_nested) z.0 w c [] i, ap (left_to B) e))
  index_border b g x q p left (fault k n) h e m = absurd (cc)

  bracket_border : (b : ℕ) (g q : List ℕ) (p : Part) (left : ℕ) (i : script_outcome.Outcome _) → InBracket most_nested q i → done p A ≡ close_bracket left i → words.SubMoves A B (opened q) (step_at (b ∷ g ++ B)) → Substituted (b ∷ g ++ B) (done p B)
  bracket_border b g q p left (done w []) h e m = absurd (cc)
  bracket_border b g q p left (done w (c ∷ r)) h e m =
      let l : A ≡ r = ap left_of e in
      let k : length (c ∷ r) ≤ length q + 1 = bracket_within most_nested q (done w (c ∷ r)) h in
      let z = m (omega (arith, k, ap length l)) in
      let i : InBracket most_nested (z.0 ++ A) (done w (c ∷ A)) = subst (λ y. InBracket most_nested (z.0 ++ A) (done w (c ∷ y))) (sym l) (subst (λ y. InBracket most_nested y (done w (c ∷ r))) z.1 h) in
      (opened (z.0 ++ B), z.2, (done w (c ∷ B), swap_of (InBracket most_nested) (words.bracket_local A B most_nested) z.0 w c [] i, ap (left_to B) e))
  bracket_border b g q p left (fault k n) h e m = absurd (cc)

  part_border : (b : ℕ) (g : List ℕ) (y : Substitution) (p : Part) → step_at (b ∷ g ++ A) ≡ substituted y → PartIs (InBracket most_nested) (InIndex most_nested) (length (b ∷ g ++ A)) y (done p A) → Substituted (b ∷ g ++ B) (done p B)
  part_border b g (named n r) p e h =
      let l : A ≡ r = ap left_of h in
      (named n B, swap_step b g n (e ∙ ap (λ (y : List ℕ). substituted (named n y)) (sym l)), ap (left_to B) h)
  part_border b g unnamed p e h = absurd (cc)
  part_border b g (indexed x q) p e h = index_border b g x q p (length (b ∷ g ++ A)) h.0 h.1 h.2 (moved_to b g (indexed x q) e)
  part_border b g (opened q) p e h = bracket_border b g q p (length q + 1) h.0 h.1 h.2 (moved_to b g (opened q) e)

  substituted_at : words.IsLocal A B Substituted
  substituted_at t o k [] q f e = absurd (let w : step_at A ≡ substituted k.0 = subst (λ y. step_at y ≡ substituted k.0) q k.1 in cc)
  substituted_at t o k (b ∷ g) q f e = words.substituted_is_local A B b g o f (subst (λ y. Substituted y o) q k) e

  part_swap : (b : ℕ) (g : List ℕ) (w : Part) (p : List ℕ) → Substituted (b ∷ g ++ A) (done w (p ++ A)) → Substituted (b ∷ g ++ B) (done w (p ++ B))
  part_swap b g w [] h = part_border b g h.0 w h.1 h.2
  part_swap b g w (c ∷ p) h = swap_of Substituted substituted_at (b ∷ g) w c p h

  -- ---- operands

  -- it is empty, or ends in the backslash
  abbrev Ends : List ℕ → Type 0
  Ends g = (g ≡ []) ⊎ ((k : List ℕ) × (g ≡ k ++ 92 ∷ []))

  ends_tail : (b : ℕ) (g : List ℕ) → Ends (b ∷ g) → Ends g
  ends_tail b g (inl e) = absurd (cc)
  ends_tail b g (inr ([], e)) = inl (tail_same b 92 g [] e)
  ends_tail b g (inr (c ∷ k, e)) = inr (k, tail_same b c g (k ++ 92 ∷ []) e)

  abbrev Early : Outcome → Type 0
  Early o = local.Early u v Ends ends_tail o

  abbrev Moved : (Outcome → Type 0) → Outcome → Type 0
  Moved Q o = local.Moved u v Ends ends_tail Q o

  -- what is left behind a word or a variable, behind the blanks
  done_moves : (n : ℕ) (x : Tree) (p : List ℕ) (Q : Outcome → Type 0) → Q (outcome.done x n (trimmed_front (p ++ B))) → Moved Q (outcome.done x n (trimmed_front (p ++ A)))
  done_moves n x p Q h =
      let k = trimmed_front p in
      (k ++ 92 ∷ [], trim_firm p A refl ∙ sym (append_assoc k (92 ∷ []) u), inr (k, refl), subst (λ y. Q (outcome.done x n y)) (trim_firm p B refl ∙ sym (append_assoc k (92 ∷ []) v)) h)

  front_of : (n : ℕ) (t r : List ℕ) → Suffix (t ++ A) r → local.Left u v Ends ends_tail n (trimmed_front r) → (p : List ℕ) × (r ≡ p ++ A)
  front_of n t r h e =
      let m = local.left_more u v Ends ends_tail n (trimmed_front r) e in
      overlap h.0 r t A (sym h.1) (omega (arith, m, trimmed_within r))

  bad_moves : (b : ℕ) (g : List ℕ) (k : Kind) (d c : ℕ) → length A < fault_place k d → d + length B ≡ c + length A → bad_place (b ∷ g ++ A) k d + length v ≡ bad_place (b ∷ g ++ B) k c + length u
  bad_moves b g k d c lt q = let e = least.place_moves A B b g k d c lt q in omega (arith, e)

  -- a fault at the backslash is bad behind it
  slash_at : (g : List ℕ) → behind_backslash (g ++ A) (length A) ≡ length u
  slash_at g =
      let i : length (g ++ A) - length A ≡ length g + 0 = omega (arith, length-append g A) in
      let d : drop (length (g ++ A) - length A) (g ++ A) ≡ A = ap (λ k. drop k (g ++ A)) i ∙ drop-append-add g A 0 in
      let e : length A - 1 ≡ length u = omega arith in
      ap (λ y. if begins_with backslash y then length A - 1 else length A) d ∙ e

  -- a fault that is bad at the backslash or before it stands before it
  stands_before : (g : List ℕ) (k : Kind) (d : ℕ) → length u < bad_place (g ++ A) k d → length A < fault_place k d
  stands_before g k d lt = by_place (eq-or-lt_of_le (let le : length A ≤ fault_place k d = omega (arith, lt, behind_within (g ++ A) (fault_place k d)) in le))
    where
      by_place : (length A ≡ fault_place k d) ⊎ (length A < fault_place k d) → length A < fault_place k d
      by_place (inl q) = let e : bad_place (g ++ A) k d ≡ length u = ap (behind_backslash (g ++ A)) (sym q) ∙ slash_at g in absurd (omega (arith, lt, e))
      by_place (inr l) = l

  word_by : (n b : ℕ) (g : List ℕ) (w : script_outcome.Outcome Word) → Enclosed (b ∷ g ++ A) w → Early (word_operand n (b ∷ g ++ A) w) → Moved (WordGives n (b ∷ g ++ B)) (word_operand n (b ∷ g ++ A) w)
  word_by n b g (done y r) h e =
      let p = front_of n (b ∷ g) r (enclosed_good (b ∷ g ++ A) (done y r) h) e in
      let k = enclosed_swap b g y p.0 (subst (λ z. Enclosed (b ∷ g ++ A) (done y z)) p.1 h) in
      subst (λ z. Moved (WordGives n (b ∷ g ++ B)) (outcome.done (word y) n (trimmed_front z))) (sym p.1) (done_moves n (word y) p.0 (WordGives n (b ∷ g ++ B)) (done y (p.0 ++ B), k, refl))
  word_by n b g (fault l d) h e =
      let lt = stands_before (b ∷ g) l d e in
      let z = words.enclosed_is_local A B b g (fault l d) (fine_any (b ∷ g)) h lt in
      (bad_place (b ∷ g ++ B) l z.0, bad_moves b g l d z.0 lt z.1, (fault l z.0, z.2, refl))

  part_by : (n b : ℕ) (g : List ℕ) (w : script_outcome.Outcome Part) → Substituted (b ∷ g ++ A) w → Early (part_operand n (b ∷ g ++ A) w) → Moved (PartGives n (b ∷ g ++ B)) (part_operand n (b ∷ g ++ A) w)
  part_by n b g (done y r) h e =
      let p = front_of n (b ∷ g) r (substituted_good (b ∷ g ++ A) (done y r) h) e in
      let k = part_swap b g y p.0 (subst (λ z. Substituted (b ∷ g ++ A) (done y z)) p.1 h) in
      subst (λ z. Moved (PartGives n (b ∷ g ++ B)) (outcome.done (word (y ∷ [])) n (trimmed_front z))) (sym p.1) (done_moves n (word (y ∷ [])) p.0 (PartGives n (b ∷ g ++ B)) (inl (done y (p.0 ++ B), k, refl)))
  part_by n b g (fault l d) h e =
      let lt = stands_before (b ∷ g) l d e in
      let z = words.substituted_is_local A B b g (fault l d) (fine_any (b ∷ g)) h lt in
      (bad_place (b ∷ g ++ B) l z.0, bad_moves b g l d z.0 lt z.1, inl (fault l z.0, z.2, refl))

  none_first : (b : ℕ) (g : List ℕ) → ((p : script_outcome.Outcome Part) → Substituted (b ∷ g ++ A) p → ⊥) → (p : script_outcome.Outcome Part) → Substituted (b ∷ g ++ B) p → ⊥
  none_first b [] none = words.none_moves b 92 u v none
  none_first b (c ∷ g) none = words.none_moves b c (g ++ A) (g ++ B) none

  none_by : (n b : ℕ) (g : List ℕ) → ((p : script_outcome.Outcome Part) → Substituted (b ∷ g ++ A) p → ⊥) → Moved (PartGives n (b ∷ g ++ B)) (bad (length (b ∷ g ++ A) - 1))
  none_by n b g none = (length (b ∷ g ++ B) - 1, omega (arith, length-append g A, length-append g B), inr (none_first b g none, refl))

  -- both texts of a front that ends in the backslash
  as_one : (g k w : List ℕ) → g ≡ k ++ 92 ∷ [] → g ++ w ≡ k ++ 92 ∷ w
  as_one g k w e = ap (λ y. y ++ w) e ∙ append_assoc k (92 ∷ []) w

  never_word : {t : List ℕ} {o : script_outcome.Outcome Word} → Enclosed t o → t ≡ A → ⊥
  never_word (in_braces x e h) q = absurd (let w = subst (λ y. opening y ≡ by_brace) q e in cc)
  never_word (in_quotes e h) q = absurd (let w = subst (λ y. opening y ≡ by_quote) q e in cc)

  word_moves : (n b : ℕ) (g : List ℕ) (o : Outcome) → Ends (b ∷ g) → WordGives n (b ∷ g ++ u) o → Early o → Moved (WordGives n (b ∷ g ++ v)) o
  word_moves n b g o (inl q) h e = absurd (cc)
  word_moves n b g o (inr ([], q)) h e = absurd (never_word h.1 (as_one (b ∷ g) [] u q))
  word_moves n b g o (inr (c ∷ k, q)) h e =
      let x = subst (λ y. WordGives n y o) (as_one (b ∷ g) (c ∷ k) u q) h in
      let m = word_by n c k x.0 x.1 (subst Early x.2 e) in
      subst (Moved (WordGives n (b ∷ g ++ v))) (sym x.2) (subst (λ y. Moved (WordGives n y) (word_operand n (c ∷ k ++ A) x.0)) (sym (as_one (b ∷ g) (c ∷ k) v q)) m)

  part_moves : (n b : ℕ) (g : List ℕ) (o : Outcome) → Ends (b ∷ g) → PartGives n (b ∷ g ++ u) o → Early o → Moved (PartGives n (b ∷ g ++ v)) o
  part_moves n b g o (inl q) h e = absurd (cc)
  part_moves n b g o (inr ([], q)) (inl h) e = absurd (let w : step_at A ≡ substituted h.1.0 = subst (λ y. step_at y ≡ substituted h.1.0) (as_one (b ∷ g) [] u q) h.1.1 in cc)
  part_moves n b g o (inr ([], q)) (inr h) e =
      let l : length u < length (b ∷ g ++ u) - 1 = subst Early h.1 e in
      absurd (omega (arith, l, ap length (as_one (b ∷ g) [] u q)))
  part_moves n b g o (inr (c ∷ k, q)) (inl h) e =
      let x = subst (λ y. (p : script_outcome.Outcome Part) × Substituted y p × (o ≡ part_operand n y p)) (as_one (b ∷ g) (c ∷ k) u q) h in
      let m = part_by n c k x.0 x.1 (subst Early x.2 e) in
      subst (Moved (PartGives n (b ∷ g ++ v))) (sym x.2) (subst (λ y. Moved (PartGives n y) (part_operand n (c ∷ k ++ A) x.0)) (sym (as_one (b ∷ g) (c ∷ k) v q)) m)
  part_moves n b g o (inr (c ∷ k, q)) (inr h) e =
      let f = as_one (b ∷ g) (c ∷ k) u q in
      let none = subst (λ y. ((p : script_outcome.Outcome Part) → Substituted y p → ⊥)) f h.0 in
      let m = none_by n c k none in
      let l : bad (length (b ∷ g ++ u) - 1) ≡ bad (length (c ∷ k ++ A) - 1) = ap (λ (y : List ℕ). bad (length y - 1)) f in
      subst (Moved (PartGives n (b ∷ g ++ v))) (sym (h.1 ∙ l)) (subst (λ y. Moved (PartGives n y) (bad (length (c ∷ k ++ A) - 1))) (sym (as_one (b ∷ g) (c ∷ k) v q)) m)

  -- a text that is bad at a backslash or before it is bad there with anything else behind the backslash
  pub slash_stays : (front : List ℕ) (left : ℕ) → length u < left → Reads (front ++ A) (bad_from left) → (c : ℕ) × (left + length v ≡ c + length u) × Reads (front ++ B) (bad_from c)
  slash_stays front left lt h =
      let k = local.bad_stays u v Ends ends_tail word_moves part_moves (front ++ 92 ∷ []) left (inr (front, refl)) lt (subst (λ y. Reads y (bad_from left)) (sym (append_assoc front (92 ∷ []) u)) h) in
      (k.0, k.1, subst (λ y. Reads y (bad_from k.0)) (append_assoc front (92 ∷ []) v) k.2)

two : (c : ℕ) (x : Tree) → bad_from c ≡ tree x → ⊥
two c x e = cc

never_slash : (place : ℕ) (t front rest other : List ℕ) (x : Tree) → IsBad place t → t ≡ front ++ 92 ∷ rest → length front ≡ place → IsTree x (front ++ 92 ∷ other) → ⊥
never_slash place t front rest other x h q n k =
    let w = slash_stays rest other front h.0 (omega (arith, h.1, n, ap length q, length-append front (92 ∷ rest))) (subst (λ y. Reads y (bad_from h.0)) q h.2) in
    two w.0 x (one_answer (front ++ 92 ∷ other) (bad_from w.0) (tree x) w.2 k)

-- A text that is bad at a place can't go on with the byte there.
pub none_goes_past : (place : ℕ) (t : List ℕ) → IsBad place t → NoneGoesPast place t
none_goes_past place t h front b rest other x q n k = by_test (b == 92) refl
  where
    by_test : (p : Bool) → (b == 92) ≡ p → ⊥
    by_test false e = least.none_past place t h front b rest other x q n (λ w. absurd (let z : (92 == 92) ≡ false = subst (λ y. (y == 92) ≡ false) w e in cc)) k
    by_test true e =
        let w : b ≡ 92 = eqb-true b 92 e in
        never_slash place t front rest other x h (subst (λ y. t ≡ front ++ y ∷ rest) w q) n (subst (λ y. IsTree x (front ++ y ∷ other)) w k)
