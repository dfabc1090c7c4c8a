-- Heads and lines: each head ends in a line feed, and has few fields.
use Rattle.std.proofs.Common.{◌≡◌, ◌≢◌, ℕ, ◌*◌, ◌<◌, ◌≤◌, ◌⊎◌, inl, inr, List, [], ◌∷◌, ◌++◌, length, take, drop, refl, sym, ap, ◌∙◌, subst, arith, append_assoc, append-nil, length-append, get_or, take-append-drop, ◌-◌}
use Rattle.std.specs.Prelude.{All, suc, zero, true}
use Rattle.std.proofs.lemmas.List.Elements.{All-tail}
use Rattle.std.proofs.Math.Seq.{take-suc}
use Rattle.std.specs.List.{flat_map}
use Rattle.httparse.specs.Grammar.{LineEnd, crlf, lf, print_end, print_blank, print_version, Field, print_field, print_section, RequestHead, print_request, ReadsRequest, HasNoRequest, EndsInTarget, is_uri_byte, AllPass}
use Rattle.http_req.specs.Heads.{IsMalformed}
use Rattle.http_req.specs.Fronts.{AreWholeLines}

-- of two lists that begin a third one goes on as the other
pub two_fronts : (a b c d : List ℕ) → a ++ b ≡ c ++ d
    → ((q : List ℕ) × (a ≡ c ++ q) × (q ++ b ≡ d)) ⊎ ((q : List ℕ) × (c ≡ a ++ q) × (q ++ d ≡ b))
two_fronts a b [] d e = inl (a, refl, e)
two_fronts [] b (y ∷ c) d e = inr (y ∷ c, refl, sym e)
two_fronts (x ∷ a) b (y ∷ c) d e =
    let head : x ≡ y = cc in
    let tail : a ++ b ≡ c ++ d = cc in
    elim (two_fronts a b c d tail) [
      | inl w ↦ inl (w.0, cc (w.1, head), w.2)
      | inr w ↦ inr (w.0, cc (w.1, head), w.2)
    ]

-- the last element of a list that has one
pub last_of : (p : List ℕ) (x : ℕ) (l q : List ℕ) → p ++ x ∷ [] ≡ l ++ q
    → (q ≡ []) ⊎ ((before : List ℕ) × (q ≡ before ++ x ∷ []) × (p ≡ l ++ before))
last_of p x l [] e = inl refl
last_of [] x [] (y ∷ q) e = inr ([], sym e, refl)
last_of (z ∷ p) x [] (y ∷ q) e = inr (z ∷ p, sym e, refl)
last_of [] x (w ∷ l) (y ∷ q) e =
    let nothing : [] ≡ l ++ y ∷ q = cc in
    absurd (omega (arith, ap length nothing, length-append l (y ∷ q)))
last_of (z ∷ p) x (w ∷ l) (y ∷ q) e =
    let head : z ≡ w = cc in
    let tail : p ++ x ∷ [] ≡ l ++ y ∷ q = cc in
    elim (last_of p x l (y ∷ q) tail) [
      | inl n ↦ inl n
      | inr n ↦ inr (n.0, n.1, cc (n.2, head))
    ]

-- a list has no such element, and has it
pub has_none : (x : ℕ) (a b : List ℕ) → All (λ y. y ≢ x) (a ++ x ∷ b) → ⊥
has_none x [] b none = none 0 0 (omega arith) refl
has_none x (y ∷ a) b none = has_none x a b (All-tail (λ y. y ≢ x) y (a ++ x ∷ b) none)

pub section_ends : (fields : List Field) (last : LineEnd) → (before : List ℕ) × (print_section fields last ≡ before ++ 10 ∷ [])
section_ends fields lf = (flat_map print_field fields, refl)
section_ends fields crlf = (flat_map print_field fields ++ 13 ∷ [], sym (append_assoc (flat_map print_field fields) (13 ∷ []) (10 ∷ [])))

abbrev request_line : RequestHead → List ℕ
request_line head =
    print_blank head.blank ++ head.method ++ 32 ∷ head.target ++ 32 ∷ print_version head.minor ++ print_end head.line_end

print_is : (head : RequestHead) → print_request head ≡ request_line head ++ print_section head.fields head.last
unfolding print_request
print_is head = refl

-- a head ends in a line feed
pub request_ends : (head : RequestHead) → (before : List ℕ) × (print_request head ≡ before ++ 10 ∷ [])
request_ends head =
    let end = section_ends head.fields head.last in (
      request_line head ++ end.0,
      print_is head ∙ ap (λ (t : List ℕ). request_line head ++ t) end.1 ∙ sym (append_assoc (request_line head) end.0 (10 ∷ [])),
    )

end_size : (end : LineEnd) → 1 ≤ length (print_end end)
end_size lf = omega arith
end_size crlf = omega arith

-- each field takes two bytes and more
field_size : (f : Field) → 2 ≤ length (print_field f)
field_size f =
    omega (arith, length-append (f.name ++ 58 ∷ f.raw) (print_end f.end), length-append f.name (58 ∷ f.raw), end_size f.end)

pub field_bytes : (fields : List Field) → 2 * length fields ≤ length (flat_map print_field fields)
field_bytes [] = omega arith
field_bytes (f ∷ fields) =
    omega (arith, field_bytes fields, field_size f, length-append (print_field f) (flat_map print_field fields))

pub request_bytes : (head : RequestHead) → 2 * length head.fields < length (print_request head)
request_bytes head =
    let section = print_section head.fields head.last in
    omega (
      arith,
      ap length (print_is head),
      length-append (request_line head) section,
      length-append (flat_map print_field head.fields) (print_end head.last),
      end_size head.last,
      field_bytes head.fields,
    )

-- ---- the lines of a text

-- what ends in a line feed at the front of the text stands in its lines
pub within_lines : {text lines : List ℕ} → AreWholeLines text lines → (p r : List ℕ) → text ≡ (p ++ 10 ∷ []) ++ r
    → (q : List ℕ) × (lines ≡ (p ++ 10 ∷ []) ++ q)
within_lines {text} {lines} are p r e =
    elim (two_fronts (p ++ 10 ∷ []) r lines are.rest (sym e ∙ are.parts)) [
      | inl w ↦ elim (last_of p 10 lines w.0 w.1) [
        | inl n ↦ ([], rw append-nil (cc (w.1, ap (λ (t : List ℕ). lines ++ t) n, append-nil lines)))
        | inr n ↦ absurd (has_none 10 n.0 r (subst (All (λ byte. byte ≢ 10)) (sym w.2 ∙ ap (λ (t : List ℕ). t ++ r) n.1 ∙ append_assoc n.0 (10 ∷ []) r) are.none))
      ]
      | inr w ↦ (w.0, w.1)
    ]

pub none_by_lines : {text lines : List ℕ} → AreWholeLines text lines → HasNoRequest lines → HasNoRequest text
none_by_lines {text} {lines} are none head rest reads =
    let end = request_ends head in
    let found = within_lines are end.0 rest (reads.1 ∙ ap (λ (t : List ℕ). t ++ rest) end.1) in
    none head found.0 (reads.0, found.1 ∙ ap (λ (t : List ℕ). t ++ found.0) (sym end.1))

pub fine_by_lines : {text lines : List ℕ} → AreWholeLines text lines
    → (more : List ℕ) (head : RequestHead) → ReadsRequest (lines ++ more) head [] → ¬ (IsMalformed text)
fine_by_lines {text} {lines} are more head reads wrong =
    let found = within_lines are wrong.before wrong.after (wrong.parts ∙ sym (append_assoc wrong.before (10 ∷ []) wrong.after)) in
    wrong.never (found.0 ++ more) head
    (subst (λ (t : List ℕ). ReadsRequest t head []) (ap (λ (t : List ℕ). t ++ more) found.1 ∙ append_assoc (wrong.before ++ 10 ∷ []) found.0 more) reads)

snoc_not_nil : (p q : List ℕ) (x : ℕ) → [] ≡ (p ++ x ∷ []) ++ q → ⊥
snoc_not_nil p q x e = omega (arith, ap length e, length-append (p ++ x ∷ []) q, length-append p (x ∷ []))

pub nothing_is_no_request : HasNoRequest []
nothing_is_no_request head rest reads =
    let end = request_ends head in
    snoc_not_nil end.0 rest 10 (reads.1 ∙ ap (λ (t : List ℕ). t ++ rest) end.1)

pub none_without_lines : {text lines : List ℕ} → AreWholeLines text lines → length lines ≡ 0 → HasNoRequest text
none_without_lines {lines = []} are empty = none_by_lines are nothing_is_no_request
none_without_lines {lines = x ∷ lines} are empty = absurd (omega (arith, empty))

pub fine_without_lines : {text lines : List ℕ} → AreWholeLines text lines → length lines ≡ 0 → ¬ (IsMalformed text)
fine_without_lines {lines} are empty wrong =
    let found = within_lines are wrong.before wrong.after (wrong.parts ∙ sym (append_assoc wrong.before (10 ∷ []) wrong.after)) in
    omega (arith, empty, ap length found.1, length-append (wrong.before ++ 10 ∷ []) found.0, length-append wrong.before (10 ∷ []))

-- a line feed does not end a text inside a target
no_target_ends : (target before : List ℕ) → AllPass is_uri_byte target → target ≡ before ++ 10 ∷ [] → ⊥
no_target_ends target before uri e =
    let last = subst (AllPass is_uri_byte) e uri in
    has_none_passes before last
  where
    has_none_passes : (before : List ℕ) → AllPass is_uri_byte (before ++ 10 ∷ []) → ⊥
    has_none_passes [] all = let no = all 0 0 (omega arith) in absurd (cc)
    has_none_passes (y ∷ before) all = has_none_passes before (All-tail (λ b. is_uri_byte b ≡ true) y (before ++ 10 ∷ []) all)

in_target : (front target before : List ℕ) → AllPass is_uri_byte target → before ++ 10 ∷ [] ≡ front ++ 32 ∷ target → ⊥
in_target front target before uri e =
    elim (last_of before 10 front (32 ∷ target) e) [
      | inl none ↦ absurd (cc)
      | inr w ↦ after w.0 w.1
    ]
  where
    after : (b : List ℕ) → 32 ∷ target ≡ b ++ 10 ∷ [] → ⊥
    after [] e = absurd (cc)
    after (x ∷ b) e = let rest : target ≡ b ++ 10 ∷ [] = cc in no_target_ends target b uri rest

pub not_in_target : (lines before : List ℕ) → lines ≡ before ++ 10 ∷ [] → ¬ (EndsInTarget lines)
not_in_target lines before ends (blank, method, target, token, uri, is) =
    in_target (print_blank blank ++ method) target before uri (sym ends ∙ is)

take_last : (text : List ℕ) (end : ℕ) → 0 < end → end ≤ length text → take end text ≡ take (end - 1) text ++ get_or text (end - 1) 0 ∷ []
take_last text zero some inside = absurd (omega arith)
take_last text (suc n) some inside =
    let e : suc n - 1 ≡ n = omega arith in
    rw e (take-suc text n 0 (omega arith))

-- what stands up to an end behind which there is no line feed, and which is the text's begin or behind one
pub lines_up_to : (text : List ℕ) (end : ℕ) → All (λ byte. byte ≢ 10) (drop end text)
    → (end ≡ 0) ⊎ ((0 < end) × (end ≤ length text) × (get_or text (end - 1) 0 ≡ 10)) → AreWholeLines text (take end text)
lines_up_to text end none (inl e) =
    record { rest = drop end text; parts = sym (take-append-drop end text); none = none; ends = inl (ap (λ n. take n text) e) }
lines_up_to text end none (inr w) = record {
  rest = drop end text;
  parts = sym (take-append-drop end text);
  none = none;
  ends = inr (take (end - 1) text, take_last text end w.0 w.1 ∙ ap (λ n. take (end - 1) text ++ n ∷ []) w.2);
}
