-- How long connections are, and the file as far as it was written.
use Rattle.std.proofs.Common.{◌≡◌, ◌≤◌, ◌<◌, ℕ, zero, suc, ◌+◌, ◌-◌, ◌*◌, ◌%◌, List, ◌++◌, length, codes, decimal, append_assoc, append-nil, length-append, arith, refl, ap, sym, ◌∙◌}
use Rattle.std.proofs.lemmas.Fmt.{length-decimal-le, decimal_digit, decimal_step}
use Rattle.load_gen.specs.Load.{next, choice, target_of, get_of, round_of, round, rounds, block, front, back, load_file, most_requests, file_limit}

-- ---- lengths

digits_short : (k : ℕ) → k < 1000000 → length (decimal k) ≤ 6
digits_short k h = length-decimal-le 6 k (omega arith) h (omega arith)

pub target_short : (c k : ℕ) → k < 1000000 → length (target_of c k) ≤ 18
target_short zero k h = omega arith
target_short (suc zero) k h = omega (arith, digits_short k h)
target_short (suc (suc more)) k h = omega arith

pub get_short : (target : List ℕ) → length target ≤ 18 → length (get_of target) ≤ 44
get_short target h = simp length-append (omega arith)

round_of_short : (number : ℕ) (input : List ℕ) → number < 4 → length input ≤ 44 → length (round_of number input) ≤ 92
round_of_short number input h k =
    let a : length (decimal number) ≤ 1 = length-decimal-le 1 number (omega arith) (omega arith) (omega arith) in
    let b : length (decimal (length input)) ≤ 2 = length-decimal-le 2 (length input) (omega arith) (omega arith) (omega arith) in
    simp length-append (omega arith)

round_short : (x k : ℕ) → k < 1000000 → length (round x k) ≤ 92
round_short x k h = round_of_short (x % 4) (get_of (target_of (choice x) k)) (omega arith) (get_short (target_of (choice x) k) (target_short (choice x) k h))

pub rounds_short : (m k x : ℕ) → k + m ≤ 1000000 → length (rounds m k x) ≤ 92 * m
rounds_short zero k x h = omega arith
rounds_short (suc m) k x h =
    let first : length (round (next x) k) ≤ 92 = round_short (next x) k (omega arith) in
    let others : length (rounds m (k + 1) (next x)) ≤ 92 * m = rounds_short m (k + 1) (next x) (omega arith) in
    omega (arith, length-append (round (next x) k) (rounds m (k + 1) (next x)))

front_short : length front ≤ 200
front_short = simp length-append (omega (arith, length-decimal-le 3 174 (omega arith) (omega arith) (omega arith)))

pub file_short : (n : ℕ) → n ≤ most_requests → length (load_file n) < file_limit
file_short n h =
    let middle : length (rounds n 1 n) ≤ 92 * n = rounds_short n 1 n (omega arith) in
    omega (arith, front_short, length-append (front ++ rounds n 1 n) back, length-append front (rounds n 1 n))

-- ---- one connection more

regrouped : (file d l input : List ℕ) →
    file ++ codes "run " ++ d ++ codes "\nconnect " ++ d ++ codes " " ++ l ++ codes "\n" ++ input ++ codes "\nstep 0\nstep 1\nstep 2\nstep 3\n"
    ≡ file ++ (codes "run " ++ d ++ codes "\n" ++ codes "connect " ++ d ++ codes " " ++ l ++ codes "\n" ++ input ++ codes "\n" ++ codes "step 0\nstep 1\nstep 2\nstep 3\n")
regrouped file d l input = simp append_assoc

-- the nine pieces that are written of it
pub one_round : (file a b c d e f g h i digits bytes input : List ℕ) (size : ℕ)
    → a ≡ file ++ codes "run " → b ≡ a ++ digits → c ≡ b ++ codes "\nconnect " → d ≡ c ++ digits → e ≡ d ++ codes " " → f ≡ e ++ decimal size → g ≡ f ++ codes "\n" → h ≡ g ++ bytes
    → i ≡ h ++ codes "\nstep 0\nstep 1\nstep 2\nstep 3\n" → bytes ≡ input → size ≡ length input
    → i ≡ file ++ (codes "run " ++ digits ++ codes "\n" ++ codes "connect " ++ digits ++ codes " " ++ decimal (length input) ++ codes "\n" ++ input ++ codes "\n" ++ codes "step 0\nstep 1\nstep 2\nstep 3\n")
one_round file a b c d e f g h i digits bytes input size p1 p2 p3 p4 p5 p6 p7 p8 p9 same long =
    let e2 = p2 ∙ ap (λ (t : List ℕ). t ++ digits) p1 in
    let e3 = p3 ∙ ap (λ (t : List ℕ). t ++ codes "\nconnect ") e2 in
    let e4 = p4 ∙ ap (λ (t : List ℕ). t ++ digits) e3 in
    let e5 = p5 ∙ ap (λ (t : List ℕ). t ++ codes " ") e4 in
    let e6 = p6 ∙ ap (λ (n : ℕ). e ++ decimal n) long ∙ ap (λ (t : List ℕ). t ++ decimal (length input)) e5 in
    let e7 = p7 ∙ ap (λ (t : List ℕ). t ++ codes "\n") e6 in
    let e8 = p8 ∙ ap (λ (t : List ℕ). g ++ t) same ∙ ap (λ (t : List ℕ). t ++ input) e7 in
    p9 ∙ ap (λ (t : List ℕ). t ++ codes "\nstep 0\nstep 1\nstep 2\nstep 3\n") e8 ∙ regrouped file digits (decimal (length input)) input

-- ---- the file as far as it was written

digits_174 : decimal 174 ≡ codes "174"
digits_174 =
    decimal_step 174 (omega arith) (omega arith)
    ∙ ap (λ (d : List ℕ). d ++ codes "4") (decimal_step 17 (omega arith) (omega arith) ∙ ap (λ (d : List ℕ). d ++ codes "7") (decimal_digit 1 (omega arith)))

pub front_is : codes "workers 4\ndefine 174\n" ++ block ++ codes "\n" ≡ front
front_is = ap (λ (d : List ℕ). codes "workers 4\ndefine " ++ d ++ codes "\n" ++ block ++ codes "\n") (sym digits_174)

rounds_next : (e k x : ℕ) → k < e → rounds (e - k) k x ≡ round (next x) k ++ rounds (e - (k + 1)) (k + 1) (next x)
rounds_next e k x h = let s : e - k ≡ suc (e - (k + 1)) = omega arith in rw s refl

pub one_more : (file longer all : List ℕ) (e k x y : ℕ) → k < e → y ≡ next x → longer ≡ file ++ round y k → file ++ rounds (e - k) k x ≡ all
    → longer ++ rounds (e - (k + 1)) (k + 1) y ≡ all
one_more file longer all e k x y h drawn gained is =
    ap (λ (t : List ℕ). t ++ rounds (e - (k + 1)) (k + 1) y) gained
    ∙ append_assoc file (round y k) (rounds (e - (k + 1)) (k + 1) y)
    ∙ ap (λ (z : ℕ). file ++ (round z k ++ rounds (e - (k + 1)) (k + 1) z)) drawn
    ∙ ap (λ (more : List ℕ). file ++ more) (sym (rounds_next e k x h))
    ∙ is

-- ---- so many connections, and others behind them

pub at_first : (file : List ℕ) (first count more x : ℕ) → file ++ rounds (first + count + more - first) first x ≡ file ++ rounds (count + more) first x
at_first file first count more x =
    let s : first + count + more - first ≡ count + more = omega arith in
    ap (λ (m : ℕ). file ++ rounds m first x) s

pub at_last : (file all : List ℕ) (e more k x : ℕ) → k ≡ e → file ++ rounds (e + more - k) k x ≡ all → file ++ rounds more e x ≡ all
at_last file all e more k x at is =
    let s : e + more - k ≡ more = omega (arith, at) in
    ap (λ (n : ℕ). file ++ rounds more n x) (sym at) ∙ ap (λ (m : ℕ). file ++ rounds m k x) (sym s) ∙ is

-- none others behind them
pub whole_rounds : (file begun : List ℕ) (e count k x y : ℕ) → file ++ rounds 0 e y ≡ begun ++ rounds (count + 0) k x → file ≡ begun ++ rounds count k x
whole_rounds file begun e count k x y is =
    let s : count + 0 ≡ count = omega arith in
    sym (append-nil file) ∙ is ∙ ap (λ (m : ℕ). begun ++ rounds m k x) s

-- ---- the file as it was written

pub written_whole : (first file longer : List ℕ) (n e x y : ℕ) → first ≡ codes "workers 4\ndefine 174\n" ++ block ++ codes "\n" → x ≡ n
    → file ++ rounds 0 e y ≡ first ++ rounds (n + 0) 1 x → longer ≡ file ++ back → longer ≡ load_file n
written_whole first file longer n e x y begins same is gained =
    gained ∙ ap (λ (t : List ℕ). t ++ back)
    (whole_rounds file first e n 1 x y is ∙ ap (λ (t : List ℕ). t ++ rounds n 1 x) (begins ∙ front_is) ∙ ap (λ (z : ℕ). front ++ rounds n 1 z) same)
