-- The file in pieces.
use Rattle.std.proofs.Common.{◌≡◌, ◌<◌, ◌≤◌, ℕ, zero, suc, ◌+◌, ◌-◌, ◌*◌, List, [], ◌++◌, length, codes, append_assoc, append-nil, length-append, arith, ap, sym, ◌∙◌}
use Rattle.load_gen.specs.Load.{next, worker, choice, target_of, get_of, round_of, round, rounds, block, front, back, most_requests, piece_limit}
use Rattle.load_gen.proofs.Rounds.{front_is, rounds_short, whole_rounds}

-- ---- what a piece is

-- the front, and what is behind it
pub front_first : (piece : List ℕ) (left k x : ℕ) → piece ≡ codes "workers 4\ndefine 174\n" ++ block ++ codes "\n"
    → front ++ rounds left k x ++ back ≡ piece ++ (rounds left k x ++ back)
front_first piece left k x is =
    ap (λ (p : List ℕ). p ++ rounds left k x ++ back) (sym (is ∙ front_is)) ∙ append_assoc piece (rounds left k x) back

-- some connections, and what is behind them
pub rounds_first : (piece begun : List ℕ) (left count k x y : ℕ) → count ≤ left → begun ≡ []
    → piece ++ rounds (left - count) (k + count) y ≡ begun ++ rounds (count + (left - count)) k x
    → rounds left k x ++ back ≡ piece ++ (rounds (left - count) (k + count) y ++ back)
rounds_first piece begun left count k x y few empty is =
    let s : left ≡ count + (left - count) = omega (arith, few) in
    ap (λ (m : ℕ). rounds m k x ++ back) s
    ∙ ap (λ (b : List ℕ). b ++ rounds (count + (left - count)) k x ++ back) (sym empty)
    ∙ ap (λ (t : List ℕ). t ++ back) (sym is)
    ∙ append_assoc piece (rounds (left - count) (k + count) y) back

-- the end, and nothing behind it
pub back_last : (piece : List ℕ) (left k x : ℕ) → left ≡ 0 → piece ≡ back → rounds left k x ++ back ≡ piece ++ []
back_last piece left k x none is = ap (λ (m : ℕ). rounds m k x ++ back) none ∙ sym is ∙ sym (append-nil piece)

-- ---- how long it is

round_of_some : (number : ℕ) (input : List ℕ) → 0 < length (round_of number input)
round_of_some number input = simp length-append (omega arith)

rounds_some : (m k x : ℕ) → 0 < m → 0 < length (rounds m k x)
rounds_some zero k x some = elim some [ ]
rounds_some (suc m) k x some =
    let first : 0 < length (round (next x) k) = round_of_some (worker (next x)) (get_of (target_of (choice (next x)) k)) in
    omega (arith, first, length-append (round (next x) k) (rounds m (k + 1) (next x)))

piece_is : (piece begun : List ℕ) (e count k x y : ℕ) → begun ≡ [] → piece ++ rounds 0 e y ≡ begun ++ rounds (count + 0) k x → piece ≡ rounds count k x
piece_is piece begun e count k x y empty is =
    whole_rounds piece begun e count k x y is ∙ ap (λ (b : List ℕ). b ++ rounds count k x) empty

-- some connections have bytes
pub piece_some : (piece begun all : List ℕ) (e count k x y : ℕ) → 0 < count → begun ≡ [] → piece ++ rounds 0 e y ≡ begun ++ rounds (count + 0) k x → piece ≡ [] → all ≡ []
piece_some piece begun all e count k x y some empty is none =
    let long : 0 < length (rounds count k x) = rounds_some count k x some in
    absurd (omega (arith, long, ap (λ (l : List ℕ). length l) (sym (piece_is piece begun e count k x y empty is) ∙ none)))

-- at most 512 of them have so many
pub piece_short : (piece begun : List ℕ) (e count k x y : ℕ) → count ≤ 512 → k + count ≤ most_requests + 1 → begun ≡ []
    → piece ++ rounds 0 e y ≡ begun ++ rounds (count + 0) k x → length piece ≤ piece_limit
piece_short piece begun e count k x y few within empty is =
    let short : length (rounds count k x) ≤ 92 * count = rounds_short count k x (omega (arith, within)) in
    omega (arith, short, few, ap (λ (l : List ℕ). length l) (piece_is piece begun e count k x y empty is))
