-- Bytes of answers, counted one after the other.
use Rattle.std.proofs.Common.{◌≡◌, ℕ, ◌+◌, ◌<◌, ◌≤◌, Bool, true, false, cond, ◌||◌, List, [], ◌∷◌, ◌++◌, length, get_or, take, refl, sym, ap, ◌∙◌, arith}
use Rattle.std.specs.Prelude.{min, nat_le, nat_lt}
use Rattle.std.proofs.lemmas.Bool.{lt-ltb, leb-true, leb-false}
use Rattle.std.proofs.Math.Seq.{take-length}
use Rattle.std.proofs.lemmas.List.{take_more}
use Rattle.std.proofs.lemmas.List.Sums.{sum_by-append}
use Rattle.outside.specs.declared.question.Answer.{Answer}
use Rattle.serving.specs.Connections.{answer_bytes, closes, after_request}
use Rattle.serving.specs.declared.connection.Behind.TheVariants.{GoesOn, Closing, Spent}
use Rattle.serving.specs.Counting.{counted}
use Rattle.worker.specs.Items.{bytes_of}

bytes_more : (xs : List Answer) (i : ℕ) (x : Answer) → i < length xs → x ≡ get_or xs i x → bytes_of (take (i + 1) xs) ≡ bytes_of (take i xs) + answer_bytes x
bytes_more xs i x lt is =
    let t = ap (λ (l : List Answer). bytes_of l) (take_more xs i x lt) in
    let b = sum_by-append answer_bytes (take i xs) (get_or xs i x ∷ []) in
    let c = ap answer_bytes is in
    omega (arith, t, b, c)

-- one answer more
pub counted_more : (before count after i : ℕ) (xs : List Answer) (x : Answer) → i < length xs → x ≡ get_or xs i x
    → count ≡ min (before + bytes_of (take i xs)) 18446744073709551615 → after ≡ counted count x → after ≡ min (before + bytes_of (take (i + 1) xs)) 18446744073709551615
counted_more before count after i xs x lt is at more =
    let e = bytes_more xs i x lt is in omega (arith, e, at, more)

-- and all of them
pub counted_all : (before count : ℕ) (xs : List Answer) (i : ℕ) → i ≡ length xs → count ≡ min (before + bytes_of (take i xs)) 18446744073709551615 → count ≡ min (before + bytes_of xs) 18446744073709551615
counted_all before count xs i is at = at ∙ ap (λ (l : List Answer). min (before + bytes_of l) 18446744073709551615) (ap (λ (n : ℕ). take n xs) is ∙ take-length xs)

-- ---- a count that stands still at its end

capped_by : (n : ℕ) (b : Bool) → nat_le n 18446744073709551615 ≡ b → nat_lt 8388608 (min n 18446744073709551615) ≡ nat_lt 8388608 n
capped_by n true is = let le = leb-true n 18446744073709551615 is in let e : min n 18446744073709551615 ≡ n = omega (arith, le) in ap (λ (m : ℕ). nat_lt 8388608 m) e
capped_by n false is =
    let gt = leb-false n 18446744073709551615 is in
    lt-ltb 8388608 (min n 18446744073709551615) (omega (arith, gt)) ∙ sym (lt-ltb 8388608 n (omega (arith, gt)))

capped : (n : ℕ) → nat_lt 8388608 (min n 18446744073709551615) ≡ nat_lt 8388608 n
capped n = capped_by n (nat_le n 18446744073709551615) refl

pub closes_capped : (asks : Bool) (requests n : ℕ) → closes asks requests (min n 18446744073709551615) ≡ closes asks requests n
closes_capped asks requests n = ap (λ (b : Bool). asks || (nat_le 100 requests || b)) (capped n)

pub after_capped : (asks : Bool) (requests n : ℕ) → after_request asks requests (min n 18446744073709551615) ≡ after_request asks requests n
after_capped asks requests n = ap (λ (b : Bool). cond asks Closing (cond (nat_le 100 requests || b) Spent GoesOn)) (capped n)
