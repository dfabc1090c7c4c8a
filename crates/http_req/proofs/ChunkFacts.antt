-- Chunked bodies: what more bytes leave as it is, and that each text is one thing.
use Rattle.std.proofs.Common.{◌≡◌, ◌≢◌, ℕ, zero, suc, ◌+◌, ◌-◌, ◌<◌, ◌≤◌, ◌⊎◌, inl, inr, Bool, true, false, List, [], ◌∷◌, ◌++◌, length, take, drop, refl, sym, ap, ◌∙◌, subst, arith, length-append, length-drop, get_or, add-one, ltb-true, ◌*◌, ◌^◌}
use Rattle.std.proofs.Math.Seq.{drop-cons}
use Rattle.std.proofs.Math.Nat.{pow-suc, pow-le-pow_right}
use Rattle.std.specs.Char.{digit_value}
use Rattle.std.specs.Prelude.{nat_lt, nat_le, ◌&&◌, ◌==◌, if◌then◌else◌}
use Rattle.std.proofs.lemmas.Bool.Decides.{nat_tests}
use Rattle.std.proofs.lemmas.List.{take-append-le, drop-append-le, drop_all}
use Rattle.txt_core.specs.Texts.{is_newline}
use Rattle.http_req.specs.declared.chunk_line.LineSpot.{LineSpot}
use Rattle.http_req.specs.declared.chunk_line.LineSpot.TheVariants as spot
use Rattle.http_req.specs.declared.chunk_line.LineStep.{LineStep}
use Rattle.http_req.specs.declared.chunk_line.LineStep.TheVariants as step
use Rattle.http_req.specs.declared.chunk_line.ChunkLine.{ChunkLine}
use Rattle.http_req.specs.declared.chunk_line.ChunkLine.TheVariants as line
use Rattle.http_req.specs.declared.trailer.TrailerSpot.{TrailerSpot}
use Rattle.http_req.specs.declared.trailer.TrailerSpot.TheVariants as place
use Rattle.http_req.specs.declared.trailer.TrailerStep.{TrailerStep}
use Rattle.http_req.specs.declared.trailer.TrailerStep.TheVariants as move
use Rattle.http_req.specs.declared.trailer.Trailer.{Trailer}
use Rattle.http_req.specs.declared.trailer.Trailer.TheVariants as trailer
use Rattle.http_req.specs.ChunkLines.{is_return, is_space_or_tab, is_text_byte, behind_size, line_step, line_on, line_from, chunk_line}
use Rattle.http_req.specs.Trailers.{trailer_step, trailer_on, trailer_from}
use Rattle.http_req.specs.declared.chunk.DataEnd.{DataEnd}
use Rattle.http_req.specs.declared.chunk.DataEnd.TheVariants.{Ended as ended, Missing as missing, Wrong as wrong}
use Rattle.http_req.specs.Chunks.{data_end, Piece, chunk, last, refused, less, behind_data, behind_line, piece_at, Sent, whole, rejected, partial, put, behind_trailer, trailing, ChunksAt, refuses, ends, trails, continues}

-- ---- chunk lines

-- what is told of a chunk line stands, whatever follows
pub line_more : (t more : List ℕ) (s : LineSpot) (at n : ℕ)
    → (line_from s at n t ≡ line.Cut) ⊎ (line_from s at n (t ++ more) ≡ line_from s at n t)
line_more [] more s at n = inl refl
line_more (b ∷ t) more s at n = go (λ s at n. line_more t more s at n) (line_step s at b)
  where
    go : ((s : LineSpot) (at n : ℕ) → (line_from s at n t ≡ line.Cut) ⊎ (line_from s at n (t ++ more) ≡ line_from s at n t))
        → (st : LineStep) → (line_on st at n (λ to m. line_from to (at + 1) m t) ≡ line.Cut)
        ⊎ (line_on st at n (λ to m. line_from to (at + 1) m (t ++ more)) ≡ line_on st at n (λ to m. line_from to (at + 1) m t))
    go later (step.Digit v) = later spot.Size (at + 1) (16 * n + v)
    go later (step.Go to) = later to (at + 1) n
    go later step.End = inr refl
    go later step.Bad = inr refl

pub line_within : (t : List ℕ) (s : LineSpot) (at n k m : ℕ) → line_from s at n t ≡ line.Whole k m → (at < m) × (m ≤ at + length t)
line_within [] s at n k m e = absurd (cc)
line_within (b ∷ t) s at n k m e = go (λ s at n e. line_within t s at n k m e) (line_step s at b) e
  where
    go : ((s : LineSpot) (at n : ℕ) → line_from s at n t ≡ line.Whole k m → (at < m) × (m ≤ at + length t)) → (st : LineStep) → line_on st at n (λ to m. line_from to (at + 1) m t) ≡ line.Whole k m → (at < m) × (m ≤ at + length (b ∷ t))
    go later (step.Digit v) e = let r = later spot.Size (at + 1) (16 * n + v) e in (omega (arith, r.0), omega (arith, r.1))
    go later (step.Go to) e = let r = later to (at + 1) n e in (omega (arith, r.0), omega (arith, r.1))
    go later step.End e = let is : at + 1 ≡ m = cc in (omega (arith, is), omega (arith, is))
    go later step.Bad e = absurd (cc)

-- ---- trailers

-- What more bytes make of a trailer: a cut one goes on where it was cut, and what else is told of it stands.
abbrev GoesOn : Trailer → Trailer → (TrailerSpot → Trailer) → Type 0
GoesOn first longer rest =
    ((to : TrailerSpot) × (first ≡ trailer.Cut to) × (longer ≡ rest to)) ⊎ (((to : TrailerSpot) → first ≢ trailer.Cut to) × (longer ≡ first))

pub trailer_more : (t more : List ℕ) (s : TrailerSpot) (at : ℕ)
    → GoesOn (trailer_from s at t) (trailer_from s at (t ++ more)) (λ to. trailer_from to (at + length t) more)
trailer_more [] more s at =
    let same : at ≡ at + 0 = omega arith in
    inl (s, refl, ap (λ n. trailer_from s n more) same)
trailer_more (b ∷ t) more s at = go (λ s at. trailer_more t more s at) (trailer_step s b)
  where
    fits : (to : TrailerSpot) → GoesOn (trailer_from to (at + 1) t) (trailer_from to (at + 1) (t ++ more)) (λ last. trailer_from last ((at + 1) + length t) more) → (v : Bool)
        → GoesOn (if v then trailer_from to (at + 1) t else trailer.Crowded) (if v then trailer_from to (at + 1) (t ++ more) else trailer.Crowded)
        (λ last. trailer_from last (at + length (b ∷ t)) more)
    fits to (inl w) true =
        let same : (at + 1) + length t ≡ at + length (b ∷ t) = omega arith in
        inl (w.0, w.1, w.2 ∙ ap (λ n. trailer_from w.0 n more) same)
    fits to (inr w) true = inr w
    fits to later false = inr (λ last e. cc, refl)

    go : ((s : TrailerSpot) (at : ℕ) → GoesOn (trailer_from s at t) (trailer_from s at (t ++ more)) (λ to. trailer_from to (at + length t) more))
        → (st : TrailerStep)
        → GoesOn (trailer_on st at (λ to. trailer_from to (at + 1) t)) (trailer_on st at (λ to. trailer_from to (at + 1) (t ++ more)))
        (λ to. trailer_from to (at + length (b ∷ t)) more)
    go later (move.Go to) = fits to (later to (at + 1)) (nat_lt (at + 1) 16384)
    go later move.End = inr (λ to e. cc, refl)
    go later move.Bad = inr (λ to e. cc, refl)

pub trailer_within : (t : List ℕ) (s : TrailerSpot) (at m : ℕ) → trailer_from s at t ≡ trailer.Whole m → (at < m) × (m ≤ at + length t)
trailer_within [] s at m e = absurd (cc)
trailer_within (b ∷ t) s at m e = go (λ s at e. trailer_within t s at m e) (trailer_step s b) e
  where
    fits : (to : TrailerSpot) → (trailer_from to (at + 1) t ≡ trailer.Whole m → (at + 1 < m) × (m ≤ (at + 1) + length t)) → (v : Bool)
        → (if v then trailer_from to (at + 1) t else trailer.Crowded) ≡ trailer.Whole m → (at < m) × (m ≤ at + length (b ∷ t))
    fits to later true e = let r = later e in (omega (arith, r.0), omega (arith, r.1))
    fits to later false e = absurd (cc)

    go : ((s : TrailerSpot) (at : ℕ) → trailer_from s at t ≡ trailer.Whole m → (at < m) × (m ≤ at + length t)) → (st : TrailerStep)
        → trailer_on st at (λ to. trailer_from to (at + 1) t) ≡ trailer.Whole m → (at < m) × (m ≤ at + length (b ∷ t))
    go later (move.Go to) e = fits to (later to (at + 1)) (nat_lt (at + 1) 16384) e
    go later move.End e = let is : at + 1 ≡ m = cc in (omega (arith, is), omega (arith, is))
    go later move.Bad e = absurd (cc)

-- ---- chunks

data_more : (d more : List ℕ) → (data_end d ≡ missing) ⊎ (data_end (d ++ more) ≡ data_end d)
data_more [] more = inl refl
data_more (a ∷ []) more = go (is_return a) refl more
  where
    go : (v : Bool) → is_return a ≡ v → (more : List ℕ) → (data_end (a ∷ []) ≡ missing) ⊎ (data_end (a ∷ more) ≡ data_end (a ∷ []))
    go true is more = inl (rw is refl)
    go false is [] = inr refl
    go false is (c ∷ more) = inr (rw is refl)
data_more (a ∷ b ∷ d) more = inr refl

piece_data : (k n : ℕ) (v w : DataEnd) → (v ≡ missing) ⊎ (w ≡ v) → (behind_data k n v ≡ less) ⊎ (behind_data k n w ≡ behind_data k n v)
piece_data k n v w (inl is) = inl (ap (behind_data k n) is)
piece_data k n v w (inr is) = inr (ap (behind_data k n) is)

le_or_more : (a b : ℕ) → (a ≤ b) ⊎ (b < a)
le_or_more a b = go (nat_lt b a) refl
  where
    go : (v : Bool) → nat_lt b a ≡ v → (a ≤ b) ⊎ (b < a)
    go true is = inr (grind (arith, nat_tests))
    go false is = inl (grind (arith, nat_tests))

-- what stands behind the data stays, or isn't there
drop_more : (k : ℕ) (t more : List ℕ) → (data_end (drop k t) ≡ missing) ⊎ (data_end (drop k (t ++ more)) ≡ data_end (drop k t))
drop_more k t more = elim (le_or_more k (length t)) [
  | inl within ↦ rw (drop-append-le k t more within) (data_more (drop k t) more)
  | inr past ↦ inl (ap data_end (drop_all k t (omega (arith, past))))
]

-- what is told of the front of a text stands, whatever follows
pub piece_more : (sum : ℕ) (t more : List ℕ) → (piece_at sum t ≡ less) ⊎ (piece_at sum (t ++ more) ≡ piece_at sum t)
unfolding piece_at
piece_more sum t more = elim (line_more t more spot.Size 0 0) [
  | inl open_line ↦ inl (ap (behind_line sum t) open_line)
  | inr same ↦ rw same (go (chunk_line t))
]
  where
    go : (l : ChunkLine) → (behind_line sum t l ≡ less) ⊎ (behind_line sum (t ++ more) l ≡ behind_line sum t l)
    go line.Bad = inr refl
    go line.Cut = inr refl
    go (line.Whole size taken) = over (nat_lt 8388608 (sum + size))
      where
        zeros : (v : Bool) → ((if v then last taken else behind_data taken size (data_end (drop (taken + size) t))) ≡ less)
            ⊎ ((if v then last taken else behind_data taken size (data_end (drop (taken + size) (t ++ more)))) ≡ (if v then last taken else behind_data taken size (data_end (drop (taken + size) t))))
        zeros true = inr refl
        zeros false = piece_data taken size _ _ (drop_more (taken + size) t more)

        over : (v : Bool) → ((if v then refused 413 else if size == 0 then last taken else behind_data taken size (data_end (drop (taken + size) t))) ≡ less)
            ⊎ ((if v then refused 413 else if size == 0 then last taken else behind_data taken size (data_end (drop (taken + size) (t ++ more))))
            ≡ (if v then refused 413 else if size == 0 then last taken else behind_data taken size (data_end (drop (taken + size) t))))
        over true = inr refl
        over false = zeros (size == 0)

-- the data of a chunk, its CR LF and its line stand within the text
pub record ChunkFits (sum : ℕ) (t : List ℕ) (k n : ℕ) : Type 0 where
  pub line_some : 0 < k
  pub data_some : 0 < n
  pub within : k + n + 2 ≤ length t
  pub sum_fits : sum + n ≤ 8388608

ended_within : (d : List ℕ) → data_end d ≡ ended → 2 ≤ length d
ended_within [] e = absurd (cc)
ended_within (a ∷ []) e = go (is_return a) e
  where
    go : (v : Bool) → (if v then missing else wrong) ≡ ended → 2 ≤ length (a ∷ [])
    go true e = absurd (cc)
    go false e = absurd (cc)
ended_within (a ∷ b ∷ d) e = omega arith

pub chunk_fits : (sum : ℕ) (t : List ℕ) (k n : ℕ) → piece_at sum t ≡ chunk k n → ChunkFits sum t k n
unfolding piece_at
chunk_fits sum t k n e = go (chunk_line t) refl e
  where
    go : (l : ChunkLine) → chunk_line t ≡ l → behind_line sum t l ≡ chunk k n → ChunkFits sum t k n
    go line.Bad is e = absurd (cc)
    go line.Cut is e = absurd (cc)
    go (line.Whole size taken) is e = over (nat_lt 8388608 (sum + size)) refl e
      where
        at_end : (d : DataEnd) → data_end (drop (taken + size) t) ≡ d → nat_lt 8388608 (sum + size) ≡ false → (size == 0) ≡ false → behind_data taken size d ≡ chunk k n → ChunkFits sum t k n
        at_end ended there small some e =
            let k_is : taken ≡ k = cc in
            let n_is : size ≡ n = cc in
            let line_in = line_within t spot.Size 0 0 size taken is in
            let two = ended_within (drop (taken + size) t) there in
            let small_is : sum + size ≤ 8388608 = grind (arith, nat_tests) in
            let some_is : 0 < size = grind (arith, nat_tests) in
            record {
              line_some = omega (arith, k_is, line_in.0);
              data_some = omega (arith, n_is, some_is);
              within = omega (arith, k_is, n_is, two, length-drop (taken + size) t);
              sum_fits = omega (arith, n_is, small_is);
            }
        at_end missing there small some e = absurd (cc)
        at_end wrong there small some e = absurd (cc)

        zeros : (v : Bool) → (size == 0) ≡ v → nat_lt 8388608 (sum + size) ≡ false → (if v then last taken else behind_data taken size (data_end (drop (taken + size) t))) ≡ chunk k n → ChunkFits sum t k n
        zeros true some small e = absurd (cc)
        zeros false some small e = at_end (data_end (drop (taken + size) t)) refl small some e

        over : (v : Bool) → nat_lt 8388608 (sum + size) ≡ v → (if v then refused 413 else if size == 0 then last taken else behind_data taken size (data_end (drop (taken + size) t))) ≡ chunk k n → ChunkFits sum t k n
        over true small e = absurd (cc)
        over false small e = zeros (size == 0) refl small e

pub last_fits : (sum : ℕ) (t : List ℕ) (k : ℕ) → piece_at sum t ≡ last k → k ≤ length t
unfolding piece_at
last_fits sum t k e = go (chunk_line t) refl e
  where
    go : (l : ChunkLine) → chunk_line t ≡ l → behind_line sum t l ≡ last k → k ≤ length t
    go line.Bad is e = absurd (cc)
    go line.Cut is e = absurd (cc)
    go (line.Whole size taken) is e = over (nat_lt 8388608 (sum + size)) e
      where
        at_end : (d : DataEnd) → behind_data taken size d ≡ last k → k ≤ length t
        at_end ended e = absurd (cc)
        at_end missing e = absurd (cc)
        at_end wrong e = absurd (cc)

        zeros : (v : Bool) → (if v then last taken else behind_data taken size (data_end (drop (taken + size) t))) ≡ last k → k ≤ length t
        zeros true e = let is_k : taken ≡ k = cc in omega (arith, is_k, line_within t spot.Size 0 0 size taken is)
        zeros false e = at_end (data_end (drop (taken + size) t)) e

        over : (v : Bool) → (if v then refused 413 else if size == 0 then last taken else behind_data taken size (data_end (drop (taken + size) t))) ≡ last k → k ≤ length t
        over true e = absurd (cc)
        over false e = zeros (size == 0) e

-- ---- each text is one thing

pub chunks_one : (sum : ℕ) (t : List ℕ) (a b : Sent) → ChunksAt sum t a → ChunksAt sum t b → a ≡ b
chunks_one sum t a b (refuses s e) (refuses s' e') = cc
chunks_one sum t a b (refuses s e) (ends e') = absurd (cc)
chunks_one sum t a b (refuses s e) (trails k e') = absurd (cc)
chunks_one sum t a b (refuses s e) (continues k n r e' c') = absurd (cc)
chunks_one sum t a b (ends e) (refuses s' e') = absurd (cc)
chunks_one sum t a b (ends e) (ends e') = refl
chunks_one sum t a b (ends e) (trails k e') = absurd (cc)
chunks_one sum t a b (ends e) (continues k n r e' c') = absurd (cc)
chunks_one sum t a b (trails k e) (refuses s' e') = absurd (cc)
chunks_one sum t a b (trails k e) (ends e') = absurd (cc)
chunks_one sum t a b (trails k e) (trails k' e') = let same : k ≡ k' = cc in ap (λ n. trailing (drop n t)) same
chunks_one sum t a b (trails k e) (continues k' n r e' c') = absurd (cc)
chunks_one sum t a b (continues k n r e c) (refuses s' e') = absurd (cc)
chunks_one sum t a b (continues k n r e c) (ends e') = absurd (cc)
chunks_one sum t a b (continues k n r e c) (trails k' e') = absurd (cc)
chunks_one sum t a b (continues k n r e c) (continues k' n' r' e' c') =
    let line_same : k ≡ k' = cc in
    let size_same : n ≡ n' = cc in
    let there : ChunksAt (sum + n) (drop (k + n + 2) t) r' =
    subst (λ i. ChunksAt (sum + i) (drop (k + i + 2) t) r') (sym size_same) (subst (λ i. ChunksAt (sum + n') (drop (i + n' + 2) t) r') (sym line_same) c') in
    let rest : r ≡ r' = chunks_one (sum + n) (drop (k + n + 2) t) r r' c there in
    rw (sym line_same, sym size_same, sym rest) refl

pub chunks_some : (most sum : ℕ) (t : List ℕ) → length t ≤ most → (s : Sent) × ChunksAt sum t s
chunks_some zero sum t within = go (piece_at sum t) refl
  where
    go : (p : Piece) → piece_at sum t ≡ p → (s : Sent) × ChunksAt sum t s
    go (refused status) is = (rejected status, refuses status is)
    go less is = (partial, ends is)
    go (last k) is = (trailing (drop k t), trails k is)
    go (chunk k n) is = absurd (omega (arith, within, (chunk_fits sum t k n is).within))
chunks_some (suc most) sum t within = go (λ n d short. chunks_some most n d short) (piece_at sum t) refl
  where
    go : ((n : ℕ) (d : List ℕ) → length d ≤ most → (s : Sent) × ChunksAt n d s) → (p : Piece) → piece_at sum t ≡ p → (s : Sent) × ChunksAt sum t s
    go later (refused status) is = (rejected status, refuses status is)
    go later less is = (partial, ends is)
    go later (last k) is = (trailing (drop k t), trails k is)
    go later (chunk k n) is =
        let fits = chunk_fits sum t k n is in
        let rest = later (sum + n) (drop (k + n + 2) t) (omega (arith, within, length-drop (k + n + 2) t, fits.within, fits.line_some)) in
        (put (take n (drop k t)) rest.0, continues k n rest.0 is rest.1)

-- ---- more bytes behind a chunked body

-- what a text is stays so whatever follows, if it is whole or refused; so many more bytes are left behind it
abbrev pub with_more : ℕ → Sent → Sent
with_more more (whole body left) = whole body (left + more)
with_more more (rejected status) = rejected status
with_more more partial = partial

put_more : (d : List ℕ) (more : ℕ) (s : Sent) → with_more more (put d s) ≡ put d (with_more more s)
put_more d more (whole body left) = refl
put_more d more (rejected status) = refl
put_more d more partial = refl

put_partial : (d : List ℕ) (s : Sent) → s ≡ partial → put d s ≡ partial
put_partial d s e = rw e refl

trailing_more : (t more : List ℕ) → (trailing t ≡ partial) ⊎ (trailing (t ++ more) ≡ with_more (length more) (trailing t))
trailing_more t more = elim (trailer_more t more place.Begin 0) [
  | inl w ↦ inl (ap (behind_trailer (length t)) w.1)
  | inr w ↦ inr (ap (behind_trailer (length (t ++ more))) w.1 ∙ go (trailer_from place.Begin 0 t) refl w.0)
]
  where
    go : (r : Trailer) → trailer_from place.Begin 0 t ≡ r → ((to : TrailerSpot) → r ≢ trailer.Cut to)
        → behind_trailer (length (t ++ more)) r ≡ with_more (length more) (behind_trailer (length t) r)
    go (trailer.Whole k) is never =
        let within = trailer_within t place.Begin 0 k is in
        let sizes : length (t ++ more) - k ≡ (length t - k) + length more = omega (arith, length-append t more, within.1) in
        ap (λ n. whole [] n) sizes
    go trailer.Bad is never = refl
    go trailer.Crowded is never = refl
    go (trailer.Cut at) is never = absurd (never at refl)

pub chunks_more : (sum : ℕ) (t more : List ℕ) (s : Sent) → s ≢ partial → ChunksAt sum t s → ChunksAt sum (t ++ more) (with_more (length more) s)
chunks_more sum t more s decided (refuses status e) = elim (piece_more sum t more) [
  | inl open_piece ↦ absurd (cc)
  | inr same ↦ refuses status (same ∙ e)
]
chunks_more sum t more s decided (ends e) = absurd (decided refl)
chunks_more sum t more s decided (trails k e) = elim (piece_more sum t more) [
  | inl open_piece ↦ absurd (cc)
  | inr same ↦
      let within = last_fits sum t k e in
      let parts : drop k (t ++ more) ≡ drop k t ++ more = drop-append-le k t more within in
      elim (trailing_more (drop k t) more) [
        | inl open_trailer ↦ absurd (decided open_trailer)
        | inr is ↦ subst (ChunksAt sum (t ++ more)) (ap trailing parts ∙ is) (trails k (same ∙ e))
      ]
]
chunks_more sum t more s decided (continues k n r e c) = elim (piece_more sum t more) [
  | inl open_piece ↦ absurd (cc)
  | inr same ↦
      let fits = chunk_fits sum t k n e in
      let rest = chunks_more (sum + n) (drop (k + n + 2) t) more r (λ is. decided (put_partial (take n (drop k t)) r is)) c in
      let parts : drop (k + n + 2) (t ++ more) ≡ drop (k + n + 2) t ++ more = drop-append-le (k + n + 2) t more fits.within in
      let there : ChunksAt (sum + n) (drop (k + n + 2) (t ++ more)) (with_more (length more) r) =
      subst (λ (x : List ℕ). ChunksAt (sum + n) x (with_more (length more) r)) (sym parts) rest in
      let bytes : take n (drop k (t ++ more)) ≡ take n (drop k t) =
      ap (take n) (drop-append-le k t more (omega (arith, fits.within))) ∙ take-append-le n (drop k t) more (omega (arith, length-drop k t, fits.within)) in
      subst (ChunksAt sum (t ++ more)) (ap (λ (d : List ℕ). put d (with_more (length more) r)) bytes ∙ sym (put_more (take n (drop k t)) (length more) r))
      (continues k n (with_more (length more) r) (same ∙ e) there)
]

put_whole : (d : List ℕ) (s : Sent) (body : List ℕ) (left : ℕ) → put d s ≡ whole body left → (rest : List ℕ) × (s ≡ whole rest left)
put_whole d (whole rest n) body left e = (rest, let is : n ≡ left = cc in ap (λ k. whole rest k) is)
put_whole d (rejected status) body left e = absurd (cc)
put_whole d partial body left e = absurd (cc)

trailing_left : (t body : List ℕ) (left : ℕ) → trailing t ≡ whole body left → left ≤ length t
trailing_left t body left e = go (trailer_from place.Begin 0 t) e
  where
    go : (r : Trailer) → behind_trailer (length t) r ≡ whole body left → left ≤ length t
    go (trailer.Whole k) e = let is : length t - k ≡ left = cc in omega (arith, is)
    go trailer.Bad e = absurd (cc)
    go trailer.Crowded e = absurd (cc)
    go (trailer.Cut at) e = absurd (cc)

-- no more is left than there is
pub chunks_left : (sum : ℕ) (t : List ℕ) (s : Sent) → ChunksAt sum t s → (body : List ℕ) (left : ℕ) → s ≡ whole body left → left ≤ length t
chunks_left sum t s (refuses status e) body left is = absurd (cc)
chunks_left sum t s (ends e) body left is = absurd (cc)
chunks_left sum t s (trails k e) body left is = omega (arith, trailing_left (drop k t) body left is, length-drop k t)
chunks_left sum t s (continues k n r e c) body left is =
    let inner = put_whole (take n (drop k t)) r body left is in
    omega (arith, chunks_left (sum + n) (drop (k + n + 2) t) r c inner.0 left inner.1, length-drop (k + n + 2) t)

-- ---- a byte at a time

pub line_next : (t : List ℕ) (i : ℕ) (s : LineSpot) (at n : ℕ) (st : LineStep) → i < length t → st ≡ line_step s at (get_or t i 0)
    → line_from s at n (drop i t) ≡ line_on st at n (λ to m. line_from to (at + 1) m (drop (i + 1) t))
line_next t i s at n st inside is =
    let parts : drop i t ≡ get_or t i 0 ∷ drop (i + 1) t = rw add-one (drop-cons t i 0 inside) in
    ap (line_from s at n) parts ∙ ap (λ x. line_on x at n (λ to m. line_from to (at + 1) m (drop (i + 1) t))) (sym is)

pub trailer_next : (t : List ℕ) (i : ℕ) (s : TrailerSpot) (at : ℕ) (st : TrailerStep) → i < length t → st ≡ trailer_step s (get_or t i 0)
    → trailer_from s at (drop i t) ≡ trailer_on st at (λ to. trailer_from to (at + 1) (drop (i + 1) t))
trailer_next t i s at st inside is =
    let parts : drop i t ≡ get_or t i 0 ∷ drop (i + 1) t = rw add-one (drop-cons t i 0 inside) in
    ap (trailer_from s at) parts ∙ ap (λ x. trailer_on x at (λ to. trailer_from to (at + 1) (drop (i + 1) t))) (sym is)

pub line_ends : (t : List ℕ) (i : ℕ) (s : LineSpot) (at n : ℕ) → length t ≤ i → line_from s at n (drop i t) ≡ line.Cut
line_ends t i s at n past = ap (line_from s at n) (drop_all i t past)

pub trailer_ends : (t : List ℕ) (i : ℕ) (s : TrailerSpot) (at : ℕ) → length t ≤ i → trailer_from s at (drop i t) ≡ trailer.Cut s
trailer_ends t i s at past = ap (trailer_from s at) (drop_all i t past)

-- where a digit of the size stands, and what it adds
pub record DigitStep (s : LineSpot) (at v : ℕ) : Type 0 where
  pub spot_is : s ≡ spot.Size
  pub early : at < 15
  pub value : v < 16

behind_size_no_digit : (at b v : ℕ) → behind_size at b ≡ step.Digit v → ⊥
behind_size_no_digit at b v e = go (is_return b) (nat_le 1022 at) (is_space_or_tab b) (b == 59) e
  where
    go : (r f k c : Bool) → (if r then step.Go spot.Return else if f then step.Bad else if k then step.Go spot.Blanks else if c then step.Go spot.Extension else step.Bad) ≡ step.Digit v → ⊥
    go true f k c e = cc
    go false true k c e = cc
    go false false true c e = cc
    go false false false true e = cc
    go false false false false e = cc

pub digit_step : (s : LineSpot) (at b v : ℕ) → line_step s at b ≡ step.Digit v → DigitStep s at v
digit_step spot.Size at b v e = go (nat_lt at 15) (nat_lt (digit_value b) 16) refl refl e
  where
    first : (z : Bool) → (if z then step.Bad else behind_size at b) ≡ step.Digit v → ⊥
    first true e = cc
    first false e = behind_size_no_digit at b v e

    go : (p q : Bool) → nat_lt at 15 ≡ p → nat_lt (digit_value b) 16 ≡ q
        → (if p && q then step.Digit (digit_value b) else if at == 0 then step.Bad else behind_size at b) ≡ step.Digit v → DigitStep spot.Size at v
    go true true early small e =
        let v_is : digit_value b ≡ v = cc in
        let small_is : digit_value b < 16 = ltb-true (digit_value b) 16 small in
        record { spot_is = refl; early = ltb-true at 15 early; value = omega (arith, v_is, small_is) }
    go true false early small e = absurd (first (at == 0) e)
    go false q early small e = absurd (first (at == 0) e)
digit_step spot.Blanks at b v e = absurd (behind_size_no_digit at b v e)
digit_step spot.Extension at b v e = absurd (go (is_return b) (nat_lt at 1022 && is_text_byte b) e)
  where
    go : (r f : Bool) → (if r then step.Go spot.Return else if f then step.Go spot.Extension else step.Bad) ≡ step.Digit v → ⊥
    go true f e = cc
    go false true e = cc
    go false false e = cc
digit_step spot.Return at b v e = absurd (go (is_newline b) e)
  where
    go : (r : Bool) → (if r then step.End else step.Bad) ≡ step.Digit v → ⊥
    go true e = cc
    go false e = cc

-- with a digit more the size is below the next power, and fits
pub size_grows : (at n v : ℕ) → n < 16 ^ at → v < 16 → at < 15 → (16 * n + v < 16 ^ (at + 1)) × (16 * n + v < 1152921504606846976)
size_grows at n v small digit early =
    let next : 16 ^ (at + 1) ≡ 16 ^ at * 16 = rw add-one (pow-suc 16 at) in
    let some : 0 < 16 = omega arith in
    let few : at + 1 ≤ 15 = omega (arith, early) in
    let most : 16 ^ (at + 1) ≤ 16 ^ 15 = pow-le-pow_right some few in
    let all : 16 ^ 15 ≡ 1152921504606846976 = refl in
    (omega (arith, next, small, digit), omega (arith, next, small, digit, most, all))

behind_size_no_size : (at b : ℕ) → behind_size at b ≡ step.Go spot.Size → ⊥
behind_size_no_size at b e = go (is_return b) (nat_le 1022 at) (is_space_or_tab b) (b == 59) e
  where
    go : (r f k c : Bool) → (if r then step.Go spot.Return else if f then step.Bad else if k then step.Go spot.Blanks else if c then step.Go spot.Extension else step.Bad) ≡ step.Go spot.Size → ⊥
    go true f k c e = cc
    go false true k c e = cc
    go false false true c e = cc
    go false false false true e = cc
    go false false false false e = cc

-- nothing but a digit leads to where the size is
pub never_size : (s : LineSpot) (at b : ℕ) (to : LineSpot) → line_step s at b ≡ step.Go to → to ≢ spot.Size
never_size s at b spot.Blanks e = λ is. cc
never_size s at b spot.Extension e = λ is. cc
never_size s at b spot.Return e = λ is. cc
never_size s at b spot.Size e = λ is. no s e
  where
    first : (p z : Bool) → (if p then step.Digit (digit_value b) else if z then step.Bad else behind_size at b) ≡ step.Go spot.Size → ⊥
    first true z e = cc
    first false true e = cc
    first false false e = behind_size_no_size at b e

    second : (r f : Bool) → (if r then step.Go spot.Return else if f then step.Go spot.Extension else step.Bad) ≡ step.Go spot.Size → ⊥
    second true f e = cc
    second false true e = cc
    second false false e = cc

    third : (r : Bool) → (if r then step.End else step.Bad) ≡ step.Go spot.Size → ⊥
    third true e = cc
    third false e = cc

    no : (s : LineSpot) → line_step s at b ≡ step.Go spot.Size → ⊥
    no spot.Size e = first (nat_lt at 15 && nat_lt (digit_value b) 16) (at == 0) e
    no spot.Blanks e = behind_size_no_size at b e
    no spot.Extension e = second (is_return b) (nat_lt at 1022 && is_text_byte b) e
    no spot.Return e = third (is_newline b) e
