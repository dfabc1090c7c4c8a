-- Chunk lines: where one is bad, and where it goes on.
use Rattle.std.proofs.Common.{◌≡◌, ℕ, zero, suc, ◌+◌, ◌*◌, ◌⊎◌, inl, inr, Bool, true, false, List, [], ◌∷◌, ◌++◌, refl, arith, ne_eqb}
use Rattle.std.specs.Char.{digit_value}
use Rattle.std.specs.Prelude.{nat_lt, ◌&&◌, ◌==◌, if◌then◌else◌}
use Rattle.http_req.specs.declared.chunk_line.LineSpot.{LineSpot}
use Rattle.http_req.specs.declared.chunk_line.LineSpot.TheVariants as spot
use Rattle.http_req.specs.declared.chunk_line.LineStep.{LineStep}
use Rattle.http_req.specs.declared.chunk_line.LineStep.TheVariants as step
use Rattle.http_req.specs.declared.chunk_line.ChunkLine.TheVariants as line
use Rattle.http_req.specs.ChunkLines.{line_step, line_on, line_from, chunk_line, BeginsLine}
use Rattle.http_req.proofs.ChunkFacts.{line_more}

-- some bytes behind the text end the line
abbrev Ends : LineSpot → ℕ → ℕ → List ℕ → Type 0
Ends s at n t = (more : List ℕ) × (size : ℕ) × (taken : ℕ) × (line_from s at n (t ++ more) ≡ line.Whole size taken)

-- at each spot a line can be ended
ends_here : (s : LineSpot) (at n : ℕ) → Ends s at n []
ends_here spot.Size zero n = (48 ∷ 13 ∷ 10 ∷ [], 16 * n + 0, 3, refl)
ends_here spot.Size (suc at) n = (13 ∷ 10 ∷ [], n, suc at + 1 + 1, sized (nat_lt (suc at) 15) (suc at == 0) (ne_eqb (suc at) 0 (omega arith)))
  where
    sized : (p z : Bool) → z ≡ false
        → line_on (if p && nat_lt (digit_value 13) 16 then step.Digit (digit_value 13) else if z then step.Bad else step.Go spot.Return) (suc at) n
        (λ to m. line_from to (suc at + 1) m (10 ∷ [])) ≡ line.Whole n (suc at + 1 + 1)
    sized true false e = refl
    sized false false e = refl
    sized p true e = absurd (cc)
ends_here spot.Blanks at n = (13 ∷ 10 ∷ [], n, at + 1 + 1, refl)
ends_here spot.Extension at n = (13 ∷ 10 ∷ [], n, at + 1 + 1, refl)
ends_here spot.Return at n = (10 ∷ [], n, at + 1, refl)

cut_ends : (t : List ℕ) (s : LineSpot) (at n : ℕ) → line_from s at n t ≡ line.Cut → Ends s at n t
cut_ends [] s at n cut = ends_here s at n
cut_ends (b ∷ t) s at n cut = go (λ s at n cut. cut_ends t s at n cut) (line_step s at b) cut
  where
    go : ((s : LineSpot) (at n : ℕ) → line_from s at n t ≡ line.Cut → Ends s at n t)
        → (st : LineStep) → line_on st at n (λ to m. line_from to (at + 1) m t) ≡ line.Cut
        → (more : List ℕ) × (size : ℕ) × (taken : ℕ) × (line_on st at n (λ to m. line_from to (at + 1) m (t ++ more)) ≡ line.Whole size taken)
    go later (step.Digit v) cut = later spot.Size (at + 1) (16 * n + v) cut
    go later (step.Go to) cut = later to (at + 1) n cut
    go later step.End cut = absurd (cc)
    go later step.Bad cut = absurd (cc)

pub cut_begins : (t : List ℕ) → chunk_line t ≡ line.Cut → BeginsLine t
cut_begins t cut = cut_ends t spot.Size 0 0 cut

pub bad_begins_none : (t : List ℕ) → chunk_line t ≡ line.Bad → BeginsLine t → ⊥
bad_begins_none t bad (more, size, taken, is) = go (line_more t more spot.Size 0 0)
  where
    go : ((chunk_line t ≡ line.Cut) ⊎ (chunk_line (t ++ more) ≡ chunk_line t)) → ⊥
    go (inl cut) = absurd (cc)
    go (inr same) = absurd (cc)
