-- Pieces of a text while it is cut.
use Rattle.std.proofs.Common.{◌≡◌, ap, sym, refl, ℕ, ◌<◌, List, [], ◌∷◌, ◌++◌, Bool, true, false, length, append_assoc, append-nil, arith}
use Rattle.std.specs.Prelude.{if◌then◌else◌}
use Rattle.natives.specs.Cutting.{pieces, in_first, is_one_of, split_text}

-- the piece so far in front of the first of those that come
abbrev pub glue : List ℕ → List (List ℕ) → List (List ℕ)
glue piece [] = piece ∷ []
glue piece (next ∷ more) = (piece ++ next) ∷ more

glue_chosen : (cut : Bool) (b : ℕ) (rest : List (List ℕ)) → glue [] (if cut then [] ∷ rest else in_first b rest) ≡ (if cut then [] ∷ rest else in_first b rest)
glue_chosen true b rest = refl
glue_chosen false b [] = refl
glue_chosen false b (p ∷ ps) = refl

-- nothing in front
pub glue_none : (cuts : ℕ → Bool) (t : List ℕ) → glue [] (pieces cuts t) ≡ pieces cuts t
glue_none cuts [] = refl
glue_none cuts (b ∷ t) = glue_chosen (cuts b) b (pieces cuts t)

glue_byte : (piece : List ℕ) (b : ℕ) (rest : List (List ℕ)) → glue piece (in_first b rest) ≡ glue (piece ++ b ∷ []) rest
glue_byte piece b [] = refl
glue_byte piece b (p ∷ ps) = ap (λ (x : List ℕ). x ∷ ps) (sym (append_assoc piece (b ∷ []) p))

-- a byte that cuts ends the piece
pub at_cut : (cuts : ℕ → Bool) (words : List (List ℕ)) (piece : List ℕ) (b : ℕ) (t : List ℕ) → cuts b ≡ true
    → words ++ glue piece (pieces cuts (b ∷ t)) ≡ (words ++ piece ∷ []) ++ glue [] (pieces cuts t)
at_cut cuts words piece b t cut = rw (cut, glue_none cuts t, append-nil piece) (sym (append_assoc words (piece ∷ []) (pieces cuts t)))

-- any other byte is one of it
pub at_byte : (cuts : ℕ → Bool) (words : List (List ℕ)) (piece : List ℕ) (b : ℕ) (t : List ℕ) → cuts b ≡ false
    → words ++ glue piece (pieces cuts (b ∷ t)) ≡ words ++ glue (piece ++ b ∷ []) (pieces cuts t)
at_byte cuts words piece b t kept = rw kept (ap (λ (ps : List (List ℕ)). words ++ ps) (glue_byte piece b (pieces cuts t)))

-- a text that has bytes, cut at some bytes
pub split_cut : (t chars : List ℕ) → 0 < length t → 0 < length chars → pieces (is_one_of chars) t ≡ split_text t chars
split_cut [] chars some cutting = absurd (omega arith)
split_cut (b ∷ t) [] some cutting = absurd (omega arith)
split_cut (b ∷ t) (c ∷ chars) some cutting = refl
