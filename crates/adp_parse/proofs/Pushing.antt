-- A list of pieces that grows at its end, while the page that is left shrinks at its front.
use Rattle.std.proofs.Common.{◌≡◌, List, [], ◌∷◌, ◌++◌, ℕ, sym, ap, subst, ◌∙◌, append_assoc}
use Rattle.adp_parse.specs.declared.piece.Piece.{Piece}
use Rattle.adp_parse.specs.Pieces.{OpensBlock, ArePiecesOf}
use Rattle.adp_parse.specs.Cutting.{front, last_text}
use Rattle.adp_parse.specs.Steps.{FirstBlock, text_of, block_of}

-- behind this list the pieces of the rest make those of the page
abbrev pub Completes : List ℕ → List Piece → List ℕ → Type 0
Completes page list rest = (later : List Piece) → ArePiecesOf rest later → ArePiecesOf page (list ++ later)

-- a block with the text before it
pub next : (page rest before content behind : List ℕ) (list pushed more : List Piece) (piece : Piece) → Completes page list rest → FirstBlock rest before content behind → pushed ≡ list ++ text_of before → piece ≡ block_of content → more ≡ pushed ++ piece ∷ [] → Completes page more behind
next page rest before content behind list pushed more piece so_far found with_text is_block with_block later are =
    let whole : more ++ later ≡ list ++ (text_of before ++ block_of content ∷ later) =
    ap (λ l. l ++ later) (with_block ∙ ap (λ l. l ++ piece ∷ []) with_text ∙ ap (λ p. (list ++ text_of before) ++ p ∷ []) is_block)
    ∙ append_assoc (list ++ text_of before) (block_of content ∷ []) later
    ∙ append_assoc list (text_of before) (block_of content ∷ later) in
    subst (λ l. ArePiecesOf page l) (sym whole) (so_far (text_of before ++ block_of content ∷ later) (front rest before content behind later found are))

-- the last text
pub last : (page rest : List ℕ) (list more : List Piece) → Completes page list rest → ¬ OpensBlock rest [] → more ≡ list ++ text_of rest → ArePiecesOf page more
last page rest list more so_far none with_text = subst (λ l. ArePiecesOf page l) (sym with_text) (so_far (text_of rest) (last_text rest none))
