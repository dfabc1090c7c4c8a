-- Each page has a list of pieces: those in front of its first block, that block, and those of the rest.
use Rattle.std.proofs.Common.{◌≡◌, ◌≢◌, ℕ, zero, suc, ◌<◌, ◌≤◌, inl, inr, ⊎_elim, List, [], ◌∷◌, ◌++◌, length, refl, sym, ap, subst, ◌∙◌, arith, append_assoc, append-nil, length-append}
use Rattle.std.proofs.lemmas.Bool.{cases_eq, eq-eqb, ne_eqb}
use Rattle.txt_core.specs.Names.{Bytes}
use Rattle.adp_parse.specs.declared.piece.Piece.{Piece}
use Rattle.adp_parse.specs.declared.piece.Piece.TheVariants.{Script, Words}
use Rattle.adp_parse.specs.Marks.{opening, closing, Holds}
use Rattle.adp_parse.specs.Pieces.{block, marked, written, joined, OpensBlock, BeginsWithText, IsPiece, ArePiecesOf}
use Rattle.adp_parse.specs.Finding.{holds-later, closing_differs, no_opening, first_block}
use Rattle.adp_parse.specs.Steps.{FirstBlock, text_of, block_of}

-- a piece is a block with this content
pub record IsBlock (content : Bytes) (piece : Piece) : Type 0 where
  pub as_written : written piece ≡ block content
  pub stands : (later : List Piece) → IsPiece piece later
  pub no_text : (later : List Piece) → ¬ BeginsWithText (piece ∷ later)

words_block : (words : Bytes) → ¬ Holds (marked words) closing → IsBlock (marked words) (Words words)
words_block words none = record {
  as_written = refl;
  stands = λ later. record { no_end = λ h. none (holds-later 37 62 closing_differs 61 words h) };
  no_text = λ later h. h;
}

script_block : (script : Bytes) → ¬ Holds script closing → ((words : Bytes) → script ≢ marked words) → IsBlock script (Script script)
script_block script none unmarked = record {
  as_written = refl;
  stands = λ later. record { no_end = none; unmarked = unmarked };
  no_text = λ later h. h;
}

pub block_of-is : (content : Bytes) → ¬ Holds content closing → IsBlock content (block_of content)
block_of-is [] none = script_block [] none (λ words e. cc)
block_of-is (b ∷ bytes) none =
    ⊎_elim
    (λ (is : b ≡ 61).
    rw (eq-eqb b 61 is)
    (subst
    (λ x. IsBlock (x ∷ bytes) (Words bytes))
    (sym is)
    (words_block bytes (subst (λ x. ¬ Holds (x ∷ bytes) closing) is none))))
    (λ (other : b ≢ 61). rw (ne_eqb b 61 other) (script_block (b ∷ bytes) none (λ words e. other (cc))))
    (cases_eq b 61)

-- a text that opens no block is the pieces of its page
pub last_text : (page : Bytes) → ¬ OpensBlock page [] → ArePiecesOf page (text_of page)
last_text [] none = record { whole = refl; each = tt }
last_text (b ∷ page) none = record {
  whole = append-nil (b ∷ page);
  each = (record { some = λ e. cc; alone = λ h. h; plain = none }, tt);
}

-- a block in front of the pieces of the rest
block_in_front : (content behind : Bytes) (later : List Piece) → ¬ Holds content closing → ArePiecesOf behind later → ArePiecesOf (block content ++ behind) (block_of content ∷ later)
block_in_front content behind later none rest =
    let is = block_of-is content none in record {
      whole = ap (λ t. t ++ joined later) is.as_written ∙ ap (λ t. block content ++ t) rest.whole;
      each = (is.stands later, rest.each);
    }

-- a text in front of them
text_in_front : (text behind : Bytes) (later : List Piece) → ¬ BeginsWithText later → ¬ Holds text opening → ArePiecesOf behind later → ArePiecesOf (text ++ behind) (text_of text ++ later)
text_in_front [] behind later alone none rest = rest
text_in_front (b ∷ text) behind later alone none rest = record {
  whole = ap (λ t. (b ∷ text) ++ t) rest.whole;
  each = (record { some = λ e. cc; alone = alone; plain = no_opening (b ∷ text) (joined later) none }, rest.each);
}

-- the pieces of a page, from those of what stands behind its first block
pub front : (page before content behind : Bytes) (later : List Piece) → FirstBlock page before content behind → ArePiecesOf behind later → ArePiecesOf page (text_of before ++ block_of content ∷ later)
front page before content behind later found rest =
    let is = block_of-is content found.no_end in
    let made = text_in_front before (block content ++ behind) (block_of content ∷ later) (is.no_text later) found.first (block_in_front content behind later found.no_end rest) in
    let whole : before ++ (block content ++ behind) ≡ page = ap (λ t. before ++ (opening ++ t)) (append_assoc content closing behind) ∙ sym found.whole in
    subst (λ p. ArePiecesOf p (text_of before ++ block_of content ∷ later)) whole made

-- what stands behind the first block is shorter than the page
pub shorter : (page before content behind : Bytes) → FirstBlock page before content behind → length behind < length page
shorter page before content behind found =
    omega (
      arith,
      ap length found.whole,
      length-append before (opening ++ (content ++ (closing ++ behind))),
      length-append content (closing ++ behind),
    )

-- a page has pieces where each shorter one has
from_shorter : (page : Bytes) → ((rest : Bytes) → length rest < length page → (list : List Piece) × ArePiecesOf rest list) → (list : List Piece) × ArePiecesOf page list
from_shorter page of_rest = elim (first_block page) [
  | inl found ↦
      let rest = of_rest found.2 (shorter page found.0 found.1 found.2 found.3) in
      (text_of found.0 ++ block_of found.1 ∷ rest.0, front page found.0 found.1 found.2 rest.0 found.3 rest.1)
  | inr none ↦ (text_of page, last_text page none)
]

-- pages of at most this many bytes have pieces
some_within : (room : ℕ) (page : Bytes) → length page ≤ room → (list : List Piece) × ArePiecesOf page list
some_within zero page fits = from_shorter page (λ rest less. absurd (omega arith))
some_within (suc room) page fits = from_shorter page (λ rest less. some_within room rest (omega arith))

-- each page has pieces
pub some_pieces : (page : Bytes) → (list : List Piece) × ArePiecesOf page list
some_pieces page = some_within (length page) page (omega arith)
