-- The pieces of a page: which list is the right one, said of the list as it stands beside the page.
use Rattle.std.specs.Prelude.{List, [], ◌∷◌, ◌++◌, ◌≡◌, ◌≢◌, codes}
use Rattle.std.specs.List.{flat_map}
use Rattle.txt_core.specs.Names.{Bytes}
use Rattle.adp_parse.specs.declared.piece.Piece.{Piece}
use Rattle.adp_parse.specs.declared.piece.Piece.TheVariants.{Text, Script, Words}
use Rattle.adp_parse.specs.Marks.{opening, closing, Holds}

-- a block as its page has it
abbrev pub block : Bytes → Bytes
block content = opening ++ (content ++ closing)

-- what a block of words has between its marks: `=` and the words
abbrev pub marked : Bytes → Bytes
marked words = codes "=" ++ words

-- a piece as its page has it
abbrev pub written : Piece → Bytes
written (Text text) = text
written (Script script) = block script
written (Words words) = block (marked words)

-- the page that the pieces make: each as it is written, one after another
abbrev pub joined : List Piece → Bytes
joined pieces = flat_map written pieces

-- within the text a `<%` stands that a `%>` behind it closes, be it in the text or after it
pub record OpensBlock (text after : Bytes) : Type 0 where
  pub before : Bytes
  pub behind : Bytes
  pub opens : text ≡ before ++ (opening ++ behind)
  pub closes : Holds (behind ++ after) closing

-- the first of the pieces is a text
abbrev pub BeginsWithText : List Piece → Type 0
BeginsWithText [] = ⊥
BeginsWithText (Text text ∷ later) = Unit {0}
BeginsWithText (Script script ∷ later) = ⊥
BeginsWithText (Words words ∷ later) = ⊥

-- a text between blocks: it isn't empty, no second text follows it, and it opens no block
pub record IsText (text : Bytes) (later : List Piece) : Type 0 where
  pub some : text ≢ []
  pub alone : ¬ BeginsWithText later
  pub plain : ¬ OpensBlock text (joined later)

-- the content of a block of words: nothing in it closes the block
pub record IsWords (words : Bytes) : Type 0 where
  pub no_end : ¬ Holds words closing

-- the content of a script: nothing in it closes the block, and it isn't a block of words
pub record IsScript (script : Bytes) : Type 0 where
  pub no_end : ¬ Holds script closing
  pub unmarked : (words : Bytes) → script ≢ marked words

-- a piece is what it is said to be, where these pieces follow it
abbrev pub IsPiece : Piece → List Piece → Type 0
IsPiece (Text text) later = IsText text later
IsPiece (Script script) later = IsScript script
IsPiece (Words words) later = IsWords words

-- each piece is what it is said to be
abbrev pub EachIsPiece : List Piece → Type 0
EachIsPiece [] = Unit {0}
EachIsPiece (piece ∷ later) = IsPiece piece later × EachIsPiece later

-- the list has the pieces of the page: they make it, and each is what it is said to be
pub record ArePiecesOf (page : Bytes) (pieces : List Piece) : Type 0 where
  pub whole : joined pieces ≡ page
  pub each : EachIsPiece pieces
