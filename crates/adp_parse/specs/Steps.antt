-- What the steps of a cut give, for the contracts of private functions.
use Rattle.std.specs.Prelude.{List, [], ◌∷◌, ◌++◌, ◌≡◌, ◌==◌, if◌then◌else◌}
use Rattle.txt_core.specs.Names.{Bytes}
use Rattle.adp_parse.specs.declared.piece.Piece.{Piece}
use Rattle.adp_parse.specs.declared.piece.Piece.TheVariants.{Text, Script, Words}
use Rattle.adp_parse.specs.Marks.{opening, closing, Holds}

-- these stand before and behind the first such mark of a text
pub record FirstMark (text mark before behind : Bytes) : Type 0 where
  pub whole : text ≡ before ++ (mark ++ behind)
  pub first : ¬ Holds before mark

-- these stand before, in and behind the first block of a text
pub record FirstBlock (text before content behind : Bytes) : Type 0 where
  pub whole : text ≡ before ++ (opening ++ (content ++ (closing ++ behind)))
  pub first : ¬ Holds before opening
  pub no_end : ¬ Holds content closing

-- the pieces that a text between blocks is: none where it is empty
abbrev pub text_of : Bytes → List Piece
text_of [] = []
text_of (b ∷ bytes) = Text (b ∷ bytes) ∷ []

-- the piece that a block with this content is
abbrev pub block_of : Bytes → Piece
block_of [] = Script []
block_of (b ∷ bytes) = if b == 61 then Words bytes else Script (b ∷ bytes)
