-- The pieces of a page, by a name: the list of which `one_list` says that there is one and no other.
use Rattle.std.specs.Prelude.{List}
use Rattle.txt_core.specs.Names.{Bytes}
use Rattle.adp_parse.specs.declared.piece.Piece.{Piece}
use Rattle.adp_parse.specs.Pieces.{ArePiecesOf}
use Rattle.adp_parse.specs.Cutting.{some_pieces}

-- the pieces of a page
pub pieces_of : Bytes → List Piece
pieces_of page = (some_pieces page).0

pub pieces_of-are : (page : Bytes) → ArePiecesOf page (pieces_of page)
unfolding pieces_of
pieces_of-are page = (some_pieces page).1
