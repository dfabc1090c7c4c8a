use Rattle.adp_parse.specs.PiecesOf.{pieces_of-are}
use Rattle.adp_parse.proofs.OneList.{the_pieces}
use Rattle.adp_parse.proofs.law.one_list.Goals as goal

pub returns-clause-some : goal.returns-clause-some
returns-clause-some c = pieces_of-are

pub returns-clause-one : goal.returns-clause-one
returns-clause-one c = the_pieces
