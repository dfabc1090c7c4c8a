use Rattle.std.proofs.Common.{length}
use Rattle.adp_parse.proofs.Pushing.{Completes}
use Rattle.adp_parse.proofs.cutting.pieces.Given as goal

abbrev pub invariant-next_block : goal.invariant-next_block
invariant-next_block l = Completes l.fn.page l.list l.rest

abbrev pub decreases-next_block : goal.decreases-next_block
decreases-next_block l = length l.rest
