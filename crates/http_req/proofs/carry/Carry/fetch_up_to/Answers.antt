use Rattle.http_req.proofs.Fetches.{moves_then}
use Rattle.http_req.proofs.carry.Carry.fetch_up_to.Goals as goal

pub returns-in_err-fetch-clause-moves : goal.returns-in_err-fetch-clause-moves
returns-in_err-fetch-clause-moves g c = moves_then c.loop-self.invariant c.fetch.ensures.moves
