use Rattle.rehearse.proofs.Fetching.{fetched_none, fetched_more}
use Rattle.rehearse.proofs.intake.Intake.fetch_bytes.Goals as goal

pub returns-in_err-fetch-clause-fetches : goal.returns-in_err-fetch-clause-fetches
returns-in_err-fetch-clause-fetches g c = fetched_more _ _ _ _ _ _ _ _ _ c.pieces.invariant c.fetch.ensures.fetches

pub returns-then-not-branch-clause-fetches : goal.returns-then-not-branch-clause-fetches
returns-then-not-branch-clause-fetches g c = fetched_more _ _ _ _ _ _ _ _ _ c.pieces.invariant c.fetch.ensures.fetches

pub pieces-init : goal.pieces-init
pieces-init g c = fetched_none _ _ _

pub pieces-preserved : goal.pieces-preserved
pieces-preserved g c = fetched_more _ _ _ _ _ _ _ _ _ c.pieces.invariant c.fetch.ensures.fetches
