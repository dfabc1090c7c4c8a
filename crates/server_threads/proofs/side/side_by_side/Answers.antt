use Rattle.server_threads.proofs.side.side_by_side.Goals as goal

pub returns-clause-parts : goal.returns-clause-parts
returns-clause-parts g c = c.both.ensures.parts.each
