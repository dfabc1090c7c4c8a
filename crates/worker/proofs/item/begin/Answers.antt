use Rattle.worker.proofs.item.begin.Goals as goal

pub returns : goal.returns
returns g c = record {
  fresh = c.requires;
  stands = record { stands = c.start_request.ensures.stands };
  visit = c.start_request.ensures.visit;
  counts = c.start_request.ensures.counts;
  most = c.start_request.ensures.most;
  blueprint = c.start_request.ensures.holds.blueprint;
  sound = c.start_request.ensures.sound;
}
