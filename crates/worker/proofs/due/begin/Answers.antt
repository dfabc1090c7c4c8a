use Rattle.worker.proofs.due.begin.Goals as goal

pub returns : goal.returns
returns g c = record {
  stands = record { stands = c.start_script.ensures.stands };
  counts = c.start_script.ensures.counts;
  most = c.start_script.ensures.most;
  blueprint = c.start_script.ensures.holds.blueprint;
  sound = c.start_script.ensures.sound;
}
