use Rattle.worker.proofs.eval.begin.Goals as goal

pub returns : goal.returns
returns g c = record {
  stands = record { stands = c.start_define.ensures.stands };
  steps = c.start_define.ensures.steps;
  most = c.start_define.ensures.most;
  blueprint = c.start_define.ensures.holds.blueprint;
  sound = c.start_define.ensures.sound;
}
