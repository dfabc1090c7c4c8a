use Rattle.worker.proofs.run.go_on.Goals as goal

pub returns : goal.returns
returns g c = record {
  step = c.resume.ensures.step;
  counts = c.resume.ensures.counts;
  most = c.resume.ensures.most;
  same = c.resume.ensures.same;
  blueprint = c.resume.ensures.holds.blueprint;
  sound = c.resume.ensures.sound;
  falls = c.resume.ensures.falls;
}
