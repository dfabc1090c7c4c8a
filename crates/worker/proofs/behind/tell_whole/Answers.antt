use Rattle.worker.proofs.behind.tell_whole.Goals as goal

pub written-requires : goal.written-requires
written-requires g c = c.requires

pub returns : goal.returns
returns g c = record {
  stands = λ request inside responds. record { stands = c.written.ensures.stands request responds.0 responds.1 inside };
  counts = c.written.ensures.counts;
  most = λ request inside responds. c.written.ensures.most request responds.0 responds.1 inside;
  blueprint = c.written.ensures.holds.blueprint;
  sound = c.written.ensures.sound;
}
