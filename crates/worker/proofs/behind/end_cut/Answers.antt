use Rattle.std.proofs.Common.{◌+◌, refl}
use Rattle.natives.specs.Names.{names_of}
use Rattle.ictl.specs.Interps.{taken}
use Rattle.worker.specs.Clean.{edition_in}
use Rattle.worker.proofs.Requests.{unwritten_same}
use Rattle.worker.proofs.behind.end_cut.Goals as goal

pub written-requires : goal.written-requires
written-requires g c = c.requires

pub returns-clause-cut : goal.returns-clause-cut
returns-clause-cut g c =
    let names = names_of c.args.natives.now in
    let i = c.args.run.now.interp in
    let j = c.written.new.self.interp in
    let unwritten = c.written.ensures.unwritten refl in
    record {
      ended = unwritten.0;
      steps = unwritten.1;
      state = λ request visits. unwritten_same names (edition_in i) i.moment request i j 0 (0 + taken names c.written.new.steps c.args.steps.now j i) c.written.new.self.next unwritten.0 (c.written.ensures.stands request visits.0 visits.1 0);
    }

pub returns-clause-blueprint : goal.returns-clause-blueprint
returns-clause-blueprint g c = c.written.ensures.holds.blueprint

pub returns-clause-sound : goal.returns-clause-sound
returns-clause-sound g c = c.written.ensures.sound

pub returns-clause-outcome : goal.returns-clause-outcome
returns-clause-outcome g c = c.how_ended.ensures.way
