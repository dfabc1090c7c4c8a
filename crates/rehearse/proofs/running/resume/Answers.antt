use Rattle.natives.specs.Names.{names_of}
use Rattle.ictl.specs.Interps.{taken}
use Rattle.rehearse.proofs.running.resume.Goals as goal

pub returns : goal.returns
returns g c = record {
  runs = (taken (names_of c.args.natives.now) c.resume.new.steps c.args.steps.now c.resume.new.self.interp c.args.run.now.interp, c.resume.ensures.stands);
  same = c.resume.ensures.same;
  blueprint = c.resume.ensures.holds.blueprint;
  sound = c.resume.ensures.sound (names_of c.args.natives.now);
  falls = c.resume.ensures.falls;
}
