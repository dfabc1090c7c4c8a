use Rattle.natives.specs.Names.{names_of}
use Rattle.ictl.specs.Interps.{taken}
use Rattle.rehearse.proofs.running.go_behind.Goals as goal

pub returns : goal.returns
returns g c = record {
  runs = λ request sound visit. (taken (names_of c.args.natives.now) c.written.new.steps c.args.steps.now c.written.new.self.interp c.args.run.now.interp, c.written.ensures.stands request sound visit);
  blueprint = c.written.ensures.holds.blueprint;
  sound = c.written.ensures.sound (names_of c.args.natives.now);
  falls = c.written.ensures.falls;
}
