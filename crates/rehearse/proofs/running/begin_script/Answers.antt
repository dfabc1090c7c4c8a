use Rattle.natives.specs.Names.{names_of}
use Rattle.ictl.specs.Interps.{taken}
use Rattle.rehearse.proofs.running.begin_script.Goals as goal

pub returns : goal.returns
returns g c = record {
  runs = (taken (names_of c.args.natives.now) c.start_script.new.steps c.args.steps.now c.start_script.result.interp c.args.interp, c.start_script.ensures.stands);
  blueprint = c.start_script.ensures.holds.blueprint;
  sound = c.start_script.ensures.sound (names_of c.args.natives.now) c.requires.0;
  falls = c.start_script.ensures.falls;
}
