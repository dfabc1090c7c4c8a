use Rattle.natives.specs.Names.{names_of}
use Rattle.ictl.specs.Interps.{taken}
use Rattle.rehearse.proofs.running.begin_request.Goals as goal

pub returns : goal.returns
returns g c = record {
  runs = (taken (names_of c.args.natives.now) c.start_request.new.steps c.args.steps.now c.start_request.result.interp c.args.interp, c.start_request.ensures.stands);
  visit = c.start_request.ensures.visit;
  blueprint = c.start_request.ensures.holds.blueprint;
  sound = c.start_request.ensures.sound (names_of c.args.natives.now) c.requires.0;
  falls = c.start_request.ensures.falls;
}
