use Rattle.natives.specs.Names.{names_of}
use Rattle.rehearse.proofs.running.begin_define.Goals as goal

pub returns : goal.returns
returns g c = record {
  runs = (0, c.start_define.ensures.stands);
  blueprint = c.start_define.ensures.holds.blueprint;
  sound = c.start_define.ensures.sound (names_of c.args.natives.now) c.requires.0;
  falls = c.start_define.ensures.falls;
}
