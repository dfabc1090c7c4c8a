use Rattle.cmd_table.proofs.Latests.{forgotten}
use Rattle.cmd_table.proofs.latest.forget.Goals as goal

pub returns : goal.returns
returns c = λ before after same all. forgotten before after c.args.latest.now c.remove.new.self c.args.name.now c.bytes.result.now same all c.remove.ensures c.bytes.ensures
