use Rattle.std.proofs.Common.{◌≡◌, sym, subst, rules}
use Rattle.cmd_table.specs.declared.command.Cmd.TheVariants as commands
use Rattle.cmd_table.specs.declared.definition.Def.{Def}
use Rattle.cmd_table.specs.declared.definition.Def.TheVariants.{Proc}
use Rattle.cmd_table.specs.Commands.{defined}
use Rattle.blueprint.specs.Kept.{AreCommands}
use Rattle.blueprint.proofs.Tables.{command_put}
use Rattle.blueprint.proofs.names.Names.apply.Goals as goal

pub returns-in_ok-set-in-Proc-clause-made : goal.returns-in_ok-set-in-Proc-clause-made
returns-in_ok-set-in-Proc-clause-made c = λ table order are.
    let is : c.args.def.now ≡ Proc c.in-Proc.name c.in-Proc.params c.in-Proc.body = search rules in
    subst (λ (d : Def). AreCommands c.set.new.self.slots (defined table d)) (sym is)
    (command_put c.tables_are_maps.ensures.putting c.args.self.now.slots c.set.new.self.slots table c.in-Proc.name (commands.Proc c.in-Proc.params c.in-Proc.body) are c.in_ok-set-in-Proc.ensures.there)
