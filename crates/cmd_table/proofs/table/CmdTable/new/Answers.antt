use Rattle.natives.specs.Names.{names_of as native_names}
use Rattle.cmd_table.specs.Slots.{present}
use Rattle.cmd_table.proofs.Builts.{one_after_the_other}
use Rattle.cmd_table.proofs.table.CmdTable.new.Goals as goal

pub returns-clause-table : goal.returns-clause-table
returns-clause-table g c =
    one_after_the_other (present c.no_slots-slots.result.entries) (present c.fill_built_ins.new.slots.entries) (present c.fill_natives.new.slots.entries) (native_names c.args.natives.now)
    c.no_slots-slots.ensures.empty c.in_ok-fill_built_ins.ensures.table c.in_ok-fill_natives.ensures.table
