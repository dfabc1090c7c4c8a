use Rattle.std.proofs.Common.{◌≡◌, ◌<◌, ◌+◌, List, length, map, drop, Some, rules, sym, ap, ◌∙◌, arith}
use Rattle.cmd_table.specs.declared.definition.Def.{Def}
use Rattle.tcl_parse.specs.View.{word_of, command_of}
use Rattle.blueprint.specs.Reading.{command_def, commands_from}
use Rattle.blueprint.specs.Kept.{put_defs}
use Rattle.blueprint.proofs.Words.{command_is, defs_more}
use Rattle.blueprint.proofs.reading.command_defs.Goals as goal

pub commands-preserved : goal.commands-preserved
commands-preserved c =
    let i = c.commands.number in
    let command = c.index-commands-number.result in
    let within : i < length c.args.commands.now = omega arith in
    let seen : command_of command ≡ map word_of c.as_slice.result.now = command_is command ∙ ap (map word_of) (sym c.as_slice.ensures.value) in
    let found : command_def (map word_of c.as_slice.result.now) ≡ Some c.in-Some.def = search rules in
    ap (λ (ds : List Def). put_defs ds (commands_from (i + 1) (map command_of (drop (i + 1) c.args.commands.now)))) c.in_ok-add.ensures.ok
    ∙ defs_more c.args.commands.now i command c.commands.defs c.in-Some.def within c.index-commands-number.is (ap command_def seen ∙ found)
    ∙ c.commands.invariant
