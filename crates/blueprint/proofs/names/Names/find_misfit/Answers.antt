use Rattle.std.proofs.Common.{◌≡◌, ◌<◌, List, ◌++◌, length, take, get_or, true, false, rules, sym, ◌∙◌, subst, arith}
use Rattle.std.proofs.lemmas.List.{take_all}
use Rattle.cmd_table.specs.declared.definition.Def.{Def}
use Rattle.cmd_table.specs.Table.{Table}
use Rattle.cmd_table.specs.Commands.{Commands, fits}
use Rattle.blueprint.specs.Kept.{AreCommands}
use Rattle.blueprint.proofs.Misfits.{commands_more, misfit_more, misfit_here}
use Rattle.blueprint.proofs.names.Names.find_misfit.Goals as goal

pub returns-then-not-branch-clause-place : goal.returns-then-not-branch-clause-place
returns-then-not-branch-clause-place c = λ natives before are.
    let i = c.defs.place in
    let def = c.index-defs-place.result in
    let within : i < length c.args.defs.now = omega arith in
    let at : def ≡ get_or c.args.defs.now i def = search rules in
    let now = c.defs.invariant.made natives before are in
    let misfit : fits (Commands natives (before ++ take i c.args.defs.now)) def ≡ false = sym (c.in_ok-apply.ensures.fits (Commands natives (before ++ take i c.args.defs.now)) now) ∙ search rules in
    sym (c.defs.invariant.rest natives before are ∙ misfit_here natives before c.args.defs.now i def within at misfit)

pub defs-preserved : goal.defs-preserved
defs-preserved c =
    let i = c.defs.place in
    let def = c.index-defs-place.result in
    let within : i < length c.args.defs.now = omega arith in
    let at : def ≡ get_or c.args.defs.now i def = search rules in
    record {
      made = λ natives before are.
          let table = Commands natives (before ++ take i c.args.defs.now) in
          subst (λ (t : Table). AreCommands c.apply.new.self.slots t) (sym (commands_more natives before c.args.defs.now i def within at))
          (c.in_ok-apply.ensures.made table (c.tables_are_maps.ensures.order natives (before ++ take i c.args.defs.now)) (c.defs.invariant.made natives before are));
      rest = λ natives before are.
          let table = Commands natives (before ++ take i c.args.defs.now) in
          let fit : fits table def ≡ true = sym (c.in_ok-apply.ensures.fits table (c.defs.invariant.made natives before are)) ∙ search rules in
          c.defs.invariant.rest natives before are ∙ misfit_more natives before c.args.defs.now i def within at fit;
      past = λ q. c.apply.ensures.past q ∙ c.defs.invariant.past q;
      places = λ h. c.apply.ensures.places (c.defs.invariant.places h);
    }

pub returns-clause-made : goal.returns-clause-made
returns-clause-made c = λ natives before are none.
    let all : take c.defs.place c.args.defs.now ≡ c.args.defs.now = take_all c.defs.place c.args.defs.now (omega arith) in
    subst (λ (ds : List Def). AreCommands c.defs.self.slots (Commands natives (before ++ ds))) all (c.defs.invariant.made natives before are)
