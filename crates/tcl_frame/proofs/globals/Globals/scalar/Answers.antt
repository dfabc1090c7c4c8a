use Rattle.std.proofs.Common.{sym, ap, ◌∙◌}
use Rattle.std.specs.FinMap as map
use Rattle.tcl_frame.specs.Texts.{text_of_scalar}
use Rattle.tcl_frame.specs.Globals.{Globals}
use Rattle.tcl_frame.proofs.Bases.{shown, together_get, get_beside}
use Rattle.tcl_frame.proofs.globals.Globals.scalar.Goals as goal

pub returns-in-Some : goal.returns-in-Some
returns-in-Some c =
    let base = c.self.inside.base in
    let own = c.self.inside.own in
    let name = c.args.name.now in
    ap (λ o. text_of_scalar (shown o (map.get own name))) c.in-Some.ensures
    ∙ ap text_of_scalar (sym (together_get base own name))
    ∙ ap (λ (g : Globals). text_of_scalar (map.get g.table name)) c.self.view_is

pub returns-in-None : goal.returns-in-None
returns-in-None c =
    let base = c.self.inside.base in
    let own = c.self.inside.own in
    let name = c.args.name.now in
    c.scalar.ensures
    ∙ ap text_of_scalar (sym (get_beside base name (sym c.in-None.ensures) own))
    ∙ ap (λ (g : Globals). text_of_scalar (map.get g.table name)) c.self.view_is
