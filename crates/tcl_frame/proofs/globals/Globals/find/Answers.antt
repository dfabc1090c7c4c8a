use Rattle.std.proofs.Common.{◌≡◌, Some, None, sym, ap, ◌∙◌}
use Rattle.std.specs.FinMap as map
use Rattle.tcl_frame.specs.Names.{variable_name}
use Rattle.tcl_frame.specs.Meaning.{found}
use Rattle.tcl_frame.specs.Seen.{name_seen}
use Rattle.tcl_frame.specs.Globals.{Globals, standing_value}
use Rattle.tcl_frame.proofs.Bases.{found_beside, found_base, found_scalar}
use Rattle.tcl_frame.proofs.globals.Globals.find.Goals as goal

pub returns-in-None : goal.returns-in-None
returns-in-None c =
    let base = c.self.inside.base in
    let name = name_seen c.args.name.now in
    let gone : standing_value (map.get base (variable_name name)) ≡ None = sym (c.in-None.ensures ∙ ap (λ n. standing_value (map.get base n)) c.variable.ensures) in
    c.find.ensures ∙ sym (found_beside base c.self.inside.own name gone) ∙ ap (λ (g : Globals). found g.table name) c.self.view_is

pub returns-in-Whole : goal.returns-in-Whole
returns-in-Whole c =
    let base = c.self.inside.base in
    let name = name_seen c.args.name.now in
    let value = c.in-Some.value.now in
    let stands : standing_value (map.get base (variable_name name)) ≡ Some value = sym (c.in-Some.ensures ∙ ap (λ n. standing_value (map.get base n)) c.variable.ensures) in
    sym (ap (λ n. found_scalar (name_seen n) value) c.in-Whole.is)
    ∙ sym (found_base base c.self.inside.own name value stands) ∙ ap (λ (g : Globals). found g.table name) c.self.view_is

pub returns-in-Element : goal.returns-in-Element
returns-in-Element c =
    let base = c.self.inside.base in
    let name = name_seen c.args.name.now in
    let value = c.in-Some.value.now in
    let stands : standing_value (map.get base (variable_name name)) ≡ Some value = sym (c.in-Some.ensures ∙ ap (λ n. standing_value (map.get base n)) c.variable.ensures) in
    sym (ap (λ n. found_scalar (name_seen n) value) c.in-Element.is)
    ∙ sym (found_base base c.self.inside.own name value stands) ∙ ap (λ (g : Globals). found g.table name) c.self.view_is
