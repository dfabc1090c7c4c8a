use Rattle.std.proofs.Common.{◌≡◌, None, refl, sym, ap, subst, ◌∙◌}
use Rattle.std.specs.FinMap as map
use Rattle.std.specs.Prelude.{IsSome}
use Rattle.tcl_frame.specs.Names.{variable_name}
use Rattle.tcl_frame.specs.Seen.{name_seen}
use Rattle.tcl_frame.specs.Meaning.{found, no_removal}
use Rattle.tcl_frame.specs.Refusal.{IsRefusedFor}
use Rattle.tcl_frame.specs.Variables.{without}
use Rattle.tcl_frame.specs.Globals.{Globals, together, standing_value, keeps_of}
use Rattle.tcl_frame.proofs.Tables.{on_ok, on_err}
use Rattle.tcl_frame.proofs.Bases.{changed, without_beside, found_beside}
use Rattle.tcl_frame.proofs.globals.Globals.take_away.Goals as goal

pub returns-in-None-clause-ok : goal.returns-in-None-clause-ok
returns-in-None-clause-ok c =
    let base = c.self.inside.base in
    let own = c.self.inside.own in
    let name = name_seen c.args.name.now in
    let gone : standing_value (map.get base (variable_name name)) ≡ None = sym (c.in-None.ensures ∙ ap (λ n. standing_value (map.get base n)) c.variable.ensures) in
    on_ok c.take_away.result _ _ (λ is.
    changed c.args.self.now (keeps_of c.self.inside.keeps.items) (together base own) (together base c.take_away.new.self)
    (λ t. without t name) c.self.view_is
    (ap (together base) is ∙ without_beside base own name gone)) c.take_away.ensures.ok

pub returns-in-None-clause-refused : goal.returns-in-None-clause-refused
returns-in-None-clause-refused c =
    let base = c.self.inside.base in
    let own = c.self.inside.own in
    let name = name_seen c.args.name.now in
    let gone : standing_value (map.get base (variable_name name)) ≡ None = sym (c.in-None.ensures ∙ ap (λ n. standing_value (map.get base n)) c.variable.ensures) in
    subst (λ f. IsRefusedFor (no_removal f) c.take_away.result)
    (sym (found_beside base own name gone) ∙ ap (λ (g : Globals). found g.table name) c.self.view_is) c.take_away.ensures.refused

pub take_base-requires : goal.take_base-requires
take_base-requires c =
    subst IsSome (c.in-Some.ensures ∙ ap (λ n. standing_value (map.get c.self.inside.base n)) c.variable.ensures) refl

pub returns-in-Some-clause-ok : goal.returns-in-Some-clause-ok
returns-in-Some-clause-ok c =
    on_ok c.take_base.result _ _ (λ is.
    changed c.args.self.now (keeps_of c.self.inside.keeps.items) (together c.self.inside.base c.self.inside.own) (together c.take_base.new.base c.take_base.new.own)
    (λ t. without t (name_seen c.args.name.now)) c.self.view_is is) c.take_base.ensures.ok

pub returns-in-Some-clause-refused : goal.returns-in-Some-clause-refused
returns-in-Some-clause-refused c =
    subst (λ (g : Globals). IsRefusedFor (no_removal (found g.table (name_seen c.args.name.now))) c.take_base.result) c.self.view_is c.take_base.ensures.refused

pub returns-in-Some-clause-err : goal.returns-in-Some-clause-err
returns-in-Some-clause-err c =
    on_err c.take_base.result _ _ (λ is.
    ap (λ t. record { table = t; keeps = keeps_of c.self.inside.keeps.items }) is ∙ c.self.view_is) c.take_base.ensures.err
