use Rattle.std.proofs.Common.{sym, ap, subst, ◌∙◌}
use Rattle.tcl_frame.specs.Names.{Whole}
use Rattle.tcl_frame.specs.Meaning.{found, no_array}
use Rattle.tcl_frame.specs.Refusal.{IsRefusedFor}
use Rattle.tcl_frame.specs.Variables.{with_array}
use Rattle.tcl_frame.specs.Globals.{Globals, together, keeps_of}
use Rattle.tcl_frame.proofs.Tables.{on_ok}
use Rattle.tcl_frame.proofs.Bases.{changed, array_beside, array_refused, found_beside}
use Rattle.tcl_frame.proofs.globals.Globals.write_array.Goals as goal

pub returns-in-Some-clause-refused : goal.returns-in-Some-clause-refused
returns-in-Some-clause-refused c =
    let name = c.args.name.now in
    sym (ap (λ (g : Globals). no_array (found g.table (Whole name))) c.self.view_is) ∙ array_refused c.self.inside.base c.self.inside.own name c.in-Some.field-0.now (sym c.in-Some.ensures)

pub returns-in-None-clause-ok : goal.returns-in-None-clause-ok
returns-in-None-clause-ok c =
    let base = c.self.inside.base in
    let own = c.self.inside.own in
    let name = c.args.name.now in
    let pairs = c.args.pairs.now in
    on_ok c.write_array.result _ _ (λ is.
    changed c.args.self.now (keeps_of c.self.inside.keeps.items) (together base own) (together base c.write_array.new.self)
    (λ t. with_array t name pairs) c.self.view_is
    (ap (together base) is ∙ array_beside base own name pairs (sym c.in-None.ensures))) c.write_array.ensures.ok

pub returns-in-None-clause-refused : goal.returns-in-None-clause-refused
returns-in-None-clause-refused c =
    let base = c.self.inside.base in
    let own = c.self.inside.own in
    let name = c.args.name.now in
    subst (λ f. IsRefusedFor (no_array f) c.write_array.result)
    (sym (found_beside base own (Whole name) (sym c.in-None.ensures)) ∙ ap (λ (g : Globals). found g.table (Whole name)) c.self.view_is) c.write_array.ensures.refused
