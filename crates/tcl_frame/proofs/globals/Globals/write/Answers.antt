use Rattle.std.proofs.Common.{◌≡◌, sym, ap, subst, ◌∙◌, Err}
use Rattle.tcl_frame.specs.Seen.{name_seen}
use Rattle.tcl_frame.specs.Meaning.{found, no_write}
use Rattle.tcl_frame.specs.Refusal.{IsRefusedFor}
use Rattle.tcl_frame.specs.Variables.{with_value}
use Rattle.tcl_frame.specs.Globals.{Globals, together, keeps_of}
use Rattle.std.proofs.lemmas.Result.{err_from_is_err_and}
use Rattle.tcl_frame.proofs.Tables.{on_ok}
use Rattle.tcl_frame.proofs.Bases.{changed, refused_write, value_beside, found_beside}
use Rattle.tcl_frame.proofs.globals.Globals.write.Goals as goal

pub returns-in_err-set_aside-clause-refused : goal.returns-in_err-set_aside-clause-refused
returns-in_err-set_aside-clause-refused c =
    let e = c.in_err-set_aside.field-0.0 in
    let name = name_seen c.args.name.now in
    let p = err_from_is_err_and c.from_residual.result c.from_residual.ensures.1 in
    rw (p.1, p.2) (subst (λ (g : Globals). IsRefusedFor {A = Unit {0}} (no_write (found g.table name)) (Err e)) c.self.view_is
    (refused_write (Unit {0}) (Unit {0}) c.self.inside.base c.self.inside.own name e c.in_err-set_aside.ensures.stood c.in_err-set_aside.ensures.refused))

pub returns-clause-ok : goal.returns-clause-ok
returns-clause-ok c =
    let base = c.set_aside.new.base in
    let own = c.set_aside.new.own in
    let name = name_seen c.args.name.now in
    on_ok c.write.result _ _ (λ is.
    changed c.args.self.now (keeps_of c.self.inside.keeps.items) (together c.self.inside.base c.self.inside.own) (together base c.write.new.self)
    (λ t. with_value t name c.args.value) c.self.view_is
    (ap (together base) is ∙ value_beside base own name c.args.value c.in_ok-set_aside.ensures.aside
    ∙ ap (λ t. with_value t name c.args.value) c.in_ok-set_aside.ensures.same)) c.write.ensures.ok

pub returns-clause-refused : goal.returns-clause-refused
returns-clause-refused c =
    let base = c.set_aside.new.base in
    let own = c.set_aside.new.own in
    let name = name_seen c.args.name.now in
    let gone = c.in_ok-set_aside.ensures.aside in
    let alike : found own name ≡ found c.args.self.now.table name =
    sym (found_beside base own name gone) ∙ ap (λ t. found t name) c.in_ok-set_aside.ensures.same ∙ ap (λ (g : Globals). found g.table name) c.self.view_is in
    subst (λ f. IsRefusedFor (no_write f) c.write.result) alike c.write.ensures.refused
