use Rattle.std.proofs.Common.{◌≡◌, ◌++◌, ap, sym, ◌∙◌}
use Rattle.std.specs.FinMap as map
use Rattle.tcl_frame.specs.Appending.{text_of}
use Rattle.tcl_frame.proofs.Tables.{on_ok, on_err, at_some, same_inserted}
use Rattle.tcl_frame.proofs.variable.Elements.append.Goals as goal

pub returns-in-Some-clause-ok : goal.returns-in-Some-clause-ok
returns-in-Some-clause-ok c =
    let new = c.append_sharing.new.self in
    on_ok c.append_sharing.result _ _ (λ is.
    at_some c.get_mut.result c.in-Some.text (c.get_mut.follows.lender new ≡ map.insert c.args.self.now c.args.index.now new) c.in-Some.is (c.get_mut.follows.holds new)
    ∙ ap (map.insert c.args.self.now c.args.index.now)
    (is ∙ ap (λ o. text_of o ++ c.args.more.now) c.in-Some.ensures.value)) c.append_sharing.ensures.ok

pub returns-in-Some-clause-err : goal.returns-in-Some-clause-err
returns-in-Some-clause-err c =
    let new = c.append_sharing.new.self in
    on_err c.append_sharing.result _ _ (λ is.
    at_some c.get_mut.result c.in-Some.text (c.get_mut.follows.lender new ≡ map.insert c.args.self.now c.args.index.now new) c.in-Some.is (c.get_mut.follows.holds new)
    ∙ ap (map.insert c.args.self.now c.args.index.now) is
    ∙ same_inserted c.args.self.now c.args.index.now c.in-Some.text.now (sym c.in-Some.ensures.value)) c.append_sharing.ensures.err
