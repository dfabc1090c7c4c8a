use Rattle.std.proofs.Common.{◌≡◌, ap, subst, ◌∙◌}
use Rattle.std.specs.FinMap as map
use Rattle.txt_core.specs.Keyed.{given_back}
use Rattle.tcl_frame.specs.Base.{base_of}
use Rattle.tcl_frame.specs.Globals.{values_of, keeps_of, KnowBefore}
use Rattle.tcl_frame.proofs.Keeping.{base_last, keeps_last, know_front, values_given}
use Rattle.tcl_frame.proofs.globals.take_back_last.Goals as goal

pub returns-in-Some-clause-base : goal.returns-in-Some-clause-base
returns-in-Some-clause-base c =
    let base = c.args.base.now in
    let left = c.pop.new.self.items in
    let keep = c.in-Some.keep in
    let front = know_front left keep (subst (KnowBefore map.empty) c.in-Some.ensures.items c.requires.known) in
    let is : values_of base ≡ map.insert (base_of (keeps_of left)) keep.name keep.value =
    c.requires.base ∙ ap (λ ks. base_of (keeps_of ks)) c.in-Some.ensures.items ∙ ap base_of (keeps_last left keep) ∙ base_last (keeps_of left) keep.name keep.value in
    ap values_of (c.put_back.ensures ∙ ap (λ k. given_back base k keep.before) c.bytes.ensures)
    ∙ values_given base (base_of (keeps_of left)) keep.name keep.value keep.before is front.1

pub returns-in-Some-clause-known : goal.returns-in-Some-clause-known
returns-in-Some-clause-known c =
    (know_front c.pop.new.self.items c.in-Some.keep (subst (KnowBefore map.empty) c.in-Some.ensures.items c.requires.known)).0
