use Rattle.std.proofs.Common.{◌≡◌, suc, length, ◌∷◌, rules, arith, refl}
use Rattle.natives.specs.Parts.{parts}
use Rattle.tcl_string.specs.Patterns.{part_of}
use Rattle.tcl_string.proofs.Written.{none_counted, counted_next, counted_none, counted_end}
use Rattle.tcl_string.proofs.pattern.words_taken.Goals as goal

pub parts-init : goal.parts-init
parts-init c = record { counted = none_counted (parts c.args.pattern.now); within = omega arith }

pub returns-in_err-part : goal.returns-in_err-part
returns-in_err-part c =
    let cut : c.parts.rest.now ≡ c.in-Some.byte.now ∷ c.in-Some.behind.now = search rules in
    rw c.from_residual.ensures (counted_none c.parts.taken c.in-Some.byte.now c.in-Some.behind.now _ c.in_err-part.ensures.same (rw cut at c.parts.invariant.counted))

pub parts-preserved : goal.parts-preserved
parts-preserved c =
    let cut : c.parts.rest.now ≡ c.in-Some.byte.now ∷ c.in-Some.behind.now = search rules in
    let longer : length c.parts.rest.now ≡ suc (length c.in-Some.behind.now) = rw cut refl in
    record {
      counted = rw c.taken_by-taken.ensures.same (counted_next c.parts.taken c.in-Some.byte.now c.in-Some.behind.now (part_of c.in_ok-part.part) c.in_ok-part.more.now _ c.in_ok-part.ensures.same (rw cut at c.parts.invariant.counted));
      within = omega (arith, longer, c.in_ok-part.ensures.goes, c.taken_by-taken.ensures.few, c.parts.invariant.within);
    }

pub returns : goal.returns
returns c = counted_end c.parts.taken c.parts.rest.now _ c.in_default.ensures.cases c.parts.invariant.counted
