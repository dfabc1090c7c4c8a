use Rattle.std.proofs.Common.{◌≡◌, ℕ, List, ◌+◌, ◌∷◌, arith, subst, sym}
use Rattle.std.proofs.lemmas.List.{nil_from_length}
use Rattle.txt_core.specs.PatternLaws.{behind_part}
use Rattle.txt_core.proofs.Starting.{LeftOf, left_next, left_last, more_left}
use Rattle.txt_core.proofs.pattern_start.lengths_of.Goals as goal

pub parts-preserved : goal.parts-preserved
parts-preserved c =
    let split : c.parts.rest.now ≡ c.in-Some.first.now ∷ c.in-Some.behind.now = c.in-Some.ensures.cases.0 in
    let next : c.behind_first-rest.result.now ≡ behind_part (c.in-Some.first.now ∷ c.in-Some.behind.now) = c.behind_first-rest.ensures in
    record {
      left = λ t m. subst (λ (q : List ℕ). LeftOf q t (c.parts.count + 1)) (sym next) (left_next c.parts.rest.now t c.in-Some.behind.now c.in-Some.first.now c.parts.count split c.if-first-eq42.false (c.parts.invariant.left t m));
      within = omega (arith, c.parts.invariant.within, c.if-count-most.false);
    }

pub returns-then-count-most : goal.returns-then-count-most
returns-then-count-most c = λ t m. rw c.if-count-most.true at (more_left c.parts.rest.now t c.in-Some.behind.now c.in-Some.first.now c.parts.count c.in-Some.ensures.cases.0 c.if-first-eq42.false (c.parts.invariant.left t m))

pub returns : goal.returns
returns c = (c.parts.invariant.within, λ t m. left_last c.parts.rest.now t c.parts.count (nil_from_length c.parts.rest.now c.in_default.ensures.cases) (c.parts.invariant.left t m))
