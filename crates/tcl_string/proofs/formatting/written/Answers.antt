use Rattle.std.proofs.Common.{◌≡◌, ◌∷◌, Err, rules}
use Rattle.std.proofs.lemmas.Result.{err_from_is_err_and}
use Rattle.natives.specs.Parts.{parts}
use Rattle.tcl_string.specs.Patterns.{part_of, written_of}
use Rattle.tcl_string.proofs.Saying.{comes}
use Rattle.tcl_string.proofs.Written.{enough_here, enough_next, never_none, leads_first, leads_fails, leads_on, leads_last}
use Rattle.tcl_string.proofs.formatting.written.Goals as goal

pub parts-init : goal.parts-init
parts-init c = record { fits = c.requires; came = leads_first c.empty-out.result (written_of (parts c.args.pattern.now) c.args.words.now) c.empty-out.ensures }

pub unreachable-requires : goal.unreachable-requires
unreachable-requires c =
    let cut : c.parts.rest.now ≡ c.in-Some.byte.now ∷ c.in-Some.behind.now = search rules in
    never_none c.in-Some.byte.now c.in-Some.behind.now c.parts.left.now c.in_default-first_part.ensures.same (rw cut at c.parts.invariant.fits)

pub put_next-requires : goal.put_next-requires
put_next-requires c =
    let cut : c.parts.rest.now ≡ c.in-Some.byte.now ∷ c.in-Some.behind.now = search rules in
    enough_here c.in-Some.byte.now c.in-Some.behind.now (part_of c.in-Some-first_part.part) c.in-Some-first_part.more.now c.parts.left.now c.in-Some-first_part.ensures.same (rw cut at c.parts.invariant.fits)

pub words_behind-left-requires : goal.words_behind-left-requires
words_behind-left-requires c =
    let cut : c.parts.rest.now ≡ c.in-Some.byte.now ∷ c.in-Some.behind.now = search rules in
    enough_here c.in-Some.byte.now c.in-Some.behind.now (part_of c.in-Some-first_part.part) c.in-Some-first_part.more.now c.parts.left.now c.in-Some-first_part.ensures.same (rw cut at c.parts.invariant.fits)

pub returns-in_err-out : goal.returns-in_err-out
returns-in_err-out c =
    let cut : c.parts.rest.now ≡ c.in-Some.byte.now ∷ c.in-Some.behind.now = search rules in
    let p = err_from_is_err_and c.from_residual.result c.from_residual.ensures.1 in
    let fault = c.in_err-out.field-0.0 in
    rw (p.1, p.2) (comes (written_of (parts c.args.pattern.now) c.args.words.now) (Err fault)
    (leads_fails c.in-Some.byte.now c.in-Some.behind.now (part_of c.in-Some-first_part.part) c.in-Some-first_part.more.now c.parts.left.now c.parts.out (written_of (parts c.args.pattern.now) c.args.words.now) fault c.in-Some-first_part.ensures.same
    (rw cut at c.parts.invariant.fits) (rw cut at c.parts.invariant.came) c.in_err-out.ensures))

pub parts-preserved : goal.parts-preserved
parts-preserved c =
    let cut : c.parts.rest.now ≡ c.in-Some.byte.now ∷ c.in-Some.behind.now = search rules in
    record {
      fits = rw c.words_behind-left.ensures (enough_next c.in-Some.byte.now c.in-Some.behind.now (part_of c.in-Some-first_part.part) c.in-Some-first_part.more.now c.parts.left.now c.in-Some-first_part.ensures.same (rw cut at c.parts.invariant.fits));
      came = rw c.words_behind-left.ensures (leads_on c.in-Some.byte.now c.in-Some.behind.now (part_of c.in-Some-first_part.part) c.in-Some-first_part.more.now c.parts.left.now c.parts.out c.in_ok-out.out _ c.in-Some-first_part.ensures.same
          (rw cut at c.parts.invariant.fits) (rw cut at c.parts.invariant.came) c.in_ok-out.ensures);
    }

pub returns : goal.returns
returns c = leads_last c.parts.rest.now c.parts.left.now c.parts.out _ c.into_text.result c.in_default.ensures.cases c.parts.invariant.came c.into_text.ensures
