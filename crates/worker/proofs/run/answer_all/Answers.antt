use Rattle.std.proofs.Common.{◌≡◌, ◌+◌, ◌<◌, ℕ, List, Option, Result, refl, sym, ap, ◌∙◌, subst, arith}
use Rattle.std.specs.Prelude.{Ok, Err}
use Rattle.natives.specs.Names.{names_of}
use Rattle.outside.specs.Paging.{PageMap}
use Rattle.outside.specs.declared.question.Answer.{Answer}
use Rattle.ictl.specs.Interps.{gives, taken, interp_written}
use Rattle.ictl.specs.Falls.{number_of}
use Rattle.ictl.specs.Came.{Came, given_up}
use Rattle.ictl.specs.declared.next.Next.{Next}
use Rattle.ictl.specs.declared.next.Next.TheVariants as next
use Rattle.worker.specs.Asking.{AsksOne, Hears}
use Rattle.worker.specs.Resuming.{Resumes}
use Rattle.worker.proofs.Hearing.{SoFar, so_far_begins, so_far_more, so_far_lost, so_far_ends, steps_left, steps_fall, taken_both}
use Rattle.worker.proofs.Within.{stays_at_first, stays_more, stays_lost}
use Rattle.worker.proofs.run.answer_all.Goals as goal

pub questions-init : goal.questions-init
questions-init g c =
    let names = names_of c.args.natives.now in
    let first = c.args.run.now.next in
    let i = c.args.run.now.interp in
    let s = c.args.steps.now in
    record {
      cells = c.requires;
      so_far = λ inside. so_far_begins names c.args.moment first inside (inside + taken names s s i i) i c.args.passes.now (g.P.Pages.held c.args.pages.now) (g.P.Pages.faults c.args.pages.now) c.args.heard.now.published c.args.heard.now.answers (omega arith);
      within = λ of inside written before stands start within. stays_at_first names of c.args.heard.now.answers first inside (inside + taken names s s i i) i written before s (omega arith) stands within;
      counts = omega arith;
      same = record { visit = refl; moment = refl; spare = refl };
      blueprint = refl;
      sound = λ names sound. sound;
      held = refl;
    }

pub go_on-requires : goal.go_on-requires
go_on-requires g c = (_, ap (λ (came : Came). came.next) c.in-Some.ensures.1)

pub questions-preserved : goal.questions-preserved
questions-preserved g c =
    let names = names_of c.args.natives.now in
    let inv = c.questions.invariant in
    let first = c.args.run.now.next in
    let i0 = c.args.run.now.interp in
    let i1 = c.questions.run.interp in
    let i2 = c.go_on.new.run.interp in
    let n2 = c.go_on.new.run.next in
    let s0 = c.args.steps.now in
    let s1 = c.questions.steps in
    let s2 = c.go_on.new.steps in
    let asks = c.in-Some.ensures.0 in
    let went : Resumes names c.in-Ok.answer n2 s1 s2 i2 i1 = subst (λ (came : Came). Resumes names c.in-Ok.answer n2 s1 s2 i2 came.interp) c.in-Some.ensures.1 c.go_on.ensures in
    record {
      cells = c.answer.ensures.cells;
      so_far = λ inside.
          so_far_more names c.questions_are_asked.ensures c.args.moment (λ further. gives names first inside i0 further) c.args.passes.now (g.P.Pages.held c.args.pages.now) (g.P.Pages.faults c.args.pages.now) c.args.heard.now.published c.args.heard.now.answers
          c.in-Some.question (inside + taken names s1 s0 i1 i0) (inside + taken names s2 s0 i2 i0) i1 i2 c.questions.passes c.answer.new.passes (g.P.Pages.faults c.questions.pages) (g.P.Pages.faults c.answer.new.pages) c.questions.heard.published c.answer.new.heard.published c.questions.heard.answers c.answer.new.heard.answers c.in-Ok.answer n2 (taken names s2 s1 i2 i1)
          (rw asks at (inv.so_far inside))
          (rw inv.held at c.in-Ok.ensures.asks)
          c.in-Ok.ensures.ok went.step
          (sym (taken_both s0 s1 s2 (interp_written names i0) (interp_written names i1) (interp_written names i2) inside inv.counts went.counts));
      within = λ of inside written before stands start within.
          stays_more names of c.args.heard.now.answers c.in-Some.question inside (inside + taken names s1 s0 i1 i0) (inside + taken names s2 s0 i2 i0) i1 i2 c.questions.heard.answers c.answer.new.heard.answers c.in-Ok.answer n2 (taken names s2 s1 i2 i1)
          written before s0 s1 s2 (interp_written names i0) (interp_written names i1)
          (rw asks at (inv.within of inside written before stands start within)) refl start inv.counts c.in-Ok.ensures.ok went.step
          (sym (taken_both s0 s1 s2 (interp_written names i0) (interp_written names i1) (interp_written names i2) inside inv.counts went.counts))
          (went.most c.in-Some.question (inside + taken names s1 s0 i1 i0));
      counts = let a = inv.counts in let b = went.counts in omega (arith, a, b);
      same = record { visit = went.same.visit ∙ inv.same.visit; moment = went.same.moment ∙ inv.same.moment; spare = went.same.spare ∙ inv.same.spare };
      blueprint = went.blueprint ∙ inv.blueprint;
      sound = λ names sound. went.sound names (inv.sound names sound);
      held = c.answer.ensures.held ∙ inv.held;
    }

pub questions-smaller : goal.questions-smaller
questions-smaller g c =
    let names = names_of c.args.natives.now in
    let i1 = c.questions.run.interp in
    let i2 = c.go_on.new.run.interp in
    let n2 = c.go_on.new.run.next in
    let went : Resumes names c.in-Ok.answer n2 c.questions.steps c.go_on.new.steps i2 i1 = subst (λ (came : Came). Resumes names c.in-Ok.answer n2 c.questions.steps c.go_on.new.steps i2 came.interp) c.in-Some.ensures.1 c.go_on.ensures in
    subst (λ (n : Next). steps_left n2 i2 < steps_left n i1) (sym c.in-Some.ensures.0) (steps_fall n2 i2 (number_of i1) went.falls)

-- ---- it asks nothing more

pub returns-in_default-clause-hears : goal.returns-in_default-clause-hears
returns-in_default-clause-hears g c =
    let takes = rw c.in_default.is at c.take_question.ensures in
    rw takes.1 (λ inside. so_far_ends _ _ _ _ _ _ _ _ _ _ _ _ _ _ _ (c.questions.invariant.so_far inside) takes.0)

pub returns-in_default-clause-within : goal.returns-in_default-clause-within
returns-in_default-clause-within g c = rw (rw c.in_default.is at c.take_question.ensures).1 c.questions.invariant.within

pub returns-in_default-clause-counts : goal.returns-in_default-clause-counts
returns-in_default-clause-counts g c = rw (rw c.in_default.is at c.take_question.ensures).1 c.questions.invariant.counts

pub returns-in_default-clause-same : goal.returns-in_default-clause-same
returns-in_default-clause-same g c = rw (rw c.in_default.is at c.take_question.ensures).1 c.questions.invariant.same

pub returns-in_default-clause-blueprint : goal.returns-in_default-clause-blueprint
returns-in_default-clause-blueprint g c = rw (rw c.in_default.is at c.take_question.ensures).1 c.questions.invariant.blueprint

pub returns-in_default-clause-sound : goal.returns-in_default-clause-sound
returns-in_default-clause-sound g c = rw (rw c.in_default.is at c.take_question.ensures).1 c.questions.invariant.sound

-- ---- memory wanted

pub returns-in-Err-clause-hears : goal.returns-in-Err-clause-hears
returns-in-Err-clause-hears g c =
    let names = names_of c.args.natives.now in
    let inv = c.questions.invariant in
    let i0 = c.args.run.now.interp in
    let i1 = c.questions.run.interp in
    rw (c.give_up.ensures ∙ ap given_up c.in-Some.ensures.1)
    (λ inside.
    so_far_lost names c.questions_are_asked.ensures c.args.moment (λ further. gives names c.args.run.now.next inside i0 further) c.args.passes.now (g.P.Pages.held c.args.pages.now) (g.P.Pages.faults c.args.pages.now) c.args.heard.now.published c.args.heard.now.answers
    c.in-Some.question (inside + taken names c.questions.steps c.args.steps.now i1 i0) (inside + taken names c.questions.steps c.args.steps.now i1 i0) i1 i1 c.questions.passes c.answer.new.passes (g.P.Pages.faults c.questions.pages) (g.P.Pages.faults c.answer.new.pages) c.questions.heard.published c.answer.new.heard.published c.questions.heard.answers c.answer.new.heard.answers _
    (rw c.in-Some.ensures.0 at (inv.so_far inside)) (rw inv.held at c.in-Err.ensures.asks) c.in-Err.ensures.err)

pub returns-in-Err-clause-within : goal.returns-in-Err-clause-within
returns-in-Err-clause-within g c =
    let names = names_of c.args.natives.now in
    let inv = c.questions.invariant in
    let i0 = c.args.run.now.interp in
    let i1 = c.questions.run.interp in
    rw (c.give_up.ensures ∙ ap given_up c.in-Some.ensures.1)
    (λ of inside written before stands start within.
    stays_lost names of c.args.heard.now.answers (next.Asks c.in-Some.question) (inside + taken names c.questions.steps c.args.steps.now i1 i0) (inside + taken names c.questions.steps c.args.steps.now i1 i0) i1 i1 c.questions.heard.answers c.answer.new.heard.answers written before c.questions.steps c.questions.steps
    (rw c.in-Some.ensures.0 at (inv.within of inside written before stands start within)) c.in-Err.ensures.err refl refl)

pub returns-in-Err-clause-counts : goal.returns-in-Err-clause-counts
returns-in-Err-clause-counts g c = rw (c.give_up.ensures ∙ ap given_up c.in-Some.ensures.1) c.questions.invariant.counts

pub returns-in-Err-clause-same : goal.returns-in-Err-clause-same
returns-in-Err-clause-same g c = rw (c.give_up.ensures ∙ ap given_up c.in-Some.ensures.1) c.questions.invariant.same

pub returns-in-Err-clause-blueprint : goal.returns-in-Err-clause-blueprint
returns-in-Err-clause-blueprint g c = rw (c.give_up.ensures ∙ ap given_up c.in-Some.ensures.1) c.questions.invariant.blueprint

pub returns-in-Err-clause-sound : goal.returns-in-Err-clause-sound
returns-in-Err-clause-sound g c = rw (c.give_up.ensures ∙ ap given_up c.in-Some.ensures.1) c.questions.invariant.sound
