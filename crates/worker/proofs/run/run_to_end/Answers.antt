use Rattle.std.proofs.Common.{ℕ, ◌+◌, List, [], Option, refl, subst}
use Rattle.natives.specs.Names.{names_of}
use Rattle.outside.specs.declared.question.Answer.{Answer}
use Rattle.ictl.specs.Interps.{gives, taken}
use Rattle.worker.specs.Asking.{Hears, StaysWithin}
use Rattle.worker.proofs.run.run_to_end.Goals as goal

pub returns-clause-ends : goal.returns-clause-ends
returns-clause-ends g c =
    let names = names_of c.args.natives.now in
    let run = c.args.run in
    let done = c.answer_all.new.run in
    let s0 = c.args.steps.now in
    let s1 = c.answer_all.new.steps in
    let held = g.P.Pages.held c.args.pages.now in
    let before = g.P.Pages.faults c.args.pages.now in
    let behind = g.P.Pages.faults c.answer_all.new.pages in
    let first = c.new-heard.result in
    let heard = c.answer_all.new.heard in
    record {
      done = done;
      reached = s1;
      kept = c.end_run-last.result.1;
      is_kept = refl;
      hears = λ inside.
          subst (λ (k : Option ℕ). Hears names c.args.moment (λ further. gives names run.next inside run.interp further) c.args.passes.now held before k [] done.next (inside + taken names s1 s0 done.interp run.interp) done.interp c.answer_all.new.passes behind heard.published heard.answers)
          c.new-heard.ensures.published
          (subst (λ (l : List Answer). Hears names c.args.moment (λ further. gives names run.next inside run.interp further) c.args.passes.now held before first.published l done.next (inside + taken names s1 s0 done.interp run.interp) done.interp c.answer_all.new.passes behind heard.published heard.answers)
          c.new-heard.ensures.answers (c.answer_all.ensures.hears inside));
      within = λ of inside written start stands below within.
          subst (λ (l : List Answer). StaysWithin names of l done.next (inside + taken names s1 s0 done.interp run.interp) done.interp heard.answers written start s1) c.new-heard.ensures.answers
          (c.answer_all.ensures.within of inside written start stands below within);
      counts = c.answer_all.ensures.counts;
      blueprint = c.answer_all.ensures.blueprint;
      sound = c.answer_all.ensures.sound;
      resets = c.end_run-last.ensures;
    }
