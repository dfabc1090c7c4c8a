use Rattle.std.proofs.Common.{◌≡◌, ◌∙◌, ◌+◌, ℕ, List, subst}
use Rattle.natives.specs.Names.{names_of}
use Rattle.outside.specs.declared.question.Answer.{Answer}
use Rattle.cmd_table.specs.Commands.{Writes}
use Rattle.ictl.specs.Falls.{StandsAt}
use Rattle.ictl.specs.Main.{Progress}
use Rattle.ictl.specs.Interps.{taken, interp_state, interp_written, gives}
use Rattle.worker.specs.Asking.{Hears, StandsFor, StaysWithin}
use Rattle.worker.specs.Behind.{behind_at, GoesBehind}
use Rattle.worker.proofs.Hearing.{hears_of, taken_both}
use Rattle.worker.proofs.Paying.{writing_alone, counted_both}
use Rattle.worker.proofs.Within.{KeepsWithin, behind_within}
use Rattle.worker.proofs.behind.end_whole.Goals as goal

pub tell_whole-requires : goal.tell_whole-requires
tell_whole-requires g c = c.requires.response

pub returns-clause-behind : goal.returns-clause-behind
returns-clause-behind g c =
    let names = names_of c.args.natives.now in
    let i2 = c.args.run.now.interp in
    let i3 = c.tell_whole.new.run.interp in
    let i4 = c.answer_all.new.run.interp in
    let s2 = c.args.steps.now in
    let s3 = c.tell_whole.new.steps in
    let s4 = c.answer_all.new.steps in
    let w2 = interp_written names i2 in
    let w3 = interp_written names i3 in
    let w4 = interp_written names i4 in
    let first = c.tell_whole.new.run.next in
    let came = c.answer_all.new.run.next in
    let held = g.P.Pages.held c.args.pages.now in
    let p = c.args.passes.now in
    let q = c.answer_all.new.passes in
    let faults = g.P.Pages.faults c.args.pages.now in
    let faults_after = g.P.Pages.faults c.answer_all.new.pages in
    let known = c.args.heard.now.published in
    let published = c.answer_all.new.heard.published in
    let had = c.args.heard.now.answers in
    let all = c.answer_all.new.heard.answers in
    let told : GoesBehind names c.args.run.now c.tell_whole.new.run s2 s3 = c.tell_whole.ensures in
    let last : StandsAt came i4 = c.how_ended.ensures.stands in
    let keeps : KeepsWithin names first i3 s3 had came i4 s4 all = c.answer_all.ensures.within in
    let both : (inside : ℕ) → (inside + taken names s3 s2 i3 i2) + taken names s4 s3 i4 i3 ≡ inside + taken names s4 s2 i4 i2 = λ inside. taken_both s2 s3 s4 w2 w3 w4 inside told.counts c.answer_all.ensures.counts in
    record {
      hears = λ request inside responds.
          let run : List Answer → Progress = λ further. behind_at names request i2 inside further in
          let goes : StandsFor names run first (inside + taken names s3 s2 i3 i2) i3 = told.stands request inside responds in
          let h : Hears names c.args.moment (λ further. gives names first (inside + taken names s3 s2 i3 i2) i3 further) p held faults known had came ((inside + taken names s3 s2 i3 i2) + taken names s4 s3 i4 i3) i4 q faults_after published all = c.answer_all.ensures.hears (inside + taken names s3 s2 i3 i2) in
          subst (λ (n : ℕ). Hears names c.args.moment run p held faults known had came n i4 q faults_after published all) (both inside)
          (hears_of names c.args.moment run first (inside + taken names s3 s2 i3 i2) i3 p held faults known had came ((inside + taken names s3 s2 i3 i2) + taken names s4 s3 i4 i3) i4 q faults_after published all goes.stands last h);
      within = λ request inside responds.
          let run : List Answer → Progress = λ further. behind_at names request i2 inside further in
          let made = Writes (interp_state i2).made in
          let own : w2 ≡ made + 0 = writing_alone names i2 responds.2 in
          subst (λ (n : ℕ). StaysWithin names run had came n i4 all (inside + made) s2 s4) (both inside)
          (keeps run (inside + taken names s3 s2 i3 i2) (inside + made) s2 (told.stands request inside responds) (behind_within s2 s3 w2 w3 inside made own) (told.most request inside responds));
      counts = counted_both s2 s3 s4 w2 w3 w4 told.counts c.answer_all.ensures.counts;
      stands = last;
    }

pub returns-clause-sound : goal.returns-clause-sound
returns-clause-sound g c = λ names sound. c.answer_all.ensures.sound names (c.tell_whole.ensures.sound names sound)

pub returns-clause-blueprint : goal.returns-clause-blueprint
returns-clause-blueprint g c = c.answer_all.ensures.blueprint ∙ c.tell_whole.ensures.blueprint

pub returns-clause-outcome : goal.returns-clause-outcome
returns-clause-outcome g c = c.how_ended.ensures.way
