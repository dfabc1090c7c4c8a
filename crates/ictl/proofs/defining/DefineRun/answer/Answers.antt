use Rattle.std.proofs.Common.{ℕ, ◌+◌, ◌≤◌, [], ◌∷◌, List, Option, sym, subst, ap, ◌∙◌, arith}
use Rattle.natives.specs.Names.{names_of}
use Rattle.outside.specs.declared.question.Answer.{Answer}
use Rattle.cmd_table.specs.Commands.{Writes}
use Rattle.ictl.specs.Within.{defined_own}
use Rattle.ictl.specs.Settle.{said}
use Rattle.ictl.specs.Defines.{define_end, no_inner, published}
use Rattle.ictl.specs.Standing.{state_of, comes_to, define_at}
use Rattle.ictl.specs.Falls.{DefineFalls, define_number}
use Rattle.ictl.specs.declared.running.Stop.TheVariants.{Asks}
use Rattle.ictl.proofs.Growing.{define_writes}
use Rattle.ictl.proofs.Settles.{settle_same}
use Rattle.ictl.proofs.Definings.{asks_none}
use Rattle.ictl.proofs.Withins.{wants}
use Rattle.ictl.proofs.defining.DefineRun.answer.Goals as goal

pub resume-requires : goal.resume-requires
resume-requires g c = (asks_none c.args.run.now c.args.self.now.questions c.args.self.now.value (sym (sym c.in-None.is ∙ c.take.ensures.value)) c.requires).0

pub stop-requires-clause-suffices : goal.stop-requires-clause-suffices
stop-requires-clause-suffices g c =
    c.in_ok-came-in-None.ensures.suffices c.args.self.now.questions
    (asks_none c.args.run.now c.args.self.now.questions c.args.self.now.value (sym (sym c.in-None.is ∙ c.take.ensures.value)) c.requires).1

pub returns-in_ok-stop-in-None-clause-gives : goal.returns-in_ok-stop-in-None-clause-gives
returns-in_ok-stop-in-None-clause-gives g c = λ bp m question further.
    let names = names_of c.args.natives.now in
    let d = c.args.self.now in
    c.in_ok-stop-in-None.ensures.gives names bp m further
    ∙ ap define_end (settle_same (no_inner names bp m) d.questions 0 (comes_to names c.in_ok-came-in-None.came c.resume.new.self) (λ given. comes_to names (Asks question) c.args.run.now ((c.args.answer, 0) ∷ given))
    (λ given. c.in_ok-came-in-None.ensures.gives question given) further)
    ∙ ap (λ (v : Option (List ℕ)). define_at names bp m question c.args.run.now d v (c.args.answer ∷ further)) (sym c.in-None.is ∙ c.take.ensures.value)

pub returns-in_ok-stop-in-None-clause-falls : goal.returns-in_ok-stop-in-None-clause-falls
returns-in_ok-stop-in-None-clause-falls g c =
    let d = c.args.self.now in
    subst (λ (v : Option (List ℕ)). DefineFalls c.in_ok-stop-in-None.stop c.stop.new.self (define_number d.questions v)) (sym c.in-None.is ∙ c.take.ensures.value)
    (c.in_ok-stop-in-None.ensures.falls (d.questions + 1) (omega arith))

pub returns-in-Some-clause-gives : goal.returns-in-Some-clause-gives
returns-in-Some-clause-gives g c = λ bp m question further.
    let names = names_of c.args.natives.now in
    let d = c.args.self.now in
    ap (λ (a : Answer). said a c.args.run.now.engine.budget (state_of c.args.run.now) further)
    (c.published-said.ensures ∙ ap (λ (value : List ℕ). published value c.args.answer) c.into_text.ensures)
    ∙ ap (λ (v : Option (List ℕ)). define_at names bp m question c.args.run.now d v (c.args.answer ∷ further)) (sym c.in-Some.is ∙ c.take.ensures.value)

pub returns-in_err-came-in-None-clause-most : goal.returns-in_err-came-in-None-clause-most
returns-in_err-came-in-None-clause-most g c = wants c.from_residual.result _ (λ bp m question.
    let names = names_of c.args.natives.now in
    let d = c.args.self.now in
    subst (λ (v : Option (List ℕ)). Writes c.resume.new.self.engine.made ≤ defined_own (define_at names bp m question c.args.run.now d v (c.args.answer ∷ []))) (sym c.in-None.is ∙ c.take.ensures.value)
    (define_writes (no_inner names bp m) (Writes c.resume.new.self.engine.made) d.questions 0 (λ given. comes_to names (Asks question) c.args.run.now ((c.args.answer, 0) ∷ given)) [] (c.resume.ensures.most question)))

pub returns-in_err-stop-in-None-clause-most : goal.returns-in_err-stop-in-None-clause-most
returns-in_err-stop-in-None-clause-most g c = wants c.from_residual-in_err-stop-in-None.result _ (λ bp m question.
    let names = names_of c.args.natives.now in
    let d = c.args.self.now in
    subst (λ (v : Option (List ℕ)). Writes c.resume.new.self.engine.made ≤ defined_own (define_at names bp m question c.args.run.now d v (c.args.answer ∷ []))) (sym c.in-None.is ∙ c.take.ensures.value)
    (define_writes (no_inner names bp m) (Writes c.resume.new.self.engine.made) d.questions 0 (λ given. comes_to names (Asks question) c.args.run.now ((c.args.answer, 0) ∷ given)) [] (c.resume.ensures.most question)))
