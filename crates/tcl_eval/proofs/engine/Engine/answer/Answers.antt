use Rattle.natives.specs.Names.{names_of}
use Rattle.std.proofs.Common.{◌∙◌, sym, ap, ◌∷◌}
use Rattle.tcl_eval.proofs.Acts.{answered_step}
use Rattle.tcl_eval.specs.Engine.{acted_next, gives, comes_to}
use Rattle.tcl_eval.specs.Laws.{state_in, IsFront}
use Rattle.tcl_eval.specs.declared.engine.Engine.{Engine}
use Rattle.tcl_eval.specs.declared.outcome.Outcome.TheVariants.{Asks}
use Rattle.tcl_eval.proofs.Fronts.{on_err, front_from, front_same, outcome_front}
use Rattle.tcl_eval.specs.State.{Given}
use Rattle.outside.specs.declared.question.Question.{Question}
use Rattle.tcl_eval.proofs.engine.Engine.answer.Goals as goal

pub returns-clause-step : goal.returns-clause-step
returns-clause-step g c = λ question gv.
    let ns = names_of c.args.natives.now in
    let t = g.H.Host.table in
    let paid = c.if-not-pay.ensures in
    let said = t.answers c.in-Some.open.words c.args.answer c.pay.new.self.host in
    answered_step ns t c.args.self.now c.pay.new.self c.take.new.self c.in-Some.open c.answer_cost.result c.args.answer c.answered-reply.new.self question gv _ c.answer_cost.ensures paid.0 paid.1 (sym c.take.ensures.value ∙ c.in-Some.is)
    (c.in_ok-outcome.ensures.means gv ∙ c.in_ok-acted.ensures.means ns said c.answered-reply.ensures gv)

pub returns-in_err-acted-clause-front : goal.returns-in_err-acted-clause-front
returns-in_err-acted-clause-front g c =
    let ns = names_of c.args.natives.now in
    let t = g.H.Host.table in
    let e = c.args.self.now in
    let same = c.in_err-acted.ensures.kept ∙ ap (λ (x : Engine g.row.H.Denot). x.made) c.if-not-pay.ensures.1 in
    let front : (question : Question) (further : Given) → IsFront c.replied.new.self.made (state_in (comes_to ns t (Asks question) e ((c.args.answer, 0) ∷ further))).made =
    λ question further. front_from c.replied.new.self.made e.made (state_in (comes_to ns t (Asks question) e ((c.args.answer, 0) ∷ further))).made same
    (outcome_front ns t (Asks question) e ((c.args.answer, 0) ∷ further)) in
    on_err _ front

pub returns-in_err-outcome-clause-front : goal.returns-in_err-outcome-clause-front
returns-in_err-outcome-clause-front g c =
    let ns = names_of c.args.natives.now in
    let t = g.H.Host.table in
    let e = c.args.self.now in
    let paid = c.if-not-pay.ensures in
    let said = t.answers c.in-Some.open.words c.args.answer c.pay.new.self.host in
    let new = c.replied.new.self in
    let front : (question : Question) (further : Given) → IsFront c.run_on.new.self.made (state_in (comes_to ns t (Asks question) e ((c.args.answer, 0) ∷ further))).made =
    λ question further. front_same c.run_on.new.self.made (gives ns t (acted_next ns t c.in_ok-acted.acted new.question) new further) (comes_to ns t (Asks question) e ((c.args.answer, 0) ∷ further))
    (answered_step ns t e c.pay.new.self c.take.new.self c.in-Some.open c.answer_cost.result c.args.answer c.answered-reply.new.self question further (gives ns t (acted_next ns t c.in_ok-acted.acted new.question) new further) c.answer_cost.ensures paid.0 paid.1 (sym c.take.ensures.value ∙ c.in-Some.is)
    (c.in_ok-acted.ensures.means ns said c.answered-reply.ensures further))
    (c.in_err-outcome.ensures.front further) in
    on_err _ front
