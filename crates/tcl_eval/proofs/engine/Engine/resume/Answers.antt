use Rattle.natives.specs.Names.{names_of}
use Rattle.std.proofs.Common.{◌∙◌, sym, ap, append_assoc, [], ◌∷◌, refl}
use Rattle.tcl_eval.specs.State.{Given}
use Rattle.tcl_eval.specs.Engine.{run_of, with_more, comes_to}
use Rattle.tcl_eval.proofs.Acts.{ran, charged_step}
use Rattle.tcl_eval.specs.declared.outcome.Outcome.TheVariants.{Asks}
use Rattle.tcl_eval.proofs.Fronts.{front_same, outcome_front}
use Rattle.tcl_eval.proofs.engine.Engine.resume.Goals as goal

pub returns-in-Ok-clause-step : goal.returns-in-Ok-clause-step
returns-in-Ok-clause-step g c = ran c.in-Ok.outcome _ (λ question charge further.
    charged_step (names_of c.args.natives.now) g.H.Host.table c.args.self.now c.args.answer question charge further _ (c.in-Ok.ensures.step question further))

pub returns-in-Ok-clause-stands : goal.returns-in-Ok-clause-stands
returns-in-Ok-clause-stands g c = ran c.in-Ok.outcome _ (λ question start given charge before further.
    let ns = names_of c.args.natives.now in
    let t = g.H.Host.table in
    ap (λ (l : Given). run_of ns t start l) (append_assoc given ((c.args.answer, charge) ∷ []) further)
    ∙ before ((c.args.answer, charge) ∷ further)
    ∙ sym (charged_step ns t c.args.self.now c.args.answer question charge further _ (c.in-Ok.ensures.step question further)))

pub returns-in-Ok-clause-front : goal.returns-in-Ok-clause-front
returns-in-Ok-clause-front g c = λ question charge further.
    let ns = names_of c.args.natives.now in
    let t = g.H.Host.table in
    let e = c.args.self.now in
    let new = c.answer.new.self in
    let same = charged_step ns t e c.args.answer question charge further _ (c.in-Ok.ensures.step question further) in
    front_same new.made (comes_to ns t c.in-Ok.outcome new further) (comes_to ns t (Asks question) (with_more e charge) ((c.args.answer, charge) ∷ further)) same (outcome_front ns t c.in-Ok.outcome new further)

pub returns-in-Err-clause-front : goal.returns-in-Err-clause-front
returns-in-Err-clause-front g c = λ question charge further.
    let ns = names_of c.args.natives.now in
    let t = g.H.Host.table in
    let e = c.args.self.now in
    let x = comes_to ns t (Asks question) e ((c.args.answer, 0) ∷ further) in
    front_same c.answer.new.self.made x (comes_to ns t (Asks question) (with_more e charge) ((c.args.answer, charge) ∷ further)) (charged_step ns t e c.args.answer question charge further x refl) (c.in-Err.ensures.front question further)
