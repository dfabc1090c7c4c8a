use Rattle.std.proofs.Common.{◌∙◌, ◌+◌, [], subst, sym, ◌∷◌}
use Rattle.natives.specs.Names.{names_of}
use Rattle.ictl.specs.Main.{page_question}
use Rattle.ictl.specs.Steps.{asked_path}
use Rattle.ictl.specs.Falls.{task_number}
use Rattle.ictl.proofs.Interpreters.{other_asks, other_script, asked_falls, moved_on, answered_on, page_asking, script_answered, script_asking}
use Rattle.ictl.specs.Interps.{IsWithin, interp_written, asking_gives}
use Rattle.ictl.proofs.Withins.{task_within, moved_within, wants}
use Rattle.ictl.specs.declared.task.Move.TheVariants as moves
use Rattle.ictl.proofs.interp.Interp.answered.Goals as goal

pub enter_page-requires : goal.enter_page-requires
enter_page-requires g c = (c.in-PageAsked.path, c.in-PageAsked.budget, c.in-PageAsked.is, rw c.in-PageAsked.is at c.requires)

pub moves-requires : goal.moves-requires
moves-requires g c = c.in_ok-step-in-PageAsked.ensures.next

pub answer_define-requires-clause-asking : goal.answer_define-requires-clause-asking
answer_define-requires-clause-asking g c = c.requires

pub answer_define-requires-clause-define : goal.answer_define-requires-clause-define
answer_define-requires-clause-define g c = (c.in-Define.field-0, c.in-Define.is)

pub go_on-requires-clause-at : goal.go_on-requires-clause-at
go_on-requires-clause-at g c = c.in_ok-stop-in_default.ensures.at

pub returns-in_ok-next-in-PageAsked-clause-next : goal.returns-in_ok-next-in-PageAsked-clause-next
returns-in_ok-next-in-PageAsked-clause-next g c = c.in_ok-next-in-PageAsked.ensures.next

pub returns-in_ok-next-in-Define-clause-next : goal.returns-in_ok-next-in-Define-clause-next
returns-in_ok-next-in-Define-clause-next g c = c.in_ok-next-in-Define.ensures.next

pub returns-in_ok-next-in-Define-clause-falls : goal.returns-in_ok-next-in-Define-clause-falls
returns-in_ok-next-in-Define-clause-falls g c = c.in_ok-next-in-Define.ensures.falls

pub returns-in_ok-next-in_default-clause-next : goal.returns-in_ok-next-in_default-clause-next
returns-in_ok-next-in_default-clause-next g c = c.in_ok-next-in_default.ensures.next

pub returns-in_ok-next-in-PageAsked-clause-step : goal.returns-in_ok-next-in-PageAsked-clause-step
returns-in_ok-next-in-PageAsked-clause-step g c = λ question inside further.
    let names = names_of c.args.natives.now in
    let old = c.args.self.now in
    moved_on names c.in_ok-step-in-PageAsked.step c.in_ok-next-in-PageAsked.next old c.enter_page.new.self c.moves.new.self inside c.args.steps.now c.enter_page.new.steps c.moves.new.steps further _
    c.enter_page.ensures.counts c.moves.ensures.counts (c.in_ok-step-in-PageAsked.ensures.gives inside further) (λ n. c.in_ok-next-in-PageAsked.ensures.gives n further)
    ∙ page_asking names (page_question (asked_path old.task)) question c.in-PageAsked.path c.in-PageAsked.budget old inside c.args.answer further c.in-PageAsked.is

pub answer-requires : goal.answer-requires
answer-requires g c = other_asks c.args.self.now.task c.args.self.now.settling c.in_default.not-PageAsked c.in_default.not-Define c.requires

pub go_on-requires-clause-script : goal.go_on-requires-clause-script
go_on-requires-clause-script g c = other_script c.args.self.now.task c.args.self.now.settling c.in_default.not-PageAsked c.in_default.not-Define c.requires

pub returns-in_ok-next-in_default-clause-step : goal.returns-in_ok-next-in_default-clause-step
returns-in_ok-next-in_default-clause-step g c = λ question inside further.
    let names = names_of c.args.natives.now in
    let old = c.args.self.now in
    let script = other_script old.task old.settling c.in_default.not-PageAsked c.in_default.not-Define c.requires in
    answered_on names c.in_ok-stop-in_default.stop c.in_ok-next-in_default.next old (record old { settling = c.answer.new.self }) c.go_on.new.self inside c.args.steps.now c.answer.new.steps c.go_on.new.steps further _
    c.answer.ensures.counts c.go_on.ensures.counts
    (script_answered names question c.in_ok-stop-in_default.stop old c.answer.new.self inside c.args.steps.now c.answer.new.steps c.args.answer further script (c.in_ok-stop-in_default.ensures.gives question inside further))
    (λ n. c.in_ok-next-in_default.ensures.gives n further)

pub returns-in_ok-next-in_default-clause-falls : goal.returns-in_ok-next-in_default-clause-falls
returns-in_ok-next-in_default-clause-falls g c =
    let old = c.args.self.now in
    let script = other_script old.task old.settling c.in_default.not-PageAsked c.in_default.not-Define c.requires in
    c.in_ok-next-in_default.ensures.falls (task_number old.task old.settling) (asked_falls old.task old.settling c.answer.new.self c.in_ok-stop-in_default.stop script c.answer.ensures.lower c.in_ok-stop-in_default.ensures.falls)

pub returns-in_err-step-in-PageAsked-clause-most : goal.returns-in_err-step-in-PageAsked-clause-most
returns-in_err-step-in-PageAsked-clause-most g c = wants c.from_residual.result _ (λ question inside.
    let names = names_of c.args.natives.now in
    let old = c.args.self.now in
    subst (IsWithin (inside + interp_written names old) c.args.steps.now c.enter_page.new.steps c.enter_page.new.self)
    (page_asking names (page_question (asked_path old.task)) question c.in-PageAsked.path c.in-PageAsked.budget old inside c.args.answer [] c.in-PageAsked.is) (c.in_err-step-in-PageAsked.ensures.most inside))

pub returns-in_err-next-in-PageAsked-clause-most : goal.returns-in_err-next-in-PageAsked-clause-most
returns-in_err-next-in-PageAsked-clause-most g c = wants c.from_residual-in_err-next-in-PageAsked.result _ (λ question inside.
    let names = names_of c.args.natives.now in
    let old = c.args.self.now in
    moved_within names c.in_ok-step-in-PageAsked.step old c.enter_page.new.self c.moves.new.self inside c.args.steps.now c.enter_page.new.steps c.moves.new.steps (asking_gives names question old.task inside old (c.args.answer ∷ [])) c.enter_page.ensures.counts
    (c.in_ok-step-in-PageAsked.ensures.gives inside [] ∙ page_asking names (page_question (asked_path old.task)) question c.in-PageAsked.path c.in-PageAsked.budget old inside c.args.answer [] c.in-PageAsked.is)
    (λ n. c.in_err-next-in-PageAsked.ensures.most n))

pub returns-in_err-next-in-Define-clause-most : goal.returns-in_err-next-in-Define-clause-most
returns-in_err-next-in-Define-clause-most g c =
    wants c.from_residual-in_err-next-in-Define.result _ (c.in_err-next-in-Define.ensures.most)

pub returns-in_err-stop-in_default-clause-most : goal.returns-in_err-stop-in_default-clause-most
returns-in_err-stop-in_default-clause-most g c = wants c.from_residual-in_err-stop-in_default.result _ (λ question inside.
    let names = names_of c.args.natives.now in
    let old = c.args.self.now in
    let script = other_script old.task old.settling c.in_default.not-PageAsked c.in_default.not-Define c.requires in
    subst (IsWithin (inside + interp_written names old) c.args.steps.now c.answer.new.steps (record old { settling = c.answer.new.self }))
    (sym (script_asking names question old.task old inside (c.args.answer ∷ []) script))
    (task_within c.made_grows.ensures names old old.task _ (inside + interp_written names old) c.args.steps.now c.answer.new.steps (record old { settling = c.answer.new.self }) (c.in_err-stop-in_default.ensures.most question inside)))

pub returns-in_err-next-in_default-clause-most : goal.returns-in_err-next-in_default-clause-most
returns-in_err-next-in_default-clause-most g c = wants c.from_residual-in_err-next-in_default.result _ (λ question inside.
    let names = names_of c.args.natives.now in
    let old = c.args.self.now in
    let script = other_script old.task old.settling c.in_default.not-PageAsked c.in_default.not-Define c.requires in
    moved_within names (moves.Goes c.in_ok-stop-in_default.stop) old (record old { settling = c.answer.new.self }) c.go_on.new.self inside c.args.steps.now c.answer.new.steps c.go_on.new.steps _ c.answer.ensures.counts
    (script_answered names question c.in_ok-stop-in_default.stop old c.answer.new.self inside c.args.steps.now c.answer.new.steps c.args.answer [] script (c.in_ok-stop-in_default.ensures.gives question inside []))
    (λ n. c.in_err-next-in_default.ensures.most n))
