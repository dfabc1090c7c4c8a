use Rattle.std.proofs.Common.{subst, ◌∙◌, ◌+◌, [], refl, ◌∷◌}
use Rattle.natives.specs.Names.{names_of}
use Rattle.tcl_host.specs.Answers.{RepliesTo}
use Rattle.server_host.specs.Hosts.{HostState}
use Rattle.server_host.specs.Leaf.{host_table}
use Rattle.ictl.specs.declared.interp.Interp.{Interp}
use Rattle.ictl.proofs.Interpreters.{ok_same, responded, stops_lower, write_falls, write_stands}
use Rattle.ictl.proofs.Pages.{ready_asked, entered_gives, refused_gives}
use Rattle.ictl.specs.Interps.{IsWithin, interp_written}
use Rattle.ictl.specs.Steps.{asked_path}
use Rattle.ictl.proofs.Withins.{err_same, none_within, page_written, wants}
use Rattle.ictl.specs.Main.{page_question}
use Rattle.ictl.proofs.interp.Interp.enter_page.Goals as goal

pub page_words-requires : goal.page_words-requires
page_words-requires g c = (c.requires.0, c.requires.1, c.requires.2)

pub run-requires-clause-ready : goal.run-requires-clause-ready
run-requires-clause-ready g c =
    let old = c.args.self.now in
    ready_asked old.task c.requires.0 _ c.requires.1 c.in_ok-words.budget old.settling c.requires.2 c.requires.3 c.in_ok-words.ensures.budget

pub returns-in-Some-clause-gives : goal.returns-in-Some-clause-gives
returns-in-Some-clause-gives g c =
    let names = names_of c.args.natives.now in
    let old = c.args.self.now in
    let entered = rw c.in-Some.is at c.in_ok-found.ensures in
    let replied = subst (λ (h : HostState). RepliesTo c.answered-reply.result c.answered-reply.new.self (host_table.answers c.in_ok-words.words c.args.answer h)) c.host_mut-host.ensures.value c.answered-reply.ensures in
    ok_same c.run.result _ _
    (λ step h inside further. h inside further
    ∙ entered_gives names old c.in_ok-words.words c.args.answer c.answered-reply.new.self c.in_ok-words.budget inside further c.answered-reply.result c.in-Some.work entered replied
    c.in_ok-words.ensures.words c.in_ok-words.ensures.budget)
    c.run.ensures.gives

pub returns-in_ok-response-in-None-clause-lowers : goal.returns-in_ok-response-in-None-clause-lowers
returns-in_ok-response-in-None-clause-lowers g c = stops_lower c.respond.result _ c.respond.new.self _ c.respond.ensures.stops

pub returns-in_ok-response-in-None-clause-falls : goal.returns-in_ok-response-in-None-clause-falls
returns-in_ok-response-in-None-clause-falls g c = λ before less. write_falls c.respond.result _ c.respond.new.self before c.respond.ensures.stops

pub returns-in_ok-response-in-None-clause-next : goal.returns-in_ok-response-in-None-clause-next
returns-in_ok-response-in-None-clause-next g c =
    let old = c.args.self.now in
    let between : Interp = record old { settling = record old.settling { run = record old.settling.run { engine = record old.settling.run.engine { host = c.answered-reply.new.self } } } } in
    write_stands c.respond.result _ _ between c.respond.new.self c.respond.ensures.stops c.respond.ensures.task c.requires.3.1

pub returns-in_ok-response-in-None-clause-gives : goal.returns-in_ok-response-in-None-clause-gives
returns-in_ok-response-in-None-clause-gives g c = λ inside further.
    let names = names_of c.args.natives.now in
    let old = c.args.self.now in
    let host = c.answered-reply.new.self in
    let none = rw c.in-None.is at c.in_ok-found.ensures in
    let replied = subst (λ (h : HostState). RepliesTo c.answered-reply.result c.answered-reply.new.self (host_table.answers c.in_ok-words.words c.args.answer h)) c.host_mut-host.ensures.value c.answered-reply.ensures in
    let between : Interp = record old { settling = record old.settling { run = record old.settling.run { engine = record old.settling.run.engine { host = host } } } } in
    responded names c.respond.result c.in_ok-response-in-None.response between c.respond.new.self inside c.args.steps.now further c.respond.ensures.stops c.respond.ensures.task
    ∙ refused_gives names old c.in_ok-words.words c.args.answer host c.in_ok-words.budget inside further c.answered-reply.result c.in_ok-response-in-None.response
    none replied c.in_ok-response-in-None.ensures c.in_ok-words.ensures.words c.in_ok-words.ensures.budget

pub returns-in-Some-clause-most : goal.returns-in-Some-clause-most
returns-in-Some-clause-most g c =
    let names = names_of c.args.natives.now in
    let old = c.args.self.now in
    let entered = rw c.in-Some.is at c.in_ok-found.ensures in
    let replied = subst (λ (h : HostState). RepliesTo c.answered-reply.result c.answered-reply.new.self (host_table.answers c.in_ok-words.words c.args.answer h)) c.host_mut-host.ensures.value c.answered-reply.ensures in
    err_same c.run.result _ _
    (λ h inside. subst (IsWithin (inside + interp_written names old) c.args.steps.now c.run.new.steps c.run.new.self)
    (entered_gives names old c.in_ok-words.words c.args.answer c.answered-reply.new.self c.in_ok-words.budget inside [] c.answered-reply.result c.in-Some.work entered replied
    c.in_ok-words.ensures.words c.in_ok-words.ensures.budget) (h inside))
    c.run.ensures.most

pub returns-in_err-words-clause-most : goal.returns-in_err-words-clause-most
returns-in_err-words-clause-most g c = wants c.from_residual.result _ (λ inside.
    let names = names_of c.args.natives.now in
    let old = c.args.self.now in
    none_within names old _ inside c.args.steps.now _ c.requires.3.1 refl (page_written c.made_grows.ensures names (page_question (asked_path old.task)) old c.requires.0 c.requires.1 inside (c.args.answer ∷ []) c.requires.2))

pub returns-in_err-found-clause-most : goal.returns-in_err-found-clause-most
returns-in_err-found-clause-most g c = wants c.from_residual-in_err-found.result _ (λ inside.
    let names = names_of c.args.natives.now in
    let old = c.args.self.now in
    none_within names old _ inside c.args.steps.now _ c.requires.3.1 refl (page_written c.made_grows.ensures names (page_question (asked_path old.task)) old c.requires.0 c.requires.1 inside (c.args.answer ∷ []) c.requires.2))

pub returns-in_err-response-in-None-clause-most : goal.returns-in_err-response-in-None-clause-most
returns-in_err-response-in-None-clause-most g c = wants c.from_residual-in_err-response-in-None.result _ (λ inside.
    let names = names_of c.args.natives.now in
    let old = c.args.self.now in
    none_within names old _ inside c.args.steps.now _ c.requires.3.1 refl (page_written c.made_grows.ensures names (page_question (asked_path old.task)) old c.requires.0 c.requires.1 inside (c.args.answer ∷ []) c.requires.2))
