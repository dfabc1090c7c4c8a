use Rattle.std.proofs.Common.{◌≡◌, ℕ, List, refl, sym, subst, ap, ◌∙◌}
use Rattle.std.proofs.lemmas.Result.{err_from_is_err_and}
use Rattle.http_resp.specs.declared.response.Response.{Response}
use Rattle.ictl.specs.Main.{writes}
use Rattle.ictl.specs.Interps.{interp_state}
use Rattle.ictl.specs.declared.ending.Ending.TheVariants.{Answered}
use Rattle.ictl.proofs.Interpreters.{cut_writes, cut_ends}
use Rattle.ictl.proofs.interp.Interp.cut.Goals as goal

pub returns-in-Trace-clause-gives : goal.returns-in-Trace-clause-gives
returns-in-Trace-clause-gives c = λ names inside further.
    cut_ends names c.args.ending c.in-Trace.first _ c.args.self.now _ _ inside further c.requires.cut c.cut_behind.ensures.stops c.cut_behind.ensures.task c.in-Trace.is (λ x. (refl, refl))

pub returns-in-Cleanup-clause-gives : goal.returns-in-Cleanup-clause-gives
returns-in-Cleanup-clause-gives c = λ names inside further.
    cut_ends names c.args.ending c.in-Cleanup.first _ c.args.self.now _ _ inside further c.requires.cut c.cut_behind-in-Cleanup.ensures.stops c.cut_behind-in-Cleanup.ensures.task c.in-Cleanup.is (λ x. (refl, refl))

pub returns-in-Script-clause-gives : goal.returns-in-Script-clause-gives
returns-in-Script-clause-gives c = λ names inside further.
    cut_ends names c.args.ending Answered _ c.args.self.now _ _ inside further c.requires.cut c.cut_behind-in-Script.ensures.stops c.cut_behind-in-Script.ensures.task c.in-Script.is (λ x. (refl, refl))

pub returns-in_ok-response-in_default-clause-gives : goal.returns-in_ok-response-in_default-clause-gives
returns-in_ok-response-in_default-clause-gives c = λ names inside further.
    let old = c.args.self.now in
    ap (λ (r : Response). writes r c.args.ending (interp_state old) inside further) c.in_ok-response-in_default.ensures
    ∙ sym (cut_writes names c.args.ending old.task old inside further c.requires.cut c.in_default.not-Trace c.in_default.not-Cleanup c.in_default.not-Script)

pub returns-in_err-response-in_default : goal.returns-in_err-response-in_default
returns-in_err-response-in_default c =
    let p = err_from_is_err_and c.from_residual.result c.from_residual.ensures.1 in
    rw p.1 (record { gives = λ names. tt; stops = tt; next = tt; rest = (c.args.self.now.task, refl) })
