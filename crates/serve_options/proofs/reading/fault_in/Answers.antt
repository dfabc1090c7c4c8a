use Rattle.std.proofs.Common.{◌∙◌, ap, ap₂, refl, subst}
use Rattle.clap.specs.Words.{FailsBy, fault_of, is_simple_and_free}
use Rattle.serve_options.proofs.Faults.{is_free_app, err_kind}
use Rattle.serve_options.proofs.reading.fault_in.Goals as goal

pub returns : goal.returns
returns c =
    let same = c.in-Ok.ensures in
    err_kind _ c.try_get_matches_from.result c.err.result c.err.ensures.value
    (subst (λ kinds. FailsBy kinds c.try_get_matches_from.result) (ap₂ fault_of same refl)
    (c.try_get_matches_from.ensures.kinds (ap is_simple_and_free same ∙ is_free_app)))
