use Rattle.std.proofs.Common.{◌≡◌, ◌∙◌, ap, ap₂, refl, sym, true}
use Rattle.clap.specs.Words.{fault_of, is_simple, is_simple_and_free, matches_of}
use Rattle.clap.proofs.OnLiterals.{clap_on_literals}
use Rattle.serve_options.specs.Command.{serve_app}
use Rattle.serve_options.proofs.Faults.{is_free_app, only_memory}
use Rattle.serve_options.proofs.reading.parsed.Goals as goal

is_simple_app : is_simple serve_app ≡ true
unfolding clap_on_literals
is_simple_app = refl

pub returns-in-Ok-clause-matches : goal.returns-in-Ok-clause-matches
returns-in-Ok-clause-matches c =
    let same = c.in_ok-command.ensures in
    let found = c.in-Ok.ensures.matches (ap is_simple same ∙ is_simple_app) in
    found.0 ∙ ap₂ matches_of same refl

pub returns-in-Ok-clause-taken : goal.returns-in-Ok-clause-taken
returns-in-Ok-clause-taken c =
    let same = c.in_ok-command.ensures in
    ap₂ fault_of (sym same) refl ∙ c.in-Ok.ensures.kinds (ap is_simple_and_free same ∙ is_free_app)

pub returns-in-Err-clause-refused : goal.returns-in-Err-clause-refused
returns-in-Err-clause-refused c =
    let same = c.in_ok-command.ensures in
    λ bad none. only_memory _ c.in-Err.error (c.in-Err.ensures.kinds (ap is_simple_and_free same ∙ is_free_app)) (c.why.ensures bad) (ap₂ fault_of same refl ∙ none)
