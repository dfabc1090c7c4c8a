use Rattle.std.proofs.Common.{◌∙◌, ap₂}
use Rattle.clap.specs.Words.{with_rule}
use Rattle.serve_options.proofs.command.required_command.Goals as goal

pub returns : goal.returns
returns c =
    c.in_ok-listening.ensures
    ∙ ap₂ with_rule (c.in_ok-started.ensures
    ∙ ap₂ with_rule (c.in_ok-rooted.ensures ∙ ap₂ with_rule c.bare_command.ensures (c.told.ensures.rule ∙ c.required_option-root.ensures.rule)) (c.told-2.ensures.rule ∙ c.required_option-start.ensures.rule))
    (c.told-3.ensures.rule ∙ c.required_option-listen.ensures.rule)
