use Rattle.std.proofs.Common.{◌∙◌, ap₂}
use Rattle.clap.specs.Words.{with_rule}
use Rattle.serve_options.proofs.command.serve_command.Goals as goal

pub returns : goal.returns
returns c =
    c.in_ok-whole.ensures
    ∙ ap₂ with_rule (c.in_ok-queued.ensures
    ∙ ap₂ with_rule (c.in_ok-staffed.ensures ∙ ap₂ with_rule c.in_ok-required.ensures (c.told.ensures.rule ∙ c.number_option-workers.ensures.rule)) (c.told-2.ensures.rule ∙ c.number_option-queue.ensures.rule))
    (c.told-3.ensures.rule ∙ c.number_option-connections.ensures.rule)
