use Rattle.std.proofs.Common.{◌≡◌, List, map, rules, subst}
use Rattle.clap.specs.Words.{HasKind, Text, fault_of}
use Rattle.serve_options.specs.Command.{serve_app}
use Rattle.serve_options.proofs.Faults.{shown_asks}
use Rattle.serve_options.proofs.reading.asked_for.Goals as goal

pub returns : goal.returns
returns c =
    let words_are : map (λ s. s.now) c.as_slice.result.now ≡ c.args.words.now = search rules in
    shown_asks c.args.words.now c.in_ok-error.error c.shown.result c.in-Ok.ensures.utf8
    (subst (λ (words : List Text). HasKind (fault_of serve_app words) c.in_ok-error.error) words_are c.in_ok-error.ensures) c.shown.ensures
