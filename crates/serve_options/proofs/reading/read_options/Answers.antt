use Rattle.std.proofs.Common.{◌≡◌, ◌≢◌, List, [], map, rules, subst}
use Rattle.std.specs.Prelude.{IfErr, IfOk}
use Rattle.clap.specs.Words.{Text, fault_of, matches_of}
use Rattle.serve_options.specs.Command.{serve_app}
use Rattle.serve_options.specs.Reading.{AreIn}
use Rattle.serve_options.specs.declared.options.Refused.TheVariants.{BadWords}
use Rattle.serve_options.proofs.Faults.{read_whole, refused_whole}
use Rattle.serve_options.proofs.reading.read_options.Goals as goal

pub returns-clause-read : goal.returns-clause-read
returns-clause-read c =
    let words_are : map (λ s. s.now) c.as_slice.result.now ≡ c.args.words.now = search rules in
    read_whole _ c.matched.result c.in_ok-texts.ensures.utf8
    (subst (λ (words : List Text). IfOk c.matched.result (λ options. fault_of serve_app words ≡ [])) words_are c.matched.ensures.taken)
    (subst (λ (words : List Text). IfOk c.matched.result (AreIn (matches_of serve_app words))) words_are c.matched.ensures.read)

pub returns-clause-refused : goal.returns-clause-refused
returns-clause-refused c =
    let words_are : map (λ s. s.now) c.as_slice.result.now ≡ c.args.words.now = search rules in
    refused_whole _ c.matched.result
    (subst (λ (words : List Text). IfErr c.matched.result (λ e. e ≡ BadWords → fault_of serve_app words ≢ [])) words_are c.matched.ensures.refused)
