use Rattle.std.proofs.Common.{sym, ap, ◌∙◌, arith}
use Rattle.std.specs.Option.{option_copied}
use Rattle.std.proofs.lemmas.Bool.Decides.{nat_tests}
use Rattle.http_req.proofs.FieldFacts.{chunked_absent, chunked_first}
use Rattle.http_req.proofs.fields.is_chunked.Goals as goal

pub returns-in_default : goal.returns-in_default
returns-in_default c = chunked_absent c.args.fields.now (sym c.first_of.ensures ∙ ap option_copied c.in_default.is)

pub returns-then-count_of-ne1 : goal.returns-then-count_of-ne1
returns-then-count_of-ne1 c =
    let first = chunked_first c.args.fields.now c.in-Some.first.now (sym c.first_of.ensures ∙ ap option_copied c.in-Some.is) c.count_of.result c.count_of.ensures in
    first.1 (λ one. grind (arith, nat_tests, one))

pub returns : goal.returns
returns c =
    let first = chunked_first c.args.fields.now c.in-Some.first.now (sym c.first_of.ensures ∙ ap option_copied c.in-Some.is) c.count_of.result c.count_of.ensures in
    c.says_chunked.ensures ∙ first.0 (grind (arith, nat_tests))
