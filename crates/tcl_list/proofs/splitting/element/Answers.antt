use Rattle.std.proofs.Common.{◌≡◌, rules}
use Rattle.txt_core.specs.Lists.{opening, bare, in_nothing}
use Rattle.tcl_list.proofs.Answering.{gives_map, element_braces, element_quotes}
use Rattle.tcl_list.proofs.splitting.element.Goals as goal

pub returns-then-b-eq123-clause-same : goal.returns-then-b-eq123-clause-same
returns-then-b-eq123-clause-same c =
    gives_map _ _ _ _ (λ o e. element_braces c.in-Some.b.now c.args.bytes.now c.in-Some.tail.now o c.in-Some.ensures.cases.0 c.if-b-eq123.true e) c.braced_element.result c.braced_element.ensures.same

pub returns-then-b-eq34-clause-same : goal.returns-then-b-eq34-clause-same
returns-then-b-eq34-clause-same c =
    gives_map _ _ _ _ (λ o h. element_quotes c.in-Some.b.now c.args.bytes.now c.in-Some.tail.now o c.in-Some.ensures.cases.0 c.if-b-eq34.true h) c.quoted_element.result c.quoted_element.ensures.same

pub returns-clause-same : goal.returns-clause-same
returns-clause-same c =
    let begins : opening c.args.bytes.now ≡ bare = search rules in
    rw c.from_vec.ensures (in_nothing begins c.in_ok-text.ensures.same)
