use Rattle.std.proofs.Common.{◌≡◌, ◌++◌, Ok, subst, rules}
use Rattle.tcl_list.specs.Answers.{AppendsTo}
use Rattle.tcl_list.specs.Appending.{spaced}
use Rattle.txt_core.specs.Knowing.{IsWrittenList}
use Rattle.tcl_list.proofs.Behind.{appends_spaced, written_spaced}
use Rattle.tcl_list.proofs.appending.elements_behind.Goals as goal

pub returns-clause-appends : goal.returns-clause-appends
returns-clause-appends c =
    let more : spaced c.args.words.now ≡ c.from_vec.result = search rules in
    subst (λ text. AppendsTo c.args.list.now c.args.words.now (Ok (c.args.list.now ++ text))) more (appends_spaced c.args.list.now c.args.words.now c.requires)

pub returns-clause-written : goal.returns-clause-written
returns-clause-written c =
    let more : spaced c.args.words.now ≡ c.from_vec.result = search rules in
    subst (λ text. IsWrittenList (c.args.list.now ++ text)) more (written_spaced c.args.list.now c.args.words.now c.requires)
