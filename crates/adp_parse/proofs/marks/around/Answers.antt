use Rattle.std.proofs.lemmas.List.{take_rest}
use Rattle.adp_parse.proofs.Searching.{found, not_found}
use Rattle.adp_parse.proofs.marks.around.Goals as goal

pub returns-in_err-at : goal.returns-in_err-at
returns-in_err-at c = rw c.from_residual.ensures (not_found c.args.text.now c.args.mark.now c.in_err-at.ensures)

pub returns : goal.returns
returns c = rw take_rest (found c.args.text.now c.args.mark.now c.in_ok-at.at c.requires c.in_ok-at.ensures)
