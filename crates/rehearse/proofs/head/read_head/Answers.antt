use Rattle.rehearse.proofs.Heads.{no_name, no_keyword}
use Rattle.rehearse.proofs.head.read_head.Goals as goal

pub returns-in_err-name : goal.returns-in_err-name
returns-in_err-name c = rw c.from_residual.ensures (no_name c.args.line.now c.in_err-name.ensures)

pub returns-in_err-find_keyword : goal.returns-in_err-find_keyword
returns-in_err-find_keyword c =
    rw c.from_residual-in_err-find_keyword.ensures
    (no_keyword c.args.line.now c.in_ok-name.name.now c.in_ok-name.words.now c.in_ok-name.ensures c.in_err-find_keyword.ensures)
