use Rattle.rehearse.proofs.Heads.{no_path, no_page_size}
use Rattle.rehearse.proofs.head.read_page.Goals as goal

pub returns-in_err-path : goal.returns-in_err-path
returns-in_err-path c = rw c.from_residual.ensures (no_path c.args.words.now c.in_err-path.ensures)

pub returns-in_err-read_length : goal.returns-in_err-read_length
returns-in_err-read_length c =
    rw c.from_residual-in_err-read_length.ensures
    (no_page_size c.args.words.now c.in_ok-path.path.now c.in_ok-path.size.now c.in_ok-path.ensures c.in_err-read_length.ensures)
