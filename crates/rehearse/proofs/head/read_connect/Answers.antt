use Rattle.rehearse.proofs.Heads.{no_gap, no_number, no_input_size}
use Rattle.rehearse.proofs.head.read_connect.Goals as goal

pub returns-in_err-number : goal.returns-in_err-number
returns-in_err-number c = rw c.from_residual.ensures (no_gap c.args.words.now c.in_err-number.ensures)

pub returns-in_err-number-2 : goal.returns-in_err-number-2
returns-in_err-number-2 c =
    rw c.from_residual-in_err-number-2.ensures
    (no_number c.args.words.now c.in_ok-number.number.now c.in_ok-number.size.now c.in_ok-number.ensures c.in_err-number-2.ensures)

pub returns-in_err-read_length : goal.returns-in_err-read_length
returns-in_err-read_length c =
    rw c.from_residual-in_err-read_length.ensures
    (no_input_size c.args.words.now c.in_ok-number.number.now c.in_ok-number.size.now c.in_ok-number.ensures c.in_err-read_length.ensures)
