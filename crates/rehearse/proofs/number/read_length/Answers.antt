use Rattle.rehearse.proofs.Numbers.{too_large}
use Rattle.rehearse.proofs.number.read_length.Goals as goal

pub returns-then-length-most : goal.returns-then-length-most
returns-then-length-most c x h = too_large c.args.digits.now c.in_ok-length.length x c.args.most c.requires c.in_ok-length.ensures c.if-length-most.true h
