use Rattle.tcl_string.proofs.filling.put_behind.Goals as goal

pub returns : goal.returns
returns c = (c.in_ok-put_part.ensures.0, rw c.in_ok-put_part.ensures.1 at c.of.ensures)
