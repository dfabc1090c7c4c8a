use Rattle.std.proofs.Common.{◌∙◌}
use Rattle.tcl_eval.proofs.Pairs.{next_pair}
use Rattle.tcl_eval.proofs.switch.body_or_next.Goals as goal

pub pairs-preserved : goal.pairs-preserved
pairs-preserved c =
    let dash = rw (c.bytes.ensures, c.as_slice.ensures) at c.if-ne.ensures in
    next_pair c.pairs.chosen.now c.next-item.result c.pairs.left.now c.in-len2-up.len_at_least c.next-item.is dash ∙ c.pairs.invariant
