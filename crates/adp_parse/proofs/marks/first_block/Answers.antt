use Rattle.adp_parse.specs.Finding.{no_closing}
use Rattle.adp_parse.proofs.marks.first_block.Goals as goal

pub returns-in_err-content : goal.returns-in_err-content
returns-in_err-content c =
    rw c.from_residual-in_err-content.ensures (no_closing c.args.text.now c.in_ok-before.before.now c.in_ok-before.inside.now c.in_ok-before.ensures c.in_err-content.ensures)
