use Rattle.std.proofs.Common.{sym, ap, ◌∙◌, subst, arith, length}
use Rattle.http_req.specs.Chunks.{behind_line, piece_at, Finds}
use Rattle.http_req.proofs.chunk.find_chunk.Goals as goal

pub returns-in-Whole : goal.returns-in-Whole
unfolding piece_at
returns-in-Whole c =
    subst (λ p. Finds p (length c.args.text.now) c.behind_line.result)
    (ap (behind_line c.args.sum c.args.text.now) (sym c.in-Whole.is ∙ c.chunk_line.ensures.is)) c.behind_line.ensures

pub returns-in-Bad : goal.returns-in-Bad
unfolding piece_at
returns-in-Bad c = ap (behind_line c.args.sum c.args.text.now) (sym c.chunk_line.ensures.is ∙ c.in-Bad.is)

pub returns-in-Cut : goal.returns-in-Cut
unfolding piece_at
returns-in-Cut c = (ap (behind_line c.args.sum c.args.text.now) (sym c.chunk_line.ensures.is ∙ c.in-Cut.is), omega arith)
