use Rattle.std.proofs.Common.{arith, ap, ◌∙◌, ◌-◌, List, ℕ, take, drop}
use Rattle.http_req.proofs.Receiving.{sent_slice}
use Rattle.http_req.proofs.body.sent_behind.Goals as goal

pub returns : goal.returns
returns c =
    ap (λ (t : List ℕ). take (c.min-end.result - c.args.start) (drop c.args.start t)) c.bytes.ensures
    ∙ sent_slice c.args.start c.args.carry.now c.min-end.result c.requires.within (omega (arith, c.min-end.ensures, c.len.ensures))
