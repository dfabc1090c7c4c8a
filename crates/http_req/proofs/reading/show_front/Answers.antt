use Rattle.std.proofs.Common.{◌≡◌, ℕ, List, [], sym, subst, arith}
use Rattle.std.specs.Prelude.{IfOk}
use Rattle.httparse.specs.Grammar.{RequestHead}
use Rattle.httparse.specs.Spans.{IsRequestAt}
use Rattle.http_req.specs.Fronts.{HeadStands}
use Rattle.http_req.specs.Requests.{shown}
use Rattle.http_req.proofs.Receiving.{front_slice}
use Rattle.http_req.proofs.reading.show_front.Goals as goal

pub show-requires : goal.show-requires
show-requires c =
    subst (λ (t : List ℕ). HeadStands t c.args.spans.now c.args.head.now) (sym (front_slice c.args.input.now c.min.result (omega (arith, c.min.ensures)))) c.requires

pub returns : goal.returns
returns c =
    subst (λ (t : List ℕ). IfOk c.show.result (λ request. (tree : RequestHead) → IsRequestAt t c.args.spans.now c.args.head.now tree → request ≡ shown tree [] c.args.peer.now))
    (front_slice c.args.input.now c.min.result (omega (arith, c.min.ensures))) c.show.ensures
