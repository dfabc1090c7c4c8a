use Rattle.std.proofs.Common.{◌≡◌, ◌∙◌, ◌++◌, ap, List, ℕ, true, false}
use Rattle.std.proofs.lemmas.Result.{IfOk-weaker}
use Rattle.std.specs.Prelude.{codes, flat_map}
use Rattle.conn_host.specs.RequestCommands.{path_of}
use Rattle.conn_host.proofs.Telling.{slashed_some}
use Rattle.conn_host.proofs.requested.path.Goals as goal

pub returns : goal.returns
returns c =
    IfOk-weaker c.slashed.result
    (λ (path : List ℕ). path ≡ flat_map (λ (segment : List ℕ). codes "/" ++ segment) c.as_slice.result.now)
    (λ (path : List ℕ). path ≡ path_of c.args.request.now)
    (λ path same. same
    ∙ ap (λ (segments : List (List ℕ)). flat_map (λ (segment : List ℕ). codes "/" ++ segment) segments) c.as_slice.ensures
    ∙ slashed_some c.args.request.now.segments (λ none. let empty : c.is_empty.result ≡ true = c.is_empty.ensures.1 none in let full : c.is_empty.result ≡ false = c.if-is_empty.false in cc))
    c.slashed.ensures
