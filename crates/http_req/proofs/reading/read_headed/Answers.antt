use Rattle.std.proofs.Common.{ℕ, List, refl, sym, ◌∙◌, subst, arith, Err}
use Rattle.std.proofs.lemmas.Result.{err_from_is_err_and}
use Rattle.http_req.specs.Fronts.{HeadStands}
use Rattle.http_req.specs.Heads.{front}
use Rattle.http_req.specs.Readings.{Passes, Received}
use Rattle.http_req.specs.declared.request.Got.{Got}
use Rattle.http_req.specs.declared.request.Got.TheVariants as got
use Rattle.http_req.specs.declared.request.Request.{Request}
use Rattle.http_req.proofs.Fetches.{moves_none}
use Rattle.http_req.proofs.Receiving.{crowded, few_shown, passes_head, passes_own_peer, fails_head, received_refusal, received_body}
use Rattle.http_req.proofs.reading.read_headed.Goals as goal

pub returns-then-head-gt-FIELD_LIMIT : goal.returns-then-head-gt-FIELD_LIMIT
returns-then-head-gt-FIELD_LIMIT g c =
    received_refusal _ _ _ _ _ _ c.args.carry.now c.args.peer.now _ (moves_none _ _ _) refl
    (crowded c.args.carry.now c.args.spans.now c.args.head.now c.requires c.if-head-gt-FIELD_LIMIT.true c.args.peer.now)

pub refusal-requires : goal.refusal-requires
refusal-requires g c =
    let stands : HeadStands (front c.bytes.result.now) c.args.spans.now c.args.head.now = subst (λ (input : List ℕ). HeadStands (front input) c.args.spans.now c.args.head.now) (sym c.bytes.ensures) c.requires in
    record { few = few_shown c.bytes.result.now c.args.spans.now c.args.head.now c.args.peer.now c.in_ok-shown.shown stands c.in_ok-shown.ensures (omega (arith, c.if-head-gt-FIELD_LIMIT.false)) }

pub returns-in-Some : goal.returns-in-Some
returns-in-Some g c =
    let stands : HeadStands (front c.bytes.result.now) c.args.spans.now c.args.head.now = subst (λ (input : List ℕ). HeadStands (front input) c.args.spans.now c.args.head.now) (sym c.bytes.ensures) c.requires in
    received_refusal _ _ _ _ _ _ c.bytes.result.now c.args.peer.now _ (moves_none _ _ _) c.bytes.ensures
    (fails_head c.bytes.result.now c.args.spans.now c.args.head.now c.args.peer.now c.in_ok-shown.shown c.in-Some.status stands c.in_ok-shown.ensures (sym c.in-Some.is ∙ c.refusal.ensures))

pub read_body-requires : goal.read_body-requires
read_body-requires g c =
    let stands : HeadStands (front c.bytes.result.now) c.args.spans.now c.args.head.now = subst (λ (input : List ℕ). HeadStands (front input) c.args.spans.now c.args.head.now) (sym c.bytes.ensures) c.requires in
    let shown = passes_head c.bytes.result.now c.args.spans.now c.args.head.now c.args.peer.now c.in_ok-shown.shown stands c.in_ok-shown.ensures (sym c.in-None.is ∙ c.refusal.ensures) in
    let passes : Passes c.bytes.result.now c.args.peer.now c.args.head.now.len c.in_ok-request-in-None.request = subst (λ (r : Request). Passes c.bytes.result.now c.args.peer.now c.args.head.now.len r) (sym c.in_ok-request-in-None.ensures) shown in
    subst (λ (input : List ℕ). Passes input c.in_ok-request-in-None.request.peer c.args.head.now.len c.in_ok-request-in-None.request) c.bytes.ensures
    (passes_own_peer c.bytes.result.now c.args.peer.now c.args.head.now.len c.in_ok-request-in-None.request passes)

pub returns-in_err-request-in-None : goal.returns-in_err-request-in-None
returns-in_err-request-in-None g c =
    let p = err_from_is_err_and c.from_residual-in_err-request-in-None.result c.from_residual-in_err-request-in-None.ensures.1 in
    rw p.1 (subst (λ (answer : Got). Received c.args.carry.now (g.S.Source.rest c.args.source.now) (g.S.Source.faults c.args.source.now) c.args.peer.now (Err answer) c.args.carry.now (g.S.Source.rest c.args.source.now) (g.S.Source.faults c.args.source.now)) (sym p.2)
    (received_refusal _ _ _ _ _ _ c.bytes.result.now c.args.peer.now got.NoMemory (moves_none _ _ _) c.bytes.ensures tt))

pub returns-in_err-read_body-in-None : goal.returns-in_err-read_body-in-None
returns-in_err-read_body-in-None g c =
    let stands : HeadStands (front c.bytes.result.now) c.args.spans.now c.args.head.now = subst (λ (input : List ℕ). HeadStands (front input) c.args.spans.now c.args.head.now) (sym c.bytes.ensures) c.requires in
    let shown = passes_head c.bytes.result.now c.args.spans.now c.args.head.now c.args.peer.now c.in_ok-shown.shown stands c.in_ok-shown.ensures (sym c.in-None.is ∙ c.refusal.ensures) in
    let passes : Passes c.bytes.result.now c.args.peer.now c.args.head.now.len c.in_ok-request-in-None.request = subst (λ (r : Request). Passes c.bytes.result.now c.args.peer.now c.args.head.now.len r) (sym c.in_ok-request-in-None.ensures) shown in
    let p = err_from_is_err_and c.from_residual-in_err-read_body-in-None.result c.from_residual-in_err-read_body-in-None.ensures.1 in
    rw p.1 (subst (λ (answer : Got). Received c.args.carry.now (g.S.Source.rest c.args.source.now) (g.S.Source.faults c.args.source.now) c.args.peer.now (Err answer) c.read_body.new.carry (g.S.Source.rest c.read_body.new.source) (g.S.Source.faults c.read_body.new.source)) (sym p.2)
    (received_body _ _ _ _ _ _ c.bytes.result.now c.args.peer.now c.args.head.now.len c.in_ok-request-in-None.request _ _ _ _ (moves_none _ _ _) passes c.in_err-read_body-in-None.ensures))

pub returns-in_ok-read_body-in-None : goal.returns-in_ok-read_body-in-None
returns-in_ok-read_body-in-None g c =
    let stands : HeadStands (front c.bytes.result.now) c.args.spans.now c.args.head.now = subst (λ (input : List ℕ). HeadStands (front input) c.args.spans.now c.args.head.now) (sym c.bytes.ensures) c.requires in
    let shown = passes_head c.bytes.result.now c.args.spans.now c.args.head.now c.args.peer.now c.in_ok-shown.shown stands c.in_ok-shown.ensures (sym c.in-None.is ∙ c.refusal.ensures) in
    let passes : Passes c.bytes.result.now c.args.peer.now c.args.head.now.len c.in_ok-request-in-None.request = subst (λ (r : Request). Passes c.bytes.result.now c.args.peer.now c.args.head.now.len r) (sym c.in_ok-request-in-None.ensures) shown in
    received_body _ _ _ _ _ _ c.bytes.result.now c.args.peer.now c.args.head.now.len c.in_ok-request-in-None.request _ _ _ _ (moves_none _ _ _) passes c.in_ok-read_body-in-None.ensures
