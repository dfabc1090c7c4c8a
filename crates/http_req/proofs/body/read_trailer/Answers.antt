use Rattle.std.proofs.Common.{◌≡◌, ◌+◌, ◌-◌, ◌≤◌, ℕ, List, length, drop, refl, sym, ap, ◌∙◌, subst, arith, length-drop}
use Rattle.std.proofs.lemmas.Result.{err_from_is_err_and}
use Rattle.http_req.specs.Bodies.{Halts, by_refusal}
use Rattle.http_req.specs.Chunks.{behind_trailer}
use Rattle.http_req.specs.Outcomes.{sent_front}
use Rattle.http_req.specs.Trailers.{trailer_from}
use Rattle.http_req.proofs.ChunkFacts.{trailer_within}
use Rattle.http_req.proofs.BodyFacts.{cut_few, cut_goes, cut_again, cut_grow, trailing_is, halts_stop, stopped_later, stopped_at, sent_grows}
use Rattle.http_req.proofs.Fetches.{moves_then, moves_longer}
use Rattle.http_req.proofs.Receiving.{sent_size}
use Rattle.http_req.proofs.body.read_trailer.Goals as goal

pub trailer_from-requires : goal.trailer_from-requires
trailer_from-requires g c = cut_few (sent_front c.args.start c.loop-taken.carry) c.args.begin c.loop-taken.at c.loop-taken.spot c.loop-taken.invariant.cut

pub overflow_add-result : goal.overflow_add-result
overflow_add-result g c =
    let text = sent_front c.args.start c.loop-taken.carry in
    let found : c.trailer_from.result ≡ trailer_from c.loop-taken.spot (c.loop-taken.at - c.args.begin) (drop c.loop-taken.at text) =
    c.trailer_from.ensures ∙ ap (trailer_from c.loop-taken.spot (c.loop-taken.at - c.args.begin)) (c.behind.ensures ∙ ap (λ (t : List ℕ). drop c.loop-taken.at t) c.sent_behind-sent.ensures) in
    let few = trailer_within (drop c.loop-taken.at text) c.loop-taken.spot (c.loop-taken.at - c.args.begin) c.in-Whole.taken (sym found ∙ c.in-Whole.is) in
    let inside : c.args.start ≤ length c.loop-taken.carry = omega (arith, c.requires.within, moves_longer c.loop-taken.invariant.moves) in
    omega (arith, few.1, c.loop-taken.invariant.cut.ordered, c.loop-taken.invariant.cut.within, (sent_size c.args.start c.loop-taken.carry inside).1, length-drop c.loop-taken.at text)

pub returns-in-Whole-clause-ends : goal.returns-in-Whole-clause-ends
returns-in-Whole-clause-ends g c =
    let text = sent_front c.args.start c.loop-taken.carry in
    let found : c.trailer_from.result ≡ trailer_from c.loop-taken.spot (c.loop-taken.at - c.args.begin) (drop c.loop-taken.at text) =
    c.trailer_from.ensures ∙ ap (trailer_from c.loop-taken.spot (c.loop-taken.at - c.args.begin)) (c.behind.ensures ∙ ap (λ (t : List ℕ). drop c.loop-taken.at t) c.sent_behind-sent.ensures) in
    (c.in-Whole.taken, cut_goes text c.args.begin c.loop-taken.at c.loop-taken.spot c.loop-taken.invariant.cut ∙ sym found ∙ c.in-Whole.is, refl)

pub returns-in-Bad-clause-stops : goal.returns-in-Bad-clause-stops
returns-in-Bad-clause-stops g c =
    let text = sent_front c.args.start c.loop-taken.carry in
    let found : c.trailer_from.result ≡ trailer_from c.loop-taken.spot (c.loop-taken.at - c.args.begin) (drop c.loop-taken.at text) =
    c.trailer_from.ensures ∙ ap (trailer_from c.loop-taken.spot (c.loop-taken.at - c.args.begin)) (c.behind.ensures ∙ ap (λ (t : List ℕ). drop c.loop-taken.at t) c.sent_behind-sent.ensures) in
    by_refusal 400 (trailing_is text c.args.begin c.loop-taken.at c.loop-taken.spot c.trailer_from.result c.loop-taken.invariant.cut found ∙ ap (behind_trailer (length (drop c.args.begin text))) c.in-Bad.is) refl

pub returns-in-Crowded-clause-stops : goal.returns-in-Crowded-clause-stops
returns-in-Crowded-clause-stops g c =
    let text = sent_front c.args.start c.loop-taken.carry in
    let found : c.trailer_from.result ≡ trailer_from c.loop-taken.spot (c.loop-taken.at - c.args.begin) (drop c.loop-taken.at text) =
    c.trailer_from.ensures ∙ ap (trailer_from c.loop-taken.spot (c.loop-taken.at - c.args.begin)) (c.behind.ensures ∙ ap (λ (t : List ℕ). drop c.loop-taken.at t) c.sent_behind-sent.ensures) in
    by_refusal 431 (trailing_is text c.args.begin c.loop-taken.at c.loop-taken.spot c.trailer_from.result c.loop-taken.invariant.cut found ∙ ap (behind_trailer (length (drop c.args.begin text))) c.in-Crowded.is) refl

pub returns-in_err-may_ask-clause-stops : goal.returns-in_err-may_ask-clause-stops
returns-in_err-may_ask-clause-stops g c =
    let p = err_from_is_err_and c.from_residual.result c.from_residual.ensures.1 in
    let text = sent_front c.args.start c.loop-taken.carry in
    let found : c.trailer_from.result ≡ trailer_from c.loop-taken.spot (c.loop-taken.at - c.args.begin) (drop c.loop-taken.at text) =
    c.trailer_from.ensures ∙ ap (trailer_from c.loop-taken.spot (c.loop-taken.at - c.args.begin)) (c.behind.ensures ∙ ap (λ (t : List ℕ). drop c.loop-taken.at t) c.sent_behind-sent.ensures) in
    rw p.1 (halts_stop c.loop-taken.carry c.args.start _ _ _ _ c.loop-taken.fetched p.0
    (trailing_is text c.args.begin c.loop-taken.at c.loop-taken.spot c.trailer_from.result c.loop-taken.invariant.cut found ∙ ap (behind_trailer (length (drop c.args.begin text))) c.in-Cut.is)
    (stopped_at _ _ _ _ c.loop-taken.fetched c.loop-taken.invariant.stopped)
    (subst (Halts c.loop-taken.carry c.loop-taken.fetched (c.args.start + 33554432)) (sym p.2) c.in_err-may_ask.ensures.halts))

pub loop-taken-preserved : goal.loop-taken-preserved
loop-taken-preserved g c =
    let text = sent_front c.args.start c.loop-taken.carry in
    let found : c.trailer_from.result ≡ trailer_from c.loop-taken.spot (c.loop-taken.at - c.args.begin) (drop c.loop-taken.at text) =
    c.trailer_from.ensures ∙ ap (trailer_from c.loop-taken.spot (c.loop-taken.at - c.args.begin)) (c.behind.ensures ∙ ap (λ (t : List ℕ). drop c.loop-taken.at t) c.sent_behind-sent.ensures) in
    let inside : c.args.start ≤ length c.loop-taken.carry = omega (arith, c.requires.within, moves_longer c.loop-taken.invariant.moves) in
    let again = cut_again text c.args.begin c.loop-taken.at c.loop-taken.spot c.in-Cut.to c.loop-taken.invariant.cut (sym found ∙ c.in-Cut.is) (length c.sent_behind-sent.result.now) (ap length c.sent_behind-sent.ensures) in
    let further = sent_grows c.args.start c.fetch-fetched.ensures.moves inside in
    record {
      moves = moves_then c.loop-taken.invariant.moves c.fetch-fetched.ensures.moves;
      stopped = stopped_later c.loop-taken.invariant.moves _ _ c.fetch-fetched.result c.fetch-fetched.ensures.stopped;
      cut = cut_grow text c.args.begin _ c.in-Cut.to further.0 (sent_front c.args.start c.fetch-fetched.new.self) further.1 again;
    }
