use Rattle.std.proofs.Common.{◌≡◌, ℕ, ◌+◌, ◌-◌, ◌≤◌, List, ◌++◌, length, take, drop, ap, ◌∙◌, arith, length-drop, vec_len}
use Rattle.rehearse.specs.Intakes.{IntakeState}
use Rattle.outside.specs.Reading.{count_of}
use Rattle.rehearse.proofs.Fetching.{fetched_kept, fetched_by, left_at, written_back, count_low}
use Rattle.rehearse.proofs.intake.Intake.fetch.Goals as goal

pub returns-in_err-resize-clause-fetches : goal.returns-in_err-resize-clause-fetches
returns-in_err-resize-clause-fetches g c =
    let i = c.self-2.inside in
    fetched_kept c.args.self.now (record { left = drop i.used c.resize.new.self.items; place = i.place; stopped = i.stopped }) (g.S.Source.rest c.args.source.now) (g.S.Source.faults c.args.source.now)
    (ap (λ (xs : List ℕ). let s : IntakeState = record { left = drop i.used xs; place = i.place; stopped = i.stopped } in s) c.in_err-resize.ensures.items
    ∙ c.self-2.view_is ∙ c.drop_used.ensures)

pub overflow_add-start : goal.overflow_add-start
overflow_add-start g c =
    let low : count_of c.read_behind-answer.result ≤ length (drop c.len-start.result c.as_mut_slice.result.now) =
    count_low c.read_behind-answer.result (g.S.Source.rest c.args.source.now) (g.S.Source.rest c.read_behind-answer.new.source) (g.S.Source.faults c.args.source.now) (g.S.Source.faults c.read_behind-answer.new.source)
    (drop c.len-start.result c.as_mut_slice.result.now) (drop c.len-start.result c.read_behind-answer.new.buffer) c.read_behind-answer.ensures.reads in
    let len : length (drop c.len-start.result c.as_mut_slice.result.now) ≡ length c.as_mut_slice.result.now - c.len-start.result = length-drop c.len-start.result c.as_mut_slice.result.now in
    omega (arith, low, len, c.count_of-count.ensures, c.in_ok-resize.ensures.len, c.as_mut_slice.ensures.len)

pub returns-clause-fetches : goal.returns-clause-fetches
returns-clause-fetches g c =
    let i = c.self-2.inside in
    let items : List ℕ = i.bytes.items in
    let start : ℕ = c.len-start.result in
    let end : ℕ = c.saturating_add-end.result in
    let buffer : List ℕ = c.read_behind-answer.new.buffer in
    let at : start ≡ length items = omega (arith, c.len-start.ensures, i.bytes.ok.0) in
    let room : start ≤ end = omega (arith, c.saturating_add-end.ensures) in
    let left : drop i.used c.truncate.new.self.items ≡ c.args.self.now.left ++ take (count_of c.read_behind-answer.result) (drop start buffer) =
    ap (drop i.used) c.truncate.ensures.items
    ∙ ap (λ (xs : List ℕ). drop i.used (take (start + c.count_of-count.result) xs))
    (written_back (vec_len c.resize.new.self) buffer c.resize.new.self.items (omega (arith, c.read_behind-answer.auto.buffer, c.as_mut_slice.ensures.len)))
    ∙ left_at items c.as_mut_slice.result.now buffer i.used start c.count_of-count.result end _ at c.self-2.invariant room (c.as_mut_slice.ensures.value ∙ c.in_ok-resize.ensures.items) c.read_behind-answer.ensures.front
    ∙ ap (λ (xs : List ℕ). xs ++ take c.count_of-count.result (drop start buffer)) (ap (λ (s : IntakeState). s.left) (c.self-2.view_is ∙ c.drop_used.ensures))
    ∙ ap (λ (n : ℕ). c.args.self.now.left ++ take n (drop start buffer)) c.count_of-count.ensures in
    fetched_by c.args.self.now (record { left = drop i.used c.truncate.new.self.items; place = i.place; stopped = c.stop_of-self-inside.result }) c.read_behind-answer.result
    (g.S.Source.rest c.args.source.now) (g.S.Source.rest c.read_behind-answer.new.source) (g.S.Source.faults c.args.source.now) (g.S.Source.faults c.read_behind-answer.new.source)
    (drop start c.as_mut_slice.result.now) (drop start buffer) c.read_behind-answer.ensures.reads left (ap (λ (s : IntakeState). s.place) (c.self-2.view_is ∙ c.drop_used.ensures)) c.stop_of-self-inside.ensures
