use Rattle.std.proofs.Common.{◌≡◌, ℕ, List, ◌∷◌, length, drop, ◌∙◌}
use Rattle.std.proofs.lemmas.List.{take_rest}
use Rattle.txt_core.specs.Pattern.{Matches}
use Rattle.txt_core.specs.PatternRuns.{RunIs}
use Rattle.txt_core.proofs.Starting.{EndOf, place_some, place_none, end_of_end, end_of_tail, search_is, nothing_there}
use Rattle.txt_core.proofs.pattern.run_at_first.Goals as goal

pub returns-in-None : goal.returns-in-None
returns-in-None c =
    let p : List ℕ = c.args.pattern.now in
    let from : List ℕ = c.places.from.now in
    let place : List ℕ = drop c.in-Some.at from in
    let here : EndOf p from place = place_some p from c.new-plain.result c.in-Some.at (c.new-plain.ensures ∙ c.plain_front.ensures) c.in-Some.ensures in
    let fails : Matches p place → ⊥ = rw (take_rest from c.in-Some.at) at c.in-Failed.ensures in
    let none : length place ≡ 0 = rw (take_rest from c.in-Some.at) at c.in-None.ensures.cases in
    λ m. nothing_there p place none fails (here.onward (c.places.invariant.onward m))

pub places-preserved : goal.places-preserved
places-preserved c =
    let p : List ℕ = c.args.pattern.now in
    let from : List ℕ = c.places.from.now in
    let place : List ℕ = drop c.in-Some.at from in
    let tail : List ℕ = c.in-Some-split_first.tail.now in
    let byte : ℕ = c.in-Some-split_first.field-0-0.now in
    let here : EndOf p from place = place_some p from c.new-plain.result c.in-Some.at (c.new-plain.ensures ∙ c.plain_front.ensures) c.in-Some.ensures in
    let fails : Matches p place → ⊥ = rw (take_rest from c.in-Some.at) at c.in-Failed.ensures in
    let split : place ≡ byte ∷ tail = rw (take_rest from c.in-Some.at) at c.in-Some-split_first.ensures.cases.0 in
    end_of_end p c.args.text.now from tail c.places.invariant (end_of_end p from place tail here (end_of_tail p place tail byte split fails))

pub returns-in_default-run : goal.returns-in_default-run
returns-in_default-run c =
    let p : List ℕ = c.args.pattern.now in
    let from : List ℕ = c.places.from.now in
    let place : List ℕ = drop c.in-Some.at from in
    let here : EndOf p from place = place_some p from c.new-plain.result c.in-Some.at (c.new-plain.ensures ∙ c.plain_front.ensures) c.in-Some.ensures in
    let ran : RunIs p place c.run.result = rw (take_rest from c.in-Some.at) at c.run.ensures in
    search_is p c.args.text.now place c.run.result (end_of_end p c.args.text.now from place c.places.invariant here) (λ e. absurd (c.in_default-run.not-Failed e)) ran

pub returns : goal.returns
returns c = λ m. place_none c.args.pattern.now c.places.from.now c.new-plain.result (c.new-plain.ensures ∙ c.plain_front.ensures) c.in_default.ensures (c.places.invariant.onward m)
