use Rattle.std.proofs.Common.{◌≡◌, ℕ, ◌+◌, ◌≤◌, List, [], Bool, false, Option, Some, None, refl, sym, subst, ap, arith}
use Rattle.natives.specs.Names.{names_of}
use Rattle.rehearse.specs.declared.answer.Rehearsal.{Rehearsal}
use Rattle.rehearse.specs.declared.answer.Rehearsal.TheVariants as answers
use Rattle.rehearse.specs.declared.playback.Play.{Play}
use Rattle.rehearse.specs.Events.{most_file}
use Rattle.rehearse.specs.Playing.{FindsEvent, SoFar, PlaysOne, PassesOn, IsOfSink, IsCounted}
use Rattle.rehearse.specs.Rehearsing.{Outside, outside_of, Ends, Rehearses}
use Rattle.rehearse.proofs.Rehearsed.{fetched, so_many, barred, ended, counted, sink_counted, on_err, runs_out}
use Rattle.rehearse.proofs.playback.Play.play_all.Goals as goal

pub returns-in_err-size-clause-ran_out : goal.returns-in_err-size-clause-ran_out
returns-in_err-size-clause-ran_out g c =
    let names : List (List ℕ) = names_of c.args.natives.now in
    let before : Outside = outside_of (g.S.Source.rest c.args.source.now) (g.S.Source.faults c.args.source.now) (g.K.Sink.taken c.args.sink.now) (g.K.Sink.faults c.args.sink.now) in
    let now : Outside = outside_of (g.S.Source.rest c.fetch_event.new.source) (g.S.Source.faults c.fetch_event.new.source) (g.K.Sink.taken c.events.sink) (g.K.Sink.faults c.events.sink) in
    let play : Play = record c.events.self { intake = c.fetch_event.new.self } in
    let s : SoFar names before now play =
    fetched names before (outside_of (g.S.Source.rest c.events.source) (g.S.Source.faults c.events.source) (g.K.Sink.taken c.events.sink) (g.K.Sink.faults c.events.sink)) c.events.self c.fetch_event.new.self
    (g.S.Source.rest c.fetch_event.new.source) (g.S.Source.faults c.fetch_event.new.source) c.events.invariant.so_far c.fetch_event.ensures.fetches in
    on_err c.from_residual.result (Rehearses names before answers.NoMemory now) (runs_out names before now play c.events.invariant.nothing s)

pub play-requires-clause-few : goal.play-requires-clause-few
play-requires-clause-few g c =
    let names : List (List ℕ) = names_of c.args.natives.now in
    let before : Outside = outside_of (g.S.Source.rest c.args.source.now) (g.S.Source.faults c.args.source.now) (g.K.Sink.taken c.args.sink.now) (g.K.Sink.faults c.args.sink.now) in
    let now : Outside = outside_of (g.S.Source.rest c.fetch_event.new.source) (g.S.Source.faults c.fetch_event.new.source) (g.K.Sink.taken c.events.sink) (g.K.Sink.faults c.events.sink) in
    let play : Play = record c.events.self { intake = c.fetch_event.new.self } in
    let s : SoFar names before now play =
    fetched names before (outside_of (g.S.Source.rest c.events.source) (g.S.Source.faults c.events.source) (g.K.Sink.taken c.events.sink) (g.K.Sink.faults c.events.sink)) c.events.self c.fetch_event.new.self
    (g.S.Source.rest c.fetch_event.new.source) (g.S.Source.faults c.fetch_event.new.source) c.events.invariant.so_far c.fetch_event.ensures.fetches in
    (so_many names before now play s).0

pub returns-in_err-play-clause-ran_out : goal.returns-in_err-play-clause-ran_out
returns-in_err-play-clause-ran_out g c =
    let names : List (List ℕ) = names_of c.args.natives.now in
    let before : Outside = outside_of (g.S.Source.rest c.args.source.now) (g.S.Source.faults c.args.source.now) (g.K.Sink.taken c.args.sink.now) (g.K.Sink.faults c.args.sink.now) in
    let now : Outside = outside_of (g.S.Source.rest c.fetch_event.new.source) (g.S.Source.faults c.fetch_event.new.source) (g.K.Sink.taken c.events.sink) (g.K.Sink.faults c.events.sink) in
    let play : Play = record c.events.self { intake = c.fetch_event.new.self } in
    let s : SoFar names before now play =
    fetched names before (outside_of (g.S.Source.rest c.events.source) (g.S.Source.faults c.events.source) (g.K.Sink.taken c.events.sink) (g.K.Sink.faults c.events.sink)) c.events.self c.fetch_event.new.self
    (g.S.Source.rest c.fetch_event.new.source) (g.S.Source.faults c.fetch_event.new.source) c.events.invariant.so_far c.fetch_event.ensures.fetches in
    on_err c.from_residual-in_err-play.result (Rehearses names before answers.NoMemory now) (runs_out names before now play c.events.invariant.nothing s)

pub returns-then-not-branch-clause-ends : goal.returns-then-not-branch-clause-ends
returns-then-not-branch-clause-ends g c =
    let names : List (List ℕ) = names_of c.args.natives.now in
    let before : Outside = outside_of (g.S.Source.rest c.args.source.now) (g.S.Source.faults c.args.source.now) (g.K.Sink.taken c.args.sink.now) (g.K.Sink.faults c.args.sink.now) in
    let now : Outside = outside_of (g.S.Source.rest c.fetch_event.new.source) (g.S.Source.faults c.fetch_event.new.source) (g.K.Sink.taken c.events.sink) (g.K.Sink.faults c.events.sink) in
    let play : Play = record c.events.self { intake = c.fetch_event.new.self } in
    let s : SoFar names before now play =
    fetched names before (outside_of (g.S.Source.rest c.events.source) (g.S.Source.faults c.events.source) (g.K.Sink.taken c.events.sink) (g.K.Sink.faults c.events.sink)) c.events.self c.fetch_event.new.self
    (g.S.Source.rest c.fetch_event.new.source) (g.S.Source.faults c.fetch_event.new.source) c.events.invariant.so_far c.fetch_event.ensures.fetches in
    let p : PlaysOne names false c.in-Some.size play c.play.new.self = subst (λ (b : Bool). PlaysOne names b c.in-Some.size play c.play.new.self) c.if-not-branch.true c.in_ok-play.ensures.plays in
    let finds : FindsEvent (Some c.in-Some.size) c.fetch_event.new.self = subst (λ (f : Option ℕ). FindsEvent f c.fetch_event.new.self) c.in-Some.is c.in_ok-size.ensures.finds in
    (s.counts, barred names before now play (c.play.new.self.events + 1) c.in-Some.size c.events.invariant.nothing (ap (λ (q : Play). q.events + 1) p.0) finds p.1 s)

pub returns-in_err-fault-clause-ran_out : goal.returns-in_err-fault-clause-ran_out
returns-in_err-fault-clause-ran_out g c =
    let names : List (List ℕ) = names_of c.args.natives.now in
    let before : Outside = outside_of (g.S.Source.rest c.args.source.now) (g.S.Source.faults c.args.source.now) (g.K.Sink.taken c.args.sink.now) (g.K.Sink.faults c.args.sink.now) in
    let now : Outside = outside_of (g.S.Source.rest c.fetch_event.new.source) (g.S.Source.faults c.fetch_event.new.source) (g.K.Sink.taken c.events.sink) (g.K.Sink.faults c.events.sink) in
    let play : Play = record c.events.self { intake = c.fetch_event.new.self } in
    let s : SoFar names before now play =
    fetched names before (outside_of (g.S.Source.rest c.events.source) (g.S.Source.faults c.events.source) (g.K.Sink.taken c.events.sink) (g.K.Sink.faults c.events.sink)) c.events.self c.fetch_event.new.self
    (g.S.Source.rest c.fetch_event.new.source) (g.S.Source.faults c.fetch_event.new.source) c.events.invariant.so_far c.fetch_event.ensures.fetches in
    let u = c.in_err-fault.ensures.unwritten in
    on_err c.from_residual-in_err-fault.result
    (Rehearses names before answers.NoMemory (outside_of now.input now.read_faults (g.K.Sink.taken c.pass_on.new.sink) (g.K.Sink.faults c.pass_on.new.sink)))
    (subst (λ (taken : Option (List ℕ)). Rehearses names before answers.NoMemory (outside_of now.input now.read_faults taken (g.K.Sink.faults c.pass_on.new.sink))) (sym u.0)
    (subst (λ (faults : ℕ). Rehearses names before answers.NoMemory (outside_of now.input now.read_faults now.output faults)) (sym u.1)
    (runs_out names before now play c.events.invariant.nothing s)))

pub returns-in-Some-2-clause-ends : goal.returns-in-Some-2-clause-ends
returns-in-Some-2-clause-ends g c =
    let names : List (List ℕ) = names_of c.args.natives.now in
    let before : Outside = outside_of (g.S.Source.rest c.args.source.now) (g.S.Source.faults c.args.source.now) (g.K.Sink.taken c.args.sink.now) (g.K.Sink.faults c.args.sink.now) in
    let now : Outside = outside_of (g.S.Source.rest c.fetch_event.new.source) (g.S.Source.faults c.fetch_event.new.source) (g.K.Sink.taken c.events.sink) (g.K.Sink.faults c.events.sink) in
    let play : Play = record c.events.self { intake = c.fetch_event.new.self } in
    let s : SoFar names before now play =
    fetched names before (outside_of (g.S.Source.rest c.events.source) (g.S.Source.faults c.events.source) (g.K.Sink.taken c.events.sink) (g.K.Sink.faults c.events.sink)) c.events.self c.fetch_event.new.self
    (g.S.Source.rest c.fetch_event.new.source) (g.S.Source.faults c.fetch_event.new.source) c.events.invariant.so_far c.fetch_event.ensures.fetches in
    let t : SoFar names before now c.play.new.self =
    subst (λ (b : Bool). PlaysOne names b c.in-Some.size play c.play.new.self) c.if-not-branch.false c.in_ok-play.ensures.plays before now s in
    let then : Outside = outside_of (g.S.Source.rest c.fetch_event.new.source) (g.S.Source.faults c.fetch_event.new.source) (g.K.Sink.taken c.pass_on.new.sink) (g.K.Sink.faults c.pass_on.new.sink) in
    let passes : PassesOn names (Some c.in-Some-2.fault) before now c.play.new.self c.pass_on.new.self then =
    subst (λ (f : Option Rehearsal). PassesOn names f before now c.play.new.self c.pass_on.new.self then) c.in-Some-2.is (c.in_ok-fault.ensures.passes names before now refl refl) in
    ((t.counts.0, omega (arith, t.counts.1, c.pass_on.ensures.counts)), passes t)

pub returns-in-Some-2-clause-counted : goal.returns-in-Some-2-clause-counted
returns-in-Some-2-clause-counted g c =
    sink_counted (names_of c.args.natives.now) (g.S.Source.rest c.args.source.now) c.in-Some-2.fault c.pass_on.new.self.listing.tally
    (subst IsOfSink c.in-Some-2.is c.in_ok-fault.ensures.of_sink)

pub events-preserved : goal.events-preserved
events-preserved g c =
    let names : List (List ℕ) = names_of c.args.natives.now in
    let before : Outside = outside_of (g.S.Source.rest c.args.source.now) (g.S.Source.faults c.args.source.now) (g.K.Sink.taken c.args.sink.now) (g.K.Sink.faults c.args.sink.now) in
    let now : Outside = outside_of (g.S.Source.rest c.fetch_event.new.source) (g.S.Source.faults c.fetch_event.new.source) (g.K.Sink.taken c.events.sink) (g.K.Sink.faults c.events.sink) in
    let play : Play = record c.events.self { intake = c.fetch_event.new.self } in
    let s : SoFar names before now play =
    fetched names before (outside_of (g.S.Source.rest c.events.source) (g.S.Source.faults c.events.source) (g.K.Sink.taken c.events.sink) (g.K.Sink.faults c.events.sink)) c.events.self c.fetch_event.new.self
    (g.S.Source.rest c.fetch_event.new.source) (g.S.Source.faults c.fetch_event.new.source) c.events.invariant.so_far c.fetch_event.ensures.fetches in
    let t : SoFar names before now c.play.new.self =
    subst (λ (b : Bool). PlaysOne names b c.in-Some.size play c.play.new.self) c.if-not-branch.false c.in_ok-play.ensures.plays before now s in
    let then : Outside = outside_of (g.S.Source.rest c.fetch_event.new.source) (g.S.Source.faults c.fetch_event.new.source) (g.K.Sink.taken c.pass_on.new.sink) (g.K.Sink.faults c.pass_on.new.sink) in
    let passes : PassesOn names None before now c.play.new.self c.pass_on.new.self then =
    subst (λ (f : Option Rehearsal). PassesOn names f before now c.play.new.self c.pass_on.new.self then) c.in_default-2.is (c.in_ok-fault.ensures.passes names before now refl refl) in
    let q : SoFar names before then c.pass_on.new.self × (c.pass_on.new.self.listing.text ≡ []) = passes t in
    record { so_far = q.0; nothing = q.1 }

pub overflow_add-self : goal.overflow_add-self
overflow_add-self g c =
    let names : List (List ℕ) = names_of c.args.natives.now in
    let before : Outside = outside_of (g.S.Source.rest c.args.source.now) (g.S.Source.faults c.args.source.now) (g.K.Sink.taken c.args.sink.now) (g.K.Sink.faults c.args.sink.now) in
    let now : Outside = outside_of (g.S.Source.rest c.fetch_event.new.source) (g.S.Source.faults c.fetch_event.new.source) (g.K.Sink.taken c.events.sink) (g.K.Sink.faults c.events.sink) in
    let play : Play = record c.events.self { intake = c.fetch_event.new.self } in
    let s : SoFar names before now play =
    fetched names before (outside_of (g.S.Source.rest c.events.source) (g.S.Source.faults c.events.source) (g.K.Sink.taken c.events.sink) (g.K.Sink.faults c.events.sink)) c.events.self c.fetch_event.new.self
    (g.S.Source.rest c.fetch_event.new.source) (g.S.Source.faults c.fetch_event.new.source) c.events.invariant.so_far c.fetch_event.ensures.fetches in
    let m : (play.events ≤ play.intake.place) × (play.intake.place ≤ most_file) = so_many names before now play s in
    omega (arith, m.0, m.1)

pub returns-clause-ends : goal.returns-clause-ends
returns-clause-ends g c =
    let names : List (List ℕ) = names_of c.args.natives.now in
    let before : Outside = outside_of (g.S.Source.rest c.args.source.now) (g.S.Source.faults c.args.source.now) (g.K.Sink.taken c.args.sink.now) (g.K.Sink.faults c.args.sink.now) in
    let now : Outside = outside_of (g.S.Source.rest c.fetch_event.new.source) (g.S.Source.faults c.fetch_event.new.source) (g.K.Sink.taken c.events.sink) (g.K.Sink.faults c.events.sink) in
    let play : Play = record c.events.self { intake = c.fetch_event.new.self } in
    let s : SoFar names before now play =
    fetched names before (outside_of (g.S.Source.rest c.events.source) (g.S.Source.faults c.events.source) (g.K.Sink.taken c.events.sink) (g.K.Sink.faults c.events.sink)) c.events.self c.fetch_event.new.self
    (g.S.Source.rest c.fetch_event.new.source) (g.S.Source.faults c.fetch_event.new.source) c.events.invariant.so_far c.fetch_event.ensures.fetches in
    let finds : FindsEvent None c.fetch_event.new.self = subst (λ (f : Option ℕ). FindsEvent f c.fetch_event.new.self) c.in_default.is c.in_ok-size.ensures.finds in (
      s.counts,
      subst (λ (a : Rehearsal). Ends names before a now) (sym c.ending.ensures) (ended names before now play (c.events.self.events + 1) c.events.invariant.nothing refl s finds),
    )

pub returns-clause-counted : goal.returns-clause-counted
returns-clause-counted g c =
    let names : List (List ℕ) = names_of c.args.natives.now in
    let before : Outside = outside_of (g.S.Source.rest c.args.source.now) (g.S.Source.faults c.args.source.now) (g.K.Sink.taken c.args.sink.now) (g.K.Sink.faults c.args.sink.now) in
    let now : Outside = outside_of (g.S.Source.rest c.fetch_event.new.source) (g.S.Source.faults c.fetch_event.new.source) (g.K.Sink.taken c.events.sink) (g.K.Sink.faults c.events.sink) in
    let play : Play = record c.events.self { intake = c.fetch_event.new.self } in
    let s : SoFar names before now play =
    fetched names before (outside_of (g.S.Source.rest c.events.source) (g.S.Source.faults c.events.source) (g.K.Sink.taken c.events.sink) (g.K.Sink.faults c.events.sink)) c.events.self c.fetch_event.new.self
    (g.S.Source.rest c.fetch_event.new.source) (g.S.Source.faults c.fetch_event.new.source) c.events.invariant.so_far c.fetch_event.ensures.fetches in
    let finds : FindsEvent None c.fetch_event.new.self = subst (λ (f : Option ℕ). FindsEvent f c.fetch_event.new.self) c.in_default.is c.in_ok-size.ensures.finds in
    subst (λ (a : Rehearsal). IsCounted names (g.S.Source.rest c.args.source.now) a c.events.self.listing.tally) (sym c.ending.ensures)
    (counted names before now play (c.events.self.events + 1) refl s finds)
