use Rattle.std.proofs.Common.{◌+◌, take, Bool, false, refl, sym, subst, ap, ◌∙◌}
use Rattle.natives.specs.Names.{names_of}
use Rattle.rehearse.specs.declared.listing.Listing.{Listing}
use Rattle.rehearse.specs.declared.machine.Machine.{Machine}
use Rattle.rehearse.specs.declared.playback.Play.{Play}
use Rattle.rehearse.specs.Events.{Event}
use Rattle.rehearse.specs.Playing.{Did, Played}
use Rattle.rehearse.specs.Reading.{event_of}
use Rattle.rehearse.proofs.Rehearsed.{none_spelled, none_may_come, played}
use Rattle.rehearse.proofs.playback.Play.play.Goals as goal

pub returns-in_default-clause-plays : goal.returns-in_default-clause-plays
returns-in_default-clause-plays g c =
    let i = c.args.self.now.intake in (
      refl,
      none_spelled (names_of c.args.natives.now) c.args.self.now.machine i.place c.args.size i.left (take c.args.size c.left.result.now) c.requires.there.0
          (ap (take c.args.size) c.left.ensures) c.requires.ready c.in_default.ensures,
    )

pub returns-then-not-branch-clause-plays : goal.returns-then-not-branch-clause-plays
returns-then-not-branch-clause-plays g c =
    let p = c.args.self.now in
    let e : Event = event_of c.in-Some.event in
    let did : Did (names_of c.args.natives.now) false e p.machine p.listing c.play.new.self c.play.new.listing =
    subst (λ (b : Bool). Played (names_of c.args.natives.now) b e p.machine p.listing c.play.new.self c.play.new.listing) c.if-not-branch.true c.in_ok-play.ensures.played in (
      ap (λ (m : Machine). let q : Play = record { machine = m; intake = p.intake; listing = c.play.new.listing; events = p.events; written = p.written } in q) did.1
          ∙ ap (λ (l : Listing). let q : Play = record { machine = p.machine; intake = p.intake; listing = l; events = p.events; written = p.written } in q) did.2,
      none_may_come (names_of c.args.natives.now) p.machine p.intake.place c.args.size p.intake.left (take c.args.size c.left.result.now) e c.requires.there.0
          (ap (take c.args.size) c.left.ensures) c.requires.ready c.in-Some.ensures.0 c.in-Some.ensures.1 did.0,
    )

pub returns-clause-plays : goal.returns-clause-plays
returns-clause-plays g c = λ outside now s.
    let p = c.args.self.now in
    let e : Event = event_of c.in-Some.event in
    played (names_of c.args.natives.now) outside now p
    (record { machine = c.play.new.self; intake = c.use_up.new.self; listing = c.play.new.listing; events = p.events + 1; written = p.written }) c.args.size e
    c.requires.there.0 c.requires.there.1 (sym (ap (take c.args.size) c.left.ensures) ∙ c.in-Some.ensures.1)
    (subst (λ (b : Bool). Played (names_of c.args.natives.now) b e p.machine p.listing c.play.new.self c.play.new.listing) c.if-not-branch.false c.in_ok-play.ensures.played)
    c.in_ok-play.ensures.ready c.use_up.ensures refl refl s
