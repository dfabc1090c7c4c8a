use Rattle.std.proofs.Common.{◌≡◌, ◌-◌, []}
use Rattle.natives.specs.Names.{names_of}
use Rattle.rehearse.specs.Events.{most_file}
use Rattle.rehearse.specs.Rehearsing.{outside_of}
use Rattle.rehearse.specs.Playing.{SoFar}
use Rattle.rehearse.proofs.playback.Play.play_all.Given as goal

abbrev pub invariant-events : goal.invariant-events
invariant-events g l = record {
  so_far : SoFar (names_of l.natives)
      (outside_of (g.S.Source.rest l.fn.source) (g.S.Source.faults l.fn.source) (g.K.Sink.taken l.fn.sink) (g.K.Sink.faults l.fn.sink))
      (outside_of (g.S.Source.rest l.source) (g.S.Source.faults l.source) (g.K.Sink.taken l.sink) (g.K.Sink.faults l.sink)) l.self;
  nothing : l.self.listing.text ≡ [];
}

abbrev pub decreases-events : goal.decreases-events
decreases-events g l = most_file - l.self.intake.place
