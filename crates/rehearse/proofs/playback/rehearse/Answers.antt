use Rattle.natives.specs.Names.{names_of}
use Rattle.rehearse.specs.Rehearsing.{outside_of}
use Rattle.rehearse.proofs.Rehearsed.{runs_out_at_once}
use Rattle.rehearse.proofs.playback.rehearse.Goals as goal

pub returns-in_default : goal.returns-in_default
returns-in_default g c =
    runs_out_at_once (names_of c.args.natives.now)
    (outside_of (g.S.Source.rest c.args.source.now) (g.S.Source.faults c.args.source.now) (g.K.Sink.taken c.args.sink.now) (g.K.Sink.faults c.args.sink.now))
