use Rattle.std.proofs.Common.{refl}
use Rattle.natives.specs.Names.{names_of}
use Rattle.rehearse.proofs.Rehearsed.{begun}
use Rattle.rehearse.proofs.playback.Play.new.Goals as goal

pub returns-clause-so_far : goal.returns-clause-so_far
returns-clause-so_far g c = λ outside.
    begun (names_of c.args.natives.now) outside (record { machine = c.in_ok-new.field-0; intake = c.new-2.result; listing = c.new-3.result; events = 0; written = 0 })
    c.new-2.ensures c.in_ok-new.ensures.shows c.in_ok-new.ensures.ready c.new-3.ensures.0 c.new-3.ensures.1 refl refl
