use Rattle.std.proofs.Common.{List, ℕ, ◌++◌, Some, refl, ap}
use Rattle.natives.specs.Names.{names_of}
use Rattle.load_gen.specs.Load.{load_file}
use Rattle.rehearse.specs.Summary.{summary}
use Rattle.ns_server.specs.Made.{Made}
use Rattle.ns_server.proofs.Loading.{no_bad_event, summarised, load_means}
use Rattle.ns_server.proofs.program.run_load.Goals as goal

pub unreachable-requires : goal.unreachable-requires
unreachable-requires g c =
    no_bad_event (names_of c.args.natives.now) c.args.requests (load_file c.args.requests) c.in-BadEvent.event c.requires.few refl
    (c.in-BadEvent.ensures.counts (load_file c.args.requests) (ap (λ (m : Made). Some (m.at_hand ++ m.behind)) c.new-file.ensures))

pub returns-in-Done : goal.returns-in-Done
returns-in-Done g c = λ before output faults.
    load_means (names_of c.args.natives.now) c.args.requests (summary c.args.requests c.in-Done.tally) c.write_summary.result before
    (g.K.Sink.taken c.args.output.now) (g.K.Sink.taken c.write_summary.new.output) (g.K.Sink.faults c.args.output.now) (g.K.Sink.faults c.write_summary.new.output)
    (summarised (names_of c.args.natives.now) c.args.requests (load_file c.args.requests) c.in-Done.tally c.requires.few refl
    (c.in-Done.ensures.counts (load_file c.args.requests) (ap (λ (m : Made). Some (m.at_hand ++ m.behind)) c.new-file.ensures)))
    output faults c.write_summary.ensures
