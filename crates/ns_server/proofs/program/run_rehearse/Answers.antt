use Rattle.std.proofs.Common.{refl}
use Rattle.natives.specs.Names.{names_of}
use Rattle.ns_server.specs.Running.{Streams, loads}
use Rattle.ns_server.proofs.Loading.{load_reported}
use Rattle.ns_server.proofs.program.run_rehearse.Goals as goal

pub returns-in-Some : goal.returns-in-Some
returns-in-Some g c =
    let before : Streams = record {
      input = g.S.Source.rest c.args.input.now;
      read_faults = g.S.Source.faults c.args.input.now;
      output = g.K.Sink.taken c.args.output.now;
      write_faults = g.K.Sink.faults c.args.output.now;
      errors = g.E.Sink.taken c.args.errors.now;
      error_faults = g.E.Sink.faults c.args.errors.now;
    } in
    let after : Streams = record before { output = g.K.Sink.taken c.run_load-status.new.output; write_faults = g.K.Sink.faults c.run_load-status.new.output } in
    record {
      status = c.run_load-status.result;
      answer_is = c.report.ensures.number;
      means = loads c.in-Some.requests c.in-Some.ensures
          (load_reported (names_of c.args.natives.now) c.run_load-status.result c.in-Some.requests before after (g.E.Sink.taken c.report.new.errors) (g.E.Sink.faults c.report.new.errors)
          (c.run_load-status.ensures before refl refl));
      tells = c.report.ensures.tells;
    }
