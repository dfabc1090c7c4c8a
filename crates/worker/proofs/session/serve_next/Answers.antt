use Rattle.std.proofs.Common.{refl}
use Rattle.std.specs.Prelude.{Some}
use Rattle.natives.specs.Names.{names_of}
use Rattle.http_req.specs.Readings.{left_of}
use Rattle.worker.specs.Lists.{listed}
use Rattle.worker.specs.Sessions.{at}
use Rattle.worker.specs.declared.served.End.TheVariants as ends
use Rattle.worker.proofs.OneItem.{ticked}
use Rattle.worker.proofs.Ending.{step_causes}
use Rattle.worker.proofs.Stepping.{steps_end, leaves_end, leaves_truncated, leaves_fault, steps_refuse, steps_unread, steps_request, reads_request}
use Rattle.worker.proofs.session.serve_next.Goals as goal

pub returns-in-End-clause-steps : goal.returns-in-End-clause-steps
returns-in-End-clause-steps g c = steps_end _ _ _ _ (left_of c.read_request.new.carry (g.S.Source.rest c.read_request.new.source)) _ _ (listed c.args.served.now) ends.Ended refl refl (leaves_end c.args.peer.now (left_of c.args.carry.now (g.S.Source.rest c.args.source.now)) (left_of c.read_request.new.carry (g.S.Source.rest c.read_request.new.source)) (g.S.Source.rest c.read_request.new.source) c.in-End.ensures.answers)

pub returns-in-Truncated-clause-steps : goal.returns-in-Truncated-clause-steps
returns-in-Truncated-clause-steps g c = steps_end _ _ _ _ (left_of c.read_request.new.carry (g.S.Source.rest c.read_request.new.source)) _ _ (listed c.args.served.now) (ends.Truncated c.in-Truncated.have) refl refl (leaves_truncated c.args.peer.now (left_of c.args.carry.now (g.S.Source.rest c.args.source.now)) (left_of c.read_request.new.carry (g.S.Source.rest c.read_request.new.source)) (g.S.Source.rest c.read_request.new.source) c.in-Truncated.have c.in-Truncated.ensures.answers)

pub returns-in-ReadFault-clause-steps : goal.returns-in-ReadFault-clause-steps
returns-in-ReadFault-clause-steps g c = steps_end _ _ _ _ (left_of c.read_request.new.carry (g.S.Source.rest c.read_request.new.source)) _ _ (listed c.args.served.now) ends.ReadFault refl refl (leaves_fault _ _ _ _ _ c.in-ReadFault.ensures.consumes c.in-ReadFault.ensures.undecided)

pub returns-in-Refused-clause-steps : goal.returns-in-Refused-clause-steps
returns-in-Refused-clause-steps g c = steps_refuse _ _ _ _ (left_of c.read_request.new.carry (g.S.Source.rest c.read_request.new.source)) _ _ (listed c.args.served.now) c.in-Refused.status c.refuse.ensures.ends.0 c.refuse.result _ _ c.in-Refused.ensures.answers c.refuse.ensures.ends.1 c.refuse.ensures.ends.2

pub returns-in-Refused-clause-causes : goal.returns-in-Refused-clause-causes
returns-in-Refused-clause-causes g c = step_causes (Some c.refuse.result) (g.S.Source.faults c.args.source.now) (g.S.Source.faults c.read_request.new.source) (g.K.Sink.faults c.args.sink.now) (g.K.Sink.faults c.refuse.new.sink) c.in-Refused.ensures.counts c.refuse.ensures.causes

pub returns-in-NoMemory-clause-steps : goal.returns-in-NoMemory-clause-steps
returns-in-NoMemory-clause-steps g c = steps_unread _ _ _ _ (left_of c.read_request.new.carry (g.S.Source.rest c.read_request.new.source)) _ _ (listed c.args.served.now) c.moment_of.result c.end_in_want.result _ _ (ticked _ _ c.moment.result c.moment_of.result c.moment.ensures c.moment_of.ensures) c.end_in_want.ensures.ends

pub returns-in-NoMemory-clause-causes : goal.returns-in-NoMemory-clause-causes
returns-in-NoMemory-clause-causes g c = step_causes (Some c.end_in_want.result) (g.S.Source.faults c.args.source.now) (g.S.Source.faults c.read_request.new.source) (g.K.Sink.faults c.args.sink.now) (g.K.Sink.faults c.end_in_want.new.sink) c.in-NoMemory.ensures.counts c.end_in_want.ensures.causes

pub returns-in-Request-clause-steps : goal.returns-in-Request-clause-steps
returns-in-Request-clause-steps g c = steps_request _ _ _ _ (left_of c.read_request.new.carry (g.S.Source.rest c.read_request.new.source)) _ c.in-Request.request _ _ _ _ c.serve_request.result (reads_request _ _ _ c.in-Request.request c.in-Request.ensures.answers) c.serve_request.ensures.steps

pub returns-in-Request-clause-causes : goal.returns-in-Request-clause-causes
returns-in-Request-clause-causes g c = step_causes c.serve_request.result (g.S.Source.faults c.args.source.now) (g.S.Source.faults c.read_request.new.source) (g.K.Sink.faults c.args.sink.now) (g.K.Sink.faults c.serve_request.new.sink) c.in-Request.ensures.counts c.serve_request.ensures.causes
