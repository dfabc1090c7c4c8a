use Rattle.std.proofs.Common.{refl}
use Rattle.natives.specs.Names.{names_of}
use Rattle.http_req.specs.declared.request.Got.TheVariants as got
use Rattle.rehearse.specs.declared.worker.Connection.{Connection}
use Rattle.rehearse.specs.Playing.{setting_of}
use Rattle.rehearse.proofs.Working.{got_left, begins_stepped, ends_input, cuts_input, refuses_input, none_rose}
use Rattle.rehearse.proofs.Telling.{on_ok, on_ok_two}
use Rattle.rehearse.proofs.worker.Worker.go_on.Goals as goal

pub begin-requires : goal.begin-requires
begin-requires g c = record { ready = c.requires.ready }

pub returns-in-Request : goal.returns-in-Request
returns-in-Request g c =
    let between : Connection = record c.args.connection { source = c.read_request.new.source; carry = c.read_request.new.carry } in
    let says = got_left c.args.connection.carry c.args.connection.source c.read_request.new.carry c.read_request.new.source c.in_ok-peer.peer (got.Request c.in-Request.request) c.in_ok-peer.ensures c.in-Request.ensures.answers in
    on_ok_two c.begin.result
    (λ begun ready.
    begins_stepped (setting_of (names_of c.args.natives.now) c.args.setting.now) c.args.self.now c.begin.new.self c.args.objects.now c.args.listing.now c.args.connection between c.in-Request.request says.0
    c.requires.ready says.1 says.2 refl refl begun ready c.begin.ensures.number)
    c.begin.ensures.begun c.begin.ensures.ready

pub returns-in-End : goal.returns-in-End
returns-in-End g c =
    let says = got_left c.args.connection.carry c.args.connection.source c.read_request.new.carry c.read_request.new.source c.in_ok-peer.peer got.End c.in_ok-peer.ensures c.in-End.ensures.answers in
    on_ok c.push_closed.result
    (ends_input (setting_of (names_of c.args.natives.now) c.args.setting.now) c.args.self.now c.args.objects.now c.args.listing.now c.push_closed.new.self c.args.connection c.requires.idle c.requires.ready says.0)
    c.push_closed.ensures

pub returns-in-Truncated : goal.returns-in-Truncated
returns-in-Truncated g c =
    let says = got_left c.args.connection.carry c.args.connection.source c.read_request.new.carry c.read_request.new.source c.in_ok-peer.peer (got.Truncated c.in-Truncated.have) c.in_ok-peer.ensures c.in-Truncated.ensures.answers in
    on_ok c.push_closed-in-Truncated.result
    (cuts_input (setting_of (names_of c.args.natives.now) c.args.setting.now) c.args.self.now c.args.objects.now c.args.listing.now c.push_closed-in-Truncated.new.self c.args.connection c.in-Truncated.have c.requires.idle c.requires.ready says.0)
    c.push_closed-in-Truncated.ensures

pub returns-in-Refused : goal.returns-in-Refused
returns-in-Refused g c =
    let says = got_left c.args.connection.carry c.args.connection.source c.read_request.new.carry c.read_request.new.source c.in_ok-peer.peer (got.Refused c.in-Refused.status) c.in_ok-peer.ensures c.in-Refused.ensures.answers in
    on_ok c.refuse.result
    (refuses_input (setting_of (names_of c.args.natives.now) c.args.setting.now) c.args.self.now c.args.objects.now c.args.listing.now c.refuse.new.listing c.args.connection c.in-Refused.status c.requires.idle c.requires.ready says.0)
    c.refuse.ensures

pub unreachable-requires : goal.unreachable-requires
unreachable-requires g c = none_rose c.in-ReadFault.ensures.rose
