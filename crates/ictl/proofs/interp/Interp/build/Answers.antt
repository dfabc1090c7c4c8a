use Rattle.std.proofs.Common.{refl, false, ap}
use Rattle.server_host.specs.Hosts.{HostState}
use Rattle.tcl_eval.specs.State.{State}
use Rattle.natives.specs.Names.{names_of}
use Rattle.ictl.proofs.Resets.{authorised_in, newly_made}
use Rattle.ictl.proofs.interp.Interp.build.Goals as goal

pub returns-clause-is_new : goal.returns-clause-is_new
returns-clause-is_new g c =
    newly_made (names_of c.args.natives.now) _ false c.in-Ok.ensures.state c.in-Ok.ensures.idle c.mark-mark.ensures
    c.in_ok-tables.ensures.routes c.in_ok-tables.ensures.cleanups
    (authorised_in (names_of c.args.natives.now) c.in_ok-tables.tables.blueprint.value.defs c.in-Ok.engine.table.table c.in_ok-name.name c.has_procedure-authorises.result
    c.has_procedure-authorises.ensures c.in_ok-name.ensures (ap (λ (s : State HostState). s.commands) c.in-Ok.ensures.state))
    refl refl c.none.ensures refl refl
