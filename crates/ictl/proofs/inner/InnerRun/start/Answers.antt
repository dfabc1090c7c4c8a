use Rattle.std.proofs.Common.{ℕ, List, ap, ◌∙◌}
use Rattle.txt_core.specs.Number.{number}
use Rattle.natives.specs.Names.{names_of}
use Rattle.server_host.specs.Hosts.{HostState, defining}
use Rattle.ictl.specs.Defines.{depth_of}
use Rattle.cmd_table.specs.Commands.{Writes}
use Rattle.ictl.proofs.Inners.{sunk_begun, begun, none_begun, begun_writes}
use Rattle.ictl.proofs.Withins.{wants}
use Rattle.ictl.proofs.inner.InnerRun.start.Goals as goal

pub stop-requires-clause-value : goal.stop-requires-clause-value
stop-requires-clause-value g c = c.requires.value

pub stop-requires-clause-asks : goal.stop-requires-clause-asks
stop-requires-clause-asks g c = c.in_ok-came.ensures.asks

pub returns-clause-asks : goal.returns-clause-asks
returns-clause-asks g c = c.in_ok-stop.ensures.asks

pub returns-clause-counts : goal.returns-clause-counts
returns-clause-counts g c = c.start.ensures.counts

pub returns-clause-fewer : goal.returns-clause-fewer
returns-clause-fewer g c = c.stop.ensures.fewer

pub stop-requires-clause-suffices : goal.stop-requires-clause-suffices
stop-requires-clause-suffices g c = c.in_ok-came.ensures.suffices c.args.self.now.defining.questions c.requires.suffices

pub returns-clause-gives : goal.returns-clause-gives
returns-clause-gives g c = λ bp fresh further.
    let names = names_of c.args.natives.now in
    let s = c.args.self.now in
    begun names bp c.args.moment s.run.engine c.begin_definitions.new.self c.args.words.now c.args.budget s.defining.questions c.in-Some.depth c.in_ok-script.script c.in_ok-came.came c.start.new.self further _
    fresh (c.in_ok-begin_definitions.ensures.ok ∙ ap (λ (h : HostState). defining c.args.moment h.blueprint) c.host_mut.ensures.value)
    (c.in-Some.ensures.depth ∙ ap (λ (t : List ℕ). depth_of (number t)) c.bytes_at-level.ensures)
    (c.in_ok-script.ensures ∙ c.bytes_at-body.ensures)
    c.in_ok-came.ensures.gives
    (c.in_ok-stop.ensures.gives names bp c.args.moment further)

pub returns-in_default-clause-gives : goal.returns-in_default-clause-gives
returns-in_default-clause-gives g c = λ bp fresh further.
    let s = c.args.self.now in
    sunk_begun (names_of c.args.natives.now) bp c.args.moment s.run.engine c.begin_definitions.new.self c.args.words.now c.args.budget s.defining.questions further
    fresh (c.in_ok-begin_definitions.ensures.ok ∙ ap (λ (h : HostState). defining c.args.moment h.blueprint) c.host_mut.ensures.value)
    (c.in_default.ensures.depth ∙ ap (λ (t : List ℕ). depth_of (number t)) c.bytes_at-level.ensures)

pub returns-in_err-begin_definitions-clause-most : goal.returns-in_err-begin_definitions-clause-most
returns-in_err-begin_definitions-clause-most g c = wants c.from_residual.result _ (λ bp fresh. none_begun (names_of c.args.natives.now) bp c.args.moment c.args.self.now.run.engine _ fresh)

pub returns-in_err-script-clause-most : goal.returns-in_err-script-clause-most
returns-in_err-script-clause-most g c = wants c.from_residual-in_err-script.result _ (λ bp fresh. none_begun (names_of c.args.natives.now) bp c.args.moment c.args.self.now.run.engine _ fresh)

pub returns-in_err-came-clause-most : goal.returns-in_err-came-clause-most
returns-in_err-came-clause-most g c = wants c.from_residual-in_err-came.result _ (λ bp fresh.
    let s = c.args.self.now in
    begun_writes (names_of c.args.natives.now) bp c.args.moment s.run.engine c.begin_definitions.new.self c.args.words.now c.args.budget s.defining.questions c.in-Some.depth (Writes c.start.new.self.engine.made) c.in_ok-script.script
    fresh (c.in_ok-begin_definitions.ensures.ok ∙ ap (λ (h : HostState). defining c.args.moment h.blueprint) c.host_mut.ensures.value)
    (c.in-Some.ensures.depth ∙ ap (λ (t : List ℕ). depth_of (number t)) c.bytes_at-level.ensures)
    (c.in_ok-script.ensures ∙ c.bytes_at-body.ensures)
    c.start.ensures.most)

pub returns-in_err-stop-clause-most : goal.returns-in_err-stop-clause-most
returns-in_err-stop-clause-most g c = wants c.from_residual-in_err-stop.result _ (λ bp fresh.
    let s = c.args.self.now in
    begun_writes (names_of c.args.natives.now) bp c.args.moment s.run.engine c.begin_definitions.new.self c.args.words.now c.args.budget s.defining.questions c.in-Some.depth (Writes c.start.new.self.engine.made) c.in_ok-script.script
    fresh (c.in_ok-begin_definitions.ensures.ok ∙ ap (λ (h : HostState). defining c.args.moment h.blueprint) c.host_mut.ensures.value)
    (c.in-Some.ensures.depth ∙ ap (λ (t : List ℕ). depth_of (number t)) c.bytes_at-level.ensures)
    (c.in_ok-script.ensures ∙ c.bytes_at-body.ensures)
    c.start.ensures.most)
