use Rattle.std.proofs.Common.{ℕ, ◌+◌, ◌≤◌, [], sym, subst, ap, ◌∙◌, arith}
use Rattle.natives.specs.Names.{names_of}
use Rattle.server_host.specs.Leaf.{host_table}
use Rattle.tcl_eval.specs.Eval.{eval}
use Rattle.tcl_eval.specs.Engine.{at_global}
use Rattle.ictl.specs.Defines.{inner_runs}
use Rattle.ictl.specs.Main.{first_depth}
use Rattle.ictl.specs.Standing.{state_of, comes_to, settling_gives, written, inner_written}
use Rattle.cmd_table.specs.Commands.{Writes}
use Rattle.ictl.specs.Within.{SettledWithin}
use Rattle.ictl.proofs.Withins.{started_within, settled_from, wants}
use Rattle.ictl.proofs.Settles.{settle_same}
use Rattle.ictl.proofs.Settlings.{own_taken, own_counted, beside_inner}
use Rattle.ictl.proofs.settling.Settling.start.Goals as goal

pub returns-clause-gives : goal.returns-clause-gives
returns-clause-gives g c = λ inside further.
    let names = names_of c.args.natives.now in
    let bp = c.args.blueprint.now.value in
    let s = c.args.self.now in
    let mid = record s { run = c.start.new.self } in
    let new = c.go_on.new.self in
    let is = beside_inner _ _ _ _ _ c.start.ensures.counts in
    sym (ap (λ (n : ℕ). settling_gives names bp c.args.moment c.in_ok-stop.stop new n further)
    (own_taken inside c.args.steps.now c.start.new.steps c.go_on.new.steps (written names bp s) (written names bp mid) (written names bp new) is))
    ∙ c.in_ok-stop.ensures.gives inside further
    ∙ settle_same (inner_runs names bp c.args.moment) s.questions inside (comes_to names c.in_ok-came.came c.start.new.self)
    (eval names host_table first_depth c.args.work (at_global (state_of s.run)) c.args.budget) (λ given. sym (c.in_ok-came.ensures.gives given)) further

pub returns-clause-counts : goal.returns-clause-counts
returns-clause-counts g c =
    let names = names_of c.args.natives.now in
    let bp = c.args.blueprint.now.value in
    let s = c.args.self.now in
    own_counted c.args.steps.now c.start.new.steps c.go_on.new.steps (written names bp s) (written names bp (record s { run = c.start.new.self })) (written names bp c.go_on.new.self)
    (beside_inner _ _ _ _ _ c.start.ensures.counts) c.go_on.ensures.counts

pub returns-in_err-came-clause-most : goal.returns-in_err-came-clause-most
returns-in_err-came-clause-most g c = wants c.from_residual.result _ (λ inside.
    let names = names_of c.args.natives.now in
    let bp = c.args.blueprint.now.value in
    let s = c.args.self.now in
    let within = started_within names bp c.args.moment s (record s { run = c.start.new.self }) _ inside c.args.steps.now c.start.new.steps c.requires.1 c.start.ensures.counts c.start.ensures.most in
    within)

pub returns-in_err-stop-clause-most : goal.returns-in_err-stop-clause-most
returns-in_err-stop-clause-most g c = wants c.from_residual-in_err-stop.result _ (λ inside.
    let names = names_of c.args.natives.now in
    let bp = c.args.blueprint.now.value in
    let s = c.args.self.now in
    let mid = record s { run = c.start.new.self } in
    let is = beside_inner _ _ _ _ (inner_written names bp s.inner) c.start.ensures.counts in
    settled_from (inside + written names bp s) (inside + written names bp mid) c.args.steps.now c.start.new.steps c.go_on.new.steps c.go_on.new.self _ (omega (arith, is))
    (subst (SettledWithin (inside + written names bp mid) c.start.new.steps c.go_on.new.steps c.go_on.new.self)
    (settle_same (inner_runs names bp c.args.moment) s.questions inside (comes_to names c.in_ok-came.came c.start.new.self)
    (eval names host_table first_depth c.args.work (at_global (state_of s.run)) c.args.budget) (λ given. sym (c.in_ok-came.ensures.gives given)) [])
    (c.in_err-stop.ensures.most inside)))
