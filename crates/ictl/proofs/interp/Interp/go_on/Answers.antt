use Rattle.std.proofs.Common.{◌+◌, ◌-◌, []}
use Rattle.ictl.specs.Interps.{interp_written}
use Rattle.natives.specs.Names.{names_of}
use Rattle.ictl.proofs.Withins.{within_on, wants}
use Rattle.ictl.proofs.interp.Interp.go_on.Goals as goal

pub stopped-requires-clause-at : goal.stopped-requires-clause-at
stopped-requires-clause-at g c = c.scripts.invariant.at

pub stopped-requires-clause-script : goal.stopped-requires-clause-script
stopped-requires-clause-script g c = c.scripts.invariant.script

pub returns-in_err-next-clause-most : goal.returns-in_err-next-clause-most
returns-in_err-next-clause-most g c = wants c.from_residual.result _ (λ inside.
    let names = names_of c.args.natives.now in
    let old = c.args.self.now in
    let i = c.scripts.invariant in
    let n = inside + ((c.scripts.steps + interp_written names old) - (c.args.steps.now + interp_written names c.scripts.self)) in
    within_on names old c.scripts.self c.stopped.new.self inside c.args.steps.now c.scripts.steps c.stopped.new.steps _ _ i.counts (i.gives inside []) (c.in_err-next.ensures.most n))
