use Rattle.std.proofs.Common.{◌≡◌, ℕ, ◌+◌, ◌-◌, drop, None, sym, ◌∙◌, subst, arith}
use Rattle.url_tables.specs.Searching.{last_serving}
use Rattle.url_tables.proofs.Latest.{found_here}
use Rattle.url_tables.proofs.routes.latest.Goals as goal

pub returns-then-serves : goal.returns-then-serves
returns-then-serves c =
    let sites = c.args.sites.now in
    let back : c.loop-at.at ≡ c.loop-at.at - 1 + 1 = omega arith in
    let none : last_serving c.args.pattern c.args.method.now c.args.rest.now (drop (c.loop-at.at - 1 + 1) sites) ≡ None =
    subst (λ (n : ℕ). last_serving c.args.pattern c.args.method.now c.args.rest.now (drop n sites) ≡ None) back c.loop-at.invariant.1 in
    sym (found_here c.args.pattern c.args.method.now c.args.rest.now sites (c.loop-at.at - 1) c.index-sites-at.result (omega arith) c.index-sites-at.is none (sym c.serves.ensures ∙ c.if-serves.true))
