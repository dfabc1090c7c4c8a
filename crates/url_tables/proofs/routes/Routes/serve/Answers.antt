use Rattle.std.proofs.Common.{◌≡◌, ℕ, ◌+◌, ◌-◌, ◌*◌, List, length, None, ap, ◌∙◌, subst, arith}
use Rattle.std.specs.Prelude.{nat_le}
use Rattle.url_tables.specs.Serving.{route_method}
use Rattle.url_tables.specs.Searching.{found_at}
use Rattle.url_tables.proofs.Ranks.{best_when, none_above}
use Rattle.url_tables.proofs.Sites.{found_serves, none_serves, none_at_all}
use Rattle.url_tables.proofs.routes.Routes.serve.Goals as goal

pub loop-count-init : goal.loop-count-init
loop-count-init c =
    let same : length c.as_slice-path.result.now ≡ length c.args.segments.now = ap length c.as_slice-path.ensures in
    (omega arith, λ defs b. none_above c.args.method.now c.args.segments.now defs (2 * (length c.as_slice-path.result.now + 1)) (omega arith))

pub returns-in-Some : goal.returns-in-Some
returns-in-Some c = λ defs b.
    let same : length c.as_slice-path.result.now ≡ length c.args.segments.now = ap length c.as_slice-path.ensures in
    let more : c.loop-count.count ≡ c.loop-count.count - 1 + 1 = omega arith in
    let none : best_when (nat_le (2 * (c.loop-count.count - 1 + 1))) c.args.method.now c.args.segments.now defs ≡ None =
    subst (λ (n : ℕ). best_when (nat_le (2 * n)) c.args.method.now c.args.segments.now defs ≡ None) more (c.loop-count.invariant.1 defs b) in
    found_serves c.args.self.now c.args.method.now c.args.segments.now (c.loop-count.count - 1) defs _ b (omega (arith, c.loop-count.invariant.0)) none
    (c.in-Some.ensures
    ∙ ap (λ (m : List ℕ). found_at c.args.self.now.sites m c.as_slice-path.result.now (c.loop-count.count - 1)) (c.route_method-wanted.ensures ∙ ap route_method c.bytes.ensures)
    ∙ ap (λ (p : List (List ℕ)). found_at c.args.self.now.sites (route_method c.args.method.now) p (c.loop-count.count - 1)) c.as_slice-path.ensures)

pub loop-count-preserved : goal.loop-count-preserved
loop-count-preserved c = (
  omega (arith, c.loop-count.invariant.0),
  λ defs b.
      let same : length c.as_slice-path.result.now ≡ length c.args.segments.now = ap length c.as_slice-path.ensures in
      let more : c.loop-count.count ≡ c.loop-count.count - 1 + 1 = omega arith in
      let none : best_when (nat_le (2 * (c.loop-count.count - 1 + 1))) c.args.method.now c.args.segments.now defs ≡ None =
      subst (λ (n : ℕ). best_when (nat_le (2 * n)) c.args.method.now c.args.segments.now defs ≡ None) more (c.loop-count.invariant.1 defs b) in
      none_serves c.args.self.now c.args.method.now c.args.segments.now (c.loop-count.count - 1) defs b (omega (arith, c.loop-count.invariant.0)) none
      (c.in_default.ensures
      ∙ ap (λ (m : List ℕ). found_at c.args.self.now.sites m c.as_slice-path.result.now (c.loop-count.count - 1)) (c.route_method-wanted.ensures ∙ ap route_method c.bytes.ensures)
      ∙ ap (λ (p : List (List ℕ)). found_at c.args.self.now.sites (route_method c.args.method.now) p (c.loop-count.count - 1)) c.as_slice-path.ensures),
)

pub returns : goal.returns
returns c = λ defs b. none_at_all c.args.method.now c.args.segments.now (2 * c.loop-count.count) defs (omega arith) (c.loop-count.invariant.1 defs b)
