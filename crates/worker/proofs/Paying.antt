-- What a run cost, from the steps that were counted.
use Rattle.std.proofs.Common.{◌≡◌, ℕ, ◌+◌, ◌-◌, ◌*◌, ◌≤◌, List, [], Option, None, Some, refl, sym, ap, ◌∙◌, arith}
use Rattle.cmd_table.specs.Commands.{Writes}
use Rattle.server_host.specs.Hosts.{HostState}
use Rattle.tcl_eval.specs.State.{State}
use Rattle.tcl_eval.specs.declared.outcome.Outcome.{Outcome}
use Rattle.ictl.specs.Falls.{StandsAt as IsAt, IsWriting}
use Rattle.ictl.specs.Interps.{IsNew, interp_state, interp_written}
use Rattle.ictl.specs.Standing.{inner_written}
use Rattle.ictl.specs.declared.inner.InnerRun.{InnerRun}
use Rattle.ictl.specs.declared.interp.Interp.{Interp}
use Rattle.ictl.specs.declared.next.Next.TheVariants as next
use Rattle.http_resp.specs.declared.response.Response.{Response}

-- without a run inside, what was written is what the run itself made
pub alone : (names : List (List ℕ)) (i : Interp) → i.settling.inner ≡ None → interp_written names i ≡ Writes (interp_state i).made + 0
alone names i is = ap (λ (o : Option InnerRun). Writes (interp_state i).made + inner_written names i.blueprint.value o) is

pub writing_alone : (names : List (List ℕ)) (i : Interp) → IsWriting i → interp_written names i ≡ Writes (interp_state i).made + 0
writing_alone names i at = alone names i at.0

pub new_alone : (names : List (List ℕ)) (i : Interp) → IsNew names i → interp_written names i ≡ 0
new_alone names i new =
    let a = alone names i new.1.inner in
    let b : Writes (interp_state i).made ≡ 0 = ap (λ (s : State HostState). Writes s.made) new.1.state in
    omega (arith, a, b)

-- where a run has ended, no run inside is under way
ended_inner : (outcome : Outcome) (i : Interp) → IsAt (next.Ended outcome) i → i.settling.inner ≡ None
ended_inner outcome i at = at.2

pub ended_alone : (names : List (List ℕ)) (outcome : Outcome) (i : Interp) → IsAt (next.Ended outcome) i → interp_written names i ≡ Writes (interp_state i).made + 0
ended_alone names outcome i at = alone names i (ended_inner outcome i at)

-- up to the response
pub paid_once : (s0 s1 s2 w0 w1 w2 made : ℕ) → w0 ≡ 0 → w2 ≡ made + 0 → s0 + w1 ≤ s1 + w0 → s1 + w2 ≤ s2 + w1
    → s2 + made ≤ s0 + (2 * made + (((s1 + w0) - (s0 + w1)) + ((s2 + w1) - (s1 + w2))))
paid_once s0 s1 s2 w0 w1 w2 made none own g h = omega (arith, none, own, g, h)

-- and behind it
pub paid_twice : (s0 s1 s2 s4 w0 w1 w2 w4 made : ℕ) → w0 ≡ 0 → w4 ≡ made + 0 → s0 + w1 ≤ s1 + w0 → s1 + w2 ≤ s2 + w1 → s2 + w4 ≤ s4 + w2
    → s4 + made ≤ s0 + (2 * made + ((((s1 + w0) - (s0 + w1)) + ((s2 + w1) - (s1 + w2))) + ((s4 + w2) - (s2 + w4))))
paid_twice s0 s1 s2 s4 w0 w1 w2 w4 made none own g h k = omega (arith, none, own, g, h, k)

-- what is counted in two calls is counted in both
pub counted_both : (s2 s3 s4 w2 w3 w4 : ℕ) → s2 + w3 ≤ s3 + w2 → s3 + w4 ≤ s4 + w3 → s2 + w4 ≤ s4 + w2
counted_both s2 s3 s4 w2 w3 w4 g h = omega (arith, g, h)

-- a definition run, of which no entry but its own is counted at its start
pub paid_define : (s0 s1 s2 m0 m1 w1 w2 made : ℕ) → m0 ≡ 0 → s1 + m0 ≡ s0 + m1 → m1 ≤ w1 → w2 ≡ made + 0 → s1 + w2 ≤ s2 + w1
    → s2 + made ≤ s0 + (2 * made + (0 + ((s2 + w1) - (s1 + w2))))
paid_define s0 s1 s2 m0 m1 w1 w2 made none start own alone h = omega (arith, none, start, own, alone, h)

-- ---- at the beginning

pub new_made : (names : List (List ℕ)) (i : Interp) → IsNew names i → Writes (interp_state i).made ≡ 0
new_made names i new = ap (λ (s : State HostState). Writes s.made) new.1.state

pub own_within : (names : List (List ℕ)) (i : Interp) → Writes (interp_state i).made ≤ interp_written names i
own_within names i = let n = inner_written names i.blueprint.value i.settling.inner in omega arith

-- with the renewal before it and the reset behind it
pub paid_all : (before renewed ran after one made cost : ℕ) → renewed ≤ before + one → ran + made ≤ renewed + cost → after ≡ ran + made → after ≤ before + one + cost
paid_all before renewed ran after one made cost f g h = omega (arith, f, g, h)
