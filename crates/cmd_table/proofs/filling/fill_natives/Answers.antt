use Rattle.std.proofs.Common.{◌≡◌, ◌<◌, List, ℕ, length, Some, ◌∙◌, ap, subst, arith}
use Rattle.std.specs.List.{slice_get}
use Rattle.natives.specs.Names.{names_of as native_names}
use Rattle.cmd_table.specs.Slots.{present}
use Rattle.cmd_table.proofs.Builts.{one_more, is_there}
use Rattle.cmd_table.proofs.filling.fill_natives.Goals.{in-Some+in_ok-fill, in_default}
use Rattle.cmd_table.proofs.filling.fill_natives.Goals as goal

pub loop-at-preserved : goal.loop-at-preserved
loop-at-preserved g c =
    let i = c.loop-at.at in
    let names = native_names c.args.natives.now in
    let before = c.loop-at.invariant in
    let within : i < length names = subst (λ (n : ℕ). i < n) before.0 c.loop-at-test.true in
    elim c.match-get.branch [
      | in-Some+in_ok-fill w ↦
          let named : Some w.bytes.result.now ≡ slice_get names i = ap (λ (n : List ℕ). Some n) (w.bytes.ensures ∙ w.name.ensures) ∙ w.in-Some.ensures in
          let more = one_more (present c.args.slots.now.entries) (present c.loop-at.slots.entries) (present w.fill.new.slots.entries) names i w.bytes.result.now before.2 named w.in_ok-fill.ensures.table in
          (before.0, omega arith, rw (w.slots-is) more, rw (w.slots-is) w.fill.ensures.ready, rw (w.steps-is, w.in_ok-fill.ensures.steps) (omega arith))
      | in_default w ↦ absurd (is_there names i within w.in_default.ensures)
    ]
