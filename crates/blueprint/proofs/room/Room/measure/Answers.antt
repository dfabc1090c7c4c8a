use Rattle.std.proofs.Common.{◌≡◌, ℕ, List, length, ap, refl, arith, length-append}
use Rattle.blueprint.specs.Scripts.{script_of}
use Rattle.blueprint.proofs.Misfits.{room_long, room_done, bytes_both}
use Rattle.blueprint.proofs.room.Room.measure.Goals as goal

pub returns-then-len-self-2 : goal.returns-then-len-self-2
returns-then-len-self-2 c = λ before count size.
    let script : length c.in-Ok.script ≡ length (script_of c.args.defs.now) = ap (λ (s : List ℕ). length s) c.in-Ok.ensures in
    room_long c.args.self.epoch before c.args.defs.now (omega arith) c.if-self-eq18446744073709551615.false (omega arith)

pub returns : goal.returns
returns c = λ before count size.
    let script : length c.in-Ok.script ≡ length (script_of c.args.defs.now) = ap (λ (s : List ℕ). length s) c.in-Ok.ensures in
    let bytes = bytes_both before c.args.defs.now in
    let number = length-append before c.args.defs.now in
    (room_done c.args.self.epoch before c.args.defs.now (omega arith) c.if-self-eq18446744073709551615.false (omega arith), refl, omega arith, omega arith)
