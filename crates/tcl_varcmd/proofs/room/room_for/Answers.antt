use Rattle.std.proofs.Common.{arith}
use Rattle.tcl_varcmd.proofs.room.room_for.Goals as goal

pub returns-clause-room : goal.returns-clause-room
returns-clause-room c = λ k h. omega (arith, c.longest-most.ensures k h, c.in_ok-with_capacity.ensures.capacity)
