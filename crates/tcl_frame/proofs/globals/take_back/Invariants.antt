use Rattle.std.proofs.Common.{◌≡◌, ◌≤◌, take, length}
use Rattle.std.specs.FinMap as map
use Rattle.std.proofs.Common.{vec_len}
use Rattle.tcl_frame.specs.Base.{base_of}
use Rattle.tcl_frame.specs.Globals.{values_of, keeps_of, KnowBefore}
use Rattle.tcl_frame.proofs.globals.take_back.Given as goal

-- the base scalars are those of the keeps that are left, and the first keeps, so many, are the same
abbrev pub invariant-keeps : goal.invariant-keeps
invariant-keeps l =
    record {
      base : values_of l.base ≡ base_of (keeps_of l.keeps.items);
      known : KnowBefore map.empty l.keeps.items;
      within : l.kept ≤ length l.keeps.items;
      first : take l.kept (keeps_of l.keeps.items) ≡ take l.kept (keeps_of l.fn.keeps.items);
    }

abbrev pub decreases-keeps : goal.decreases-keeps
decreases-keeps l = vec_len l.keeps
