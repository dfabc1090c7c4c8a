use Rattle.std.proofs.Common.{refl}
use Rattle.tcl_frame.proofs.Keeping as keeping
use Rattle.tcl_frame.proofs.law.base_scalars_stand.Goals as goal

pub returns : goal.returns
returns c =
    record {
      fresh = keeping.fresh_at_base;
      cleared = λ stack. (refl, refl);
      kept = λ stack name value. (refl, refl);
      unkept = λ stack count. (refl, refl);
      still = keeping.still;
      base = keeping.base_found;
      keeping = keeping.kept_found;
      keeping_apart = keeping.kept_apart;
      taken_back = keeping.taken_back;
    }
