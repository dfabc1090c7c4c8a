-- The targets of the program.
use Rattle.std.specs.Prelude.{ℕ}
use Rattle.txt_core.specs.Names.{Bytes}
use Rattle.load_gen.specs.Load.{target_of}
use Rattle.load_gen.specs.declared.Target.{Target}
use Rattle.load_gen.specs.declared.Target.TheVariants.{Hit, Form, Miss}

-- how the k-th request writes what it asks for
abbrev pub written : Target → ℕ → Bytes
written Hit k = target_of 0 k
written Form k = target_of 1 k
written Miss k = target_of 2 k
