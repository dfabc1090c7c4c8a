-- Workers at the cells that they use, without natives.
use Rattle.std.specs.Prelude.{[]}
use Rattle.shared_state.specs.Cells.{Serve}
use Rattle.shared_state.specs.declared.shared.Passes.{Passes}
use Rattle.shared_state.specs.declared.shared.Shared.{Shared}
use Rattle.worker.specs.Clean.{IsClean}
use Rattle.worker.specs.declared.worker.Worker.{Worker}

-- the cells serve with these passes what has no natives
abbrev pub Open : Shared → Passes → Type 0
Open shared passes = Serve [] shared passes

-- and the worker is clean
abbrev pub Works : Shared → Passes → Worker → Type 0
Works shared passes worker = Open shared passes × IsClean [] passes worker
