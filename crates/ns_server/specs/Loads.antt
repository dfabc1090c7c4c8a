-- The events of a load, whose file is told as text by `load_gen`.
use Rattle.std.specs.Prelude.{ℕ, zero, suc, ◌+◌, List, [], ◌∷◌, ◌++◌}
use Rattle.load_gen.specs.Load.{next, choice, target_of, get_of, block}
use Rattle.load_gen.specs.Load as load
use Rattle.rehearse.specs.Events.{Event, workers, define, connect, step, run, worker}

-- each of the four workers does this
abbrev pub each : (ℕ → Event) → List Event
each does = does 0 ∷ does 1 ∷ does 2 ∷ does 3 ∷ []

-- the k-th connection, by the number that was drawn for it: the worker ends what it had and gets the connection, and each takes a step
abbrev pub round_events : ℕ → ℕ → List Event
round_events x k =
    run (worker (load.worker x)) ∷ connect (load.worker x) (get_of (target_of (choice x) k)) ∷ each (λ number. step (worker number))

-- so many connections, the first of which is the k-th, behind the number that was drawn last
abbrev pub rounds_events : ℕ → ℕ → ℕ → List Event
rounds_events zero k x = []
rounds_events (suc more) k x = round_events (next x) k ++ rounds_events more (k + 1) (next x)

-- The events of a load of so many requests: four workers, the block with the procedures, the connections, and the end of what each
-- worker has.
abbrev pub load_events : ℕ → List Event
load_events n = workers 4 ∷ define block ∷ (rounds_events n 1 n ++ each (λ number. run (worker number)))
