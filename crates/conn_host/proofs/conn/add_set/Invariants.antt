use Rattle.std.proofs.Common.{◌≡◌, ◌++◌, ◌∷◌, [], take}
use Rattle.conn_host.specs.Conns.{unnamed}
use Rattle.conn_host.proofs.conn.add_set.Given as goal

-- the set behind those that were there has the fields so far
abbrev pub invariant-fields : goal.invariant-fields
invariant-fields l = l.sets ≡ l.fn.sets ++ unnamed (take l.key-index l.key-items) ∷ []
