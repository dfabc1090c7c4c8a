-- A net in memory.
use Rattle.std.specs.Prelude.{ℕ, ◌≡◌, Bool, true, false, List, [], ◌∷◌, map, Some}
use Rattle.txt_core.specs.Names.{Bytes}
use Rattle.outside.specs.Calls.{Calls, NextFails, counted, after_good, after_fault}
use Rattle.outside.specs.Guests.{Guest, NetState}
use Rattle.outside.specs.Supply.{Supply}
use Rattle.outside.specs.Outlets.{Outlet}
use Rattle.outside.specs.declared.mem_conn.MemConn.{MemConn}
use Rattle.outside.specs.declared.net.Accepted.{Accepted}
use Rattle.outside.specs.declared.net.Accepted.TheVariants.{Conn, Closed, Failed, NoMemory}

-- A net in memory, as contracts see it.
pub record Hall : Type 0 where
  -- the connections still to come, in order
  pub coming : List MemConn
  -- how many it gave
  pub given : ℕ
  -- it has told that none is left
  pub ended : Bool
  -- its calls to listen and to accept together
  pub calls : Calls

-- what a net tells of a connection to come
abbrev pub guest_of : MemConn → Guest
guest_of conn = record { input = conn.input; peer = conn.peer }

-- what the net in memory is as a net
abbrev pub state_of : Hall → NetState
state_of hall = record { faults = hall.calls.faults; given = hall.given; ended = hall.ended; coming = Some (map guest_of hall.coming) }

-- no call was made yet, and these are to fail
abbrev pub no_call : Bytes → Calls
no_call fails = record { fails = fails; made = 0; faults = 0 }

-- the source and the sink of a connection that is given
abbrev pub source_of : MemConn → Supply
source_of conn = record { rest = conn.input; piece = conn.piece; calls = no_call conn.reads.items }

abbrev pub sink_of : MemConn → Outlet
sink_of conn = record { piece = conn.piece; calls = no_call conn.writes.items }

-- What an accept does. It fails exactly where its number is listed. Else it gives the first of the connections still to
-- come, or where there is none tells that; but for want of memory, at which it keeps the connections.
abbrev pub Admits : Hall → Accepted Supply Outlet → Hall → Type 0
Admits before (Conn source sink peer) after =
    ¬ (NextFails before.calls) × ((first : MemConn) × (before.coming ≡ first ∷ after.coming)
    × (source ≡ source_of first) × (sink ≡ sink_of first) × (peer ≡ first.peer))
    × (after.given ≡ counted before.given) × (after.ended ≡ before.ended) × (after.calls ≡ after_good before.calls)
Admits before Closed after =
    ¬ (NextFails before.calls) × (before.coming ≡ [])
    × (after ≡ record { coming = []; given = before.given; ended = true; calls = after_good before.calls })
Admits before Failed after = NextFails before.calls × (after ≡ record before { calls = after_fault before.calls })
Admits before NoMemory after = ¬ (NextFails before.calls) × (after ≡ record before { calls = after_good before.calls })

-- What a listen does: it fails exactly where its number is listed.
abbrev pub Opens : Hall → Bool → Hall → Type 0
Opens before true after = ¬ (NextFails before.calls) × (after ≡ record before { calls = after_good before.calls })
Opens before false after = NextFails before.calls × (after ≡ record before { calls = after_fault before.calls })
