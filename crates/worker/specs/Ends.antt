-- How a session ends: with its last item, or behind all of its items.
use Rattle.std.specs.Prelude.{◌≡◌, ◌⊎◌, ◌<◌, ℕ, ◌+◌, true, false, List, [], ◌∷◌, ◌++◌, length, take, Option, None, Some}
use Rattle.txt_core.specs.Names.{Bytes, Moment}
use Rattle.http_req.specs.Outcomes.{Gets, Whole, End, Truncated, Refused, ended}
use Rattle.http_req.specs.declared.request.Request.{Request}
use Rattle.http_resp.specs.Replies.{no_memory_bytes}
pub use Rattle.http_resp.specs.Replies.{refusal_bytes}
use Rattle.shared_state.specs.Views.{BlueEntry}
use Rattle.serving.specs.Connections.{after_request, asks_close}
use Rattle.serving.specs.declared.connection.Behind.{Behind}
use Rattle.serving.specs.declared.connection.Behind.TheVariants as connection
use Rattle.worker.specs.Runs.{Finished, CutShort, WantsBefore, WantsBehind}
use Rattle.worker.specs.Items.{Item, bytes_of}
use Rattle.worker.specs.declared.served.Served.{Served}
use Rattle.worker.specs.declared.served.End.{End as SessionEnd}
use Rattle.worker.specs.declared.served.End.TheVariants as ends

-- ---- behind one item

-- what its connection does behind an item, where so many items with answers of so many bytes were before it
abbrev pub behind_item : (count answered : ℕ) → Served → Item → Behind
behind_item count answered x item = after_request (asks_close item.request) (count + 1) (answered + bytes_of x.answers)

-- the session goes on behind it: its reply was written whole, all of it was run, and the connection stays open
abbrev pub GoesOnBehind : (count answered : ℕ) → Served → Item → Type 0
GoesOnBehind count answered x item = (item.course ≡ Finished) × (behind_item count answered x item ≡ connection.GoesOn)

-- The session ends with it: its request asked for that; or it spent the connection; or its reply met a fault, with so many bytes of it
-- written, and fewer than all; or memory wanted in it, and its response or the named reply was written whole. No other end is an item's.
abbrev pub EndsWith : SessionEnd → (count answered : ℕ) → Served → Item → Type 0
EndsWith ends.Closing count answered x item = (item.course ≡ Finished) × (behind_item count answered x item ≡ connection.Closing)
EndsWith ends.Spent count answered x item = (item.course ≡ Finished) × (behind_item count answered x item ≡ connection.Spent)
EndsWith (ends.WriteFault sent) count answered x item =
    (sent ≡ x.wrote) × (x.wrote < length item.reply) × ((item.course ≡ CutShort) ⊎ (item.course ≡ WantsBefore))
EndsWith ends.NoMemory count answered x item =
    (x.wrote ≡ length item.reply) × ((item.course ≡ WantsBefore) ⊎ (item.course ≡ WantsBehind))
EndsWith ends.Ended count answered x item = ⊥
EndsWith (ends.Truncated have) count answered x item = ⊥
EndsWith (ends.Refused status) count answered x item = ⊥
EndsWith ends.ReadFault count answered x item = ⊥

-- ---- behind all items

-- What a worker did behind the items of a session: nothing that is seen; or it wrote the plain reply of a refusal, at a moment; or, since
-- memory wanted, the named reply, at a moment, and had perhaps taken a look by which no run was begun.
pub data Finish : Type 0 where
  Nothing : Finish
  Refuses : (status : ℕ) (moment : Moment) → Finish
  Wants : (moment : Moment) (look : Option BlueEntry) → Finish

abbrev pub finish_bytes : Finish → Bytes
finish_bytes Nothing = []
finish_bytes (Refuses status moment) = refusal_bytes status moment
finish_bytes (Wants moment look) = no_memory_bytes moment

-- the moments of which it speaks, in the order in which they were read
abbrev pub finish_moments : Finish → List Moment
finish_moments Nothing = []
finish_moments (Refuses status moment) = moment ∷ []
finish_moments (Wants moment look) = moment ∷ []

-- The end is that of a session that did this behind its items. A fault came in the reply, in front of its end.
abbrev pub EndsBehind : SessionEnd → Finish → Type 0
EndsBehind ends.Ended finish = finish ≡ Nothing
EndsBehind (ends.Truncated have) finish = finish ≡ Nothing
EndsBehind ends.ReadFault finish = finish ≡ Nothing
EndsBehind (ends.Refused status) finish = (moment : Moment) × (finish ≡ Refuses status moment)
EndsBehind (ends.WriteFault sent) (Refuses status moment) = sent < length (refusal_bytes status moment)
EndsBehind (ends.WriteFault sent) (Wants moment look) = sent < length (no_memory_bytes moment)
EndsBehind (ends.WriteFault sent) Nothing = ⊥
EndsBehind ends.NoMemory finish = (moment : Moment) × (look : Option BlueEntry) × (finish ≡ Wants moment look)
EndsBehind ends.Closing finish = ⊥
EndsBehind ends.Spent finish = ⊥

-- the bytes that were written behind the replies of the items: those of the reply, up to a fault
abbrev pub end_bytes : SessionEnd → Finish → Bytes
end_bytes (ends.WriteFault sent) finish = take sent (finish_bytes finish)
end_bytes end finish = finish_bytes finish

-- ---- the input behind the items

-- The source failed, and has this still to give: what it had given past the items is no byte, or less than a request.
pub record FailsEarly (peer : Bytes) (unread : Option Bytes) (input : Bytes) : Type 0 where
  pub given : Bytes
  pub rest : Bytes
  pub tells : unread ≡ Some rest
  pub parts : input ≡ given ++ rest
  pub early : Gets given peer (ended given)

-- What the input is behind the items, by the end and what was done: no byte; less than a request; what is refused, also where its reply
-- met a fault; and a request, where a look was taken.
abbrev pub LeavesInput : Bytes → SessionEnd → Finish → Option Bytes → Bytes → Type 0
LeavesInput peer end (Refuses status moment) unread input = Gets input peer (Refused status)
LeavesInput peer end (Wants moment (Some look)) unread input = (request : Request) × (used : ℕ) × Gets input peer (Whole request used)
LeavesInput peer end (Wants moment None) unread input = Unit {0}
LeavesInput peer ends.Ended Nothing unread input = Gets input peer End
LeavesInput peer (ends.Truncated have) Nothing unread input = Gets input peer (Truncated have)
LeavesInput peer ends.ReadFault Nothing unread input = FailsEarly peer unread input
LeavesInput peer end Nothing unread input = Unit {0}
