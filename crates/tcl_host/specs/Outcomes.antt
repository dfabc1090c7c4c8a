-- What commands come to, in the words of the rules: a reply or an end, or a refusal. Want of memory says nothing.
use Rattle.std.specs.Prelude.{◌≡◌, Bool, true, false, [], Result, Ok, Err, ⊤}
use Rattle.txt_core.specs.Names.{Bytes}
use Rattle.tcl_host.specs.Codes as code_of
use Rattle.tcl_host.specs.Leaf.{Leaf, says, Onward, goes, TextEnd}
use Rattle.tcl_host.specs.Answers.{Replies, RepliesTo}
use Rattle.tcl_host.specs.declared.host.HostReply.{HostReply}
use Rattle.tcl_host.specs.declared.host.HostReply.TheVariants as replies
use Rattle.natives.specs.declared.fault.Fault.{Fault}
use Rattle.natives.specs.declared.fault.Fault.TheVariants.{Error, NoMemory}

-- the reply to what is refused: an error with the refusal's text, or that memory ran out
abbrev pub refused : Fault → HostReply
refused (Error message) = replies.Done code_of.error message
refused NoMemory = replies.NoMemory

-- a command ends with an error, with the host's state after it
abbrev pub FailsWith : {H : Type 0} → Fault → H → Leaf H → Type 0
FailsWith (Error message) host leaf = leaf ≡ says code_of.error message host
FailsWith NoMemory host leaf = Unit {0}

-- what a command came to: a reply, or an error
abbrev pub Comes : {H : Type 0} → Result HostReply Fault → H → Leaf H → Type 0
Comes (Ok reply) host leaf = Replies reply host leaf
Comes (Err refusal) host leaf = FailsWith refusal host leaf

-- the same of a command that never does more than to end with a result
abbrev pub EndsWith : {H : Type 0} → Result Bytes Fault → H → Leaf H → Type 0
EndsWith (Ok result) host leaf = leaf ≡ says code_of.ok result host
EndsWith (Err refusal) host leaf = FailsWith refusal host leaf

-- the same of an answer
abbrev pub ComesTo : {H : Type 0} → Result HostReply Fault → H → Onward H → Type 0
ComesTo (Ok reply) host onward = RepliesTo reply host onward
ComesTo (Err (Error message)) host onward = onward ≡ goes (says code_of.error message host)
ComesTo (Err NoMemory) host onward = Unit {0}

-- the same of a text of a page, which ends with no result
abbrev pub PutsOut : {H : Type 0} → Result ⊤ Fault → H → TextEnd H → Type 0
PutsOut (Ok done) host end = end ≡ record { code = code_of.ok; result = []; host = host }
PutsOut (Err (Error message)) host end = end ≡ record { code = code_of.error; result = message; host = host }
PutsOut (Err NoMemory) host end = Unit {0}

-- ---- what checks answer

-- a check has this error
abbrev pub Stops : {A : Type 0} → Fault → Result A Bytes → Type 0
Stops (Error message) checked = checked ≡ Err message
Stops NoMemory checked = Unit {0}

-- what a check found, or the error
abbrev pub Finds : {A : Type 0} → Result A Fault → Result A Bytes → Type 0
Finds (Ok found) checked = checked ≡ Ok found
Finds (Err refusal) checked = Stops refusal checked

-- a test failed with this error
abbrev pub Refused : Fault → Bool → Bytes → Type 0
Refused (Error refused) test message = (test ≡ false) × (refused ≡ message)
Refused NoMemory test message = Unit {0}

-- a test was passed, or failed with this error
abbrev pub Passes : Result ⊤ Fault → Bool → Bytes → Type 0
Passes (Ok passed) test message = test ≡ true
Passes (Err refusal) test message = Refused refusal test message
