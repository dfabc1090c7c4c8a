-- What the commands look at before they do anything. A check finds something, or says what is wrong.
use Rattle.std.specs.Prelude.{ℕ, ℤ, pos, negsuc, Option, Some, None, Result, Ok, Err}
use Rattle.txt_core.specs.Names.{Bytes, Words}
use Rattle.txt_core.specs.ErrorTexts.{no_connection}
use Rattle.http_req.specs.declared.request.Request.{Request}
use Rattle.tcl_host.specs.Leaf.{Leaf}
use Rattle.tcl_host.specs.Checks.{fails, shaped, is_counted, unfit, integer}
use Rattle.conn_host.specs.Conns.{ConnState}

-- what a check of an A comes to: what it found, or the text of an error
abbrev pub Checked : Type 0 → Type 0
Checked A = Result A Bytes

-- a check comes first: it goes on with what was found, or else the command ends with the error, and nothing is changed
abbrev pub given : {A : Type 0} → Checked A → (A → ConnState → Leaf ConnState) → ConnState → Leaf ConnState
given (Ok found) does host = does found host
given (Err message) does host = fails message host

-- the number of words is looked at before all else: it is from the least to the most
abbrev pub counted : ℕ → ℕ → Words → (ConnState → Leaf ConnState) → ConnState → Leaf ConnState
counted least most words does host = shaped (is_counted least most words) words does host

-- the run has a connection
abbrev pub connected : Option Request → Checked Request
connected (Some request) = Ok request
connected None = Err no_connection

abbrev pub connection : ConnState → Checked Request
connection host = connected host.request

-- of a number, that it is one from 0 on
abbrev pub not_negative : Checked ℤ → Words → ℕ → Checked ℕ
not_negative (Ok (pos n)) words place = Ok n
not_negative (Ok (negsuc n)) words place = Err (unfit words place)
not_negative (Err message) words place = Err message

-- the word at this place counts something: it is a number from 0 on
abbrev pub count : Words → ℕ → Checked ℕ
count words place = not_negative (integer words place) words place
