-- The ids of sets and channels.
use Rattle.std.specs.Prelude.{ℕ, ℤ, pos, negsuc, [], ◌∷◌, ◌==◌, decimal, bytes_eq, if◌then◌else◌, Option, Some, None, Ok, Err}
use Rattle.txt_core.specs.Names.{Bytes, Words}
use Rattle.txt_core.specs.Number.{number}
use Rattle.ns_sets.specs.Sets.{set_of}
use Rattle.ns_sets.specs.declared.set.Set.{Set}
use Rattle.chan_core.specs.Chans.{channel}
use Rattle.natives.specs.Words.{arg}
use Rattle.conn_host.specs.Conns.{ConnState}
use Rattle.conn_host.specs.Checks.{Checked}
use Rattle.conn_host.specs.Errors.{no_set, no_channel}

-- An id is a letter and the decimal digits of a number.
abbrev pub id_of : ℕ → ℕ → Bytes
id_of letter number = letter ∷ decimal number

-- the letter of sets, and that of channels
abbrev pub set_letter : ℕ
set_letter = 115

abbrev pub channel_letter : ℕ
channel_letter = 99

-- the id of a set, and that of a channel
abbrev pub set_id : ℕ → Bytes
set_id number = id_of set_letter number

abbrev pub channel_id : ℕ → Bytes
channel_id number = id_of channel_letter number

-- a number that was read from these digits, where it is from 0 on and is written in exactly this way
abbrev pub written_so : Option ℤ → Bytes → Option ℕ
written_so (Some (pos n)) digits = if bytes_eq digits (decimal n) then Some n else None
written_so (Some (negsuc n)) digits = None
written_so None digits = None

-- the number in an id with this letter: the one that the bytes behind the letter write; none where the word is no such id
abbrev pub number_of : ℕ → Bytes → Option ℕ
number_of letter [] = None
number_of letter (first ∷ digits) = if first == letter then written_so (number digits) digits else None

-- the number of a set that stands
abbrev pub standing : Option Set → ℕ → Bytes → Checked ℕ
standing (Some set) number id = Ok number
standing None number id = Err (no_set id)

abbrev pub set_numbered : Option ℕ → Bytes → ConnState → Checked ℕ
set_numbered (Some number) id host = standing (set_of host.sets number) number id
set_numbered None id host = Err (no_set id)

-- the word at this place is the id of a set that stands; here is its number
abbrev pub set_at : Words → ℕ → ConnState → Checked ℕ
set_at words place host = set_numbered (number_of set_letter (arg words place)) (arg words place) host

-- the number of a channel that is open
abbrev pub opened : Option Bytes → ℕ → Bytes → Checked ℕ
opened (Some left) number id = Ok number
opened None number id = Err (no_channel id)

abbrev pub channel_numbered : Option ℕ → Bytes → ConnState → Checked ℕ
channel_numbered (Some number) id host = opened (channel host.channels number) number id
channel_numbered None id host = Err (no_channel id)

-- the word at this place is the id of a channel that is open; here is its number
abbrev pub channel_at : Words → ℕ → ConnState → Checked ℕ
channel_at words place host = channel_numbered (number_of channel_letter (arg words place)) (arg words place) host
