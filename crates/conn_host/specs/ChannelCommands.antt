-- The commands on channels. A channel is a page that is read from its front.
use Rattle.std.specs.Prelude.{ℕ, ℤ, pos, negsuc, [], ◌∷◌, ◌++◌, length, take, drop, slice_set, ◌==◌, nat_lt, codes, if◌then◌else◌, Option, Some, None, unwrap_or, Ok, Err}
use Rattle.std.specs.Fmt.{signed_decimal}
use Rattle.txt_core.specs.Names.{Bytes, Words}
use Rattle.outside.specs.declared.question.Answer.{Answer}
use Rattle.chan_core.specs.Chans.{left_in, open_count, with_left}
pub use Rattle.chan_core.specs.Chans.{most_open}
use Rattle.chan_core.specs.Lines.{line_of, behind_line}
use Rattle.tcl_host.specs.PagePaths.{is_page_path}
use Rattle.tcl_host.specs.Pages.{page_question, page_told}
use Rattle.tcl_host.specs.Leaf.{Leaf, wants, stores}
use Rattle.natives.specs.Words.{arg}
use Rattle.conn_host.specs.Conns.{ConnState, with_channels}
use Rattle.tcl_host.specs.Checks.{gives, fails, unfit}
use Rattle.conn_host.specs.Checks.{Checked, given, counted, count}
use Rattle.conn_host.specs.Errors.{too_many_channels}
use Rattle.conn_host.specs.Ids.{channel_id, channel_at}

-- the bytes not yet read of a channel by its number
abbrev pub left : ConnState → ℕ → Bytes
left host number = left_in host.channels number

-- these bytes are now left in the channel of this number
abbrev pub leaving : ConnState → ℕ → Bytes → ConnState
leaving host number bytes = with_channels host (with_left host.channels number bytes)

-- ---- `open`

-- the second word is the path of a page
abbrev pub path_given : Words → Checked Bytes
path_given words = if is_page_path (arg words 1) then Ok (arg words 1) else Err (unfit words 1)

-- the page of a path is asked for
abbrev pub asks_page : Bytes → ConnState → Leaf ConnState
asks_page path host = wants (page_question path) host

-- `open PATH` asks for the page of the path as it is written, however many channels are open
abbrev pub open_page : Words → ConnState → Leaf ConnState
open_page words host = counted 2 2 words (given (path_given words) asks_page) host

-- a channel on the page is opened, where one more may be; its id is the result
abbrev pub opens : Bytes → ConnState → Leaf ConnState
opens page host =
    if nat_lt (open_count host.channels) most_open
    then gives (channel_id (length host.channels)) (with_channels host (host.channels ++ Some page ∷ []))
    else fails too_many_channels host

-- what comes of the answer to `open`. What is wrong with the page goes before the number of channels
abbrev pub page_answered : Words → Answer → ConnState → Leaf ConnState
page_answered words answer host = given (page_told (arg words 1) answer) opens host

-- ---- reading

-- the second word is the id of a channel that is open, with which the command goes on
abbrev pub on_channel : Words → (ℕ → ConnState → Leaf ConnState) → ConnState → Leaf ConnState
on_channel words does host = given (channel_at words 1 host) does host

-- how many bytes a line has; -1 where there is none
abbrev pub line_length : Option Bytes → ℤ
line_length None = negsuc 0
line_length (Some line) = pos (length line)

-- what a line that was taken is used for: it is the result, or the value of the variable that the third word names
abbrev pub takes_line : Words → Option Bytes → ConnState → Leaf ConnState
takes_line words line host =
    if length words == 2 then gives (unwrap_or line []) host
    else stores (arg words 2) (unwrap_or line []) (signed_decimal (line_length line)) host

-- `gets ID ?NAME?` takes a line with its newline. Without a name the line is the result, without its newline, and empty at the
-- end. With one it goes to the variable, and the result is its length, or -1 at the end. The line is taken in either case.
abbrev pub gets_line : Words → ℕ → ConnState → Leaf ConnState
gets_line words number host = takes_line words (line_of (left host number)) (leaving host number (behind_line (left host number)))

abbrev pub gets : Words → ConnState → Leaf ConnState
gets words host = counted 2 3 words (on_channel words (gets_line words)) host

-- the bytes that are left are taken; they are the result
abbrev pub read_all : ℕ → ConnState → Leaf ConnState
read_all number host = gives (left host number) (leaving host number [])

-- the same of at most as many of them as the third word says
abbrev pub read_some : Words → ℕ → ConnState → Leaf ConnState
read_some words number host =
    given (count words 2) (λ most host. gives (take most (left host number)) (leaving host number (drop most (left host number)))) host

-- `read ID ?N?` takes the bytes that are left, at most N of them where it is given; they are the result
abbrev pub read_bytes : Words → ℕ → ConnState → Leaf ConnState
read_bytes words number host = if length words == 2 then read_all number host else read_some words number host

abbrev pub read : Words → ConnState → Leaf ConnState
read words host = counted 2 3 words (on_channel words (read_bytes words)) host

-- 1 where no byte is left, and else 0
abbrev pub end_flag : Bytes → Bytes
end_flag [] = codes "1"
end_flag (byte ∷ bytes) = codes "0"

-- `eof ID` gives 1 where no byte of the channel is left, and else 0
abbrev pub eof : Words → ConnState → Leaf ConnState
eof words host = counted 2 2 words (on_channel words (λ number host. gives (end_flag (left host number)) host)) host

-- `close ID` closes the channel; its id is not given again
abbrev pub close : Words → ConnState → Leaf ConnState
close words host =
    counted 2 2 words
    (on_channel words (λ number host. gives [] (with_channels host (slice_set host.channels number None)))) host
