-- What pages put out.
use Rattle.std.specs.Prelude.{ℕ, Bool, nat_lt, ◌+◌, ◌==◌, ◌||◌, [], ◌∷◌, ◌++◌, length, drop, codes, bytes_eq, if◌then◌else◌}
use Rattle.std.specs.List.{concat}
use Rattle.txt_core.specs.Names.{Bytes, Words}
use Rattle.tcl_host.specs.Leaf.{Leaf, says, TextEnd}
use Rattle.natives.specs.Words.{arg}
use Rattle.tcl_host.specs.Codes as code_of
use Rattle.adp_host.specs.States.{PageState, with_output}
use Rattle.tcl_host.specs.Checks.{is_counted, shaped, fitting}
use Rattle.adp_host.specs.Checks.{paged}

-- how many bytes the output may have
abbrev pub most_output : ℕ
most_output = 8388608

-- the error of an output that would have more
abbrev pub output_too_long : Bytes
output_too_long = codes "output too long"

-- with this text the output would have more bytes than it may
abbrev pub overfills : PageState → Bytes → Bool
overfills host text = nat_lt most_output (length host.output + length text)

-- A text goes to the end of the output. Where the output would have too many bytes, that is the error, and none of it goes there.
abbrev pub put_out : Bytes → PageState → TextEnd PageState
put_out text host =
    if overfills host text
    then record { code = code_of.error; result = output_too_long; host = host }
    else record { code = code_of.ok; result = []; host = with_output host (host.output ++ text) }

-- the command that puts out a text ends as the text does
abbrev pub puts_out : Bytes → PageState → Leaf PageState
puts_out text host = says (put_out text host).code (put_out text host).result (put_out text host).host

-- `ns_adp_append WORD..` puts out the words, with nothing between them
abbrev pub ns_adp_append : Words → PageState → Leaf PageState
ns_adp_append words host = paged (puts_out (concat (drop 1 words))) host

-- no word stands before the text, or the one that does says that no newline follows it
abbrev pub is_plain_or_option : Words → Bool
is_plain_or_option words = length words == 2 || bytes_eq (arg words 1) (codes "-nonewline")

-- what `ns_adp_puts` puts out: its last word, whatever that spells, and a newline unless a word before it says otherwise
abbrev pub line : Words → Bytes
line words = if length words == 2 then arg words 1 ++ codes "\n" else arg words 2

-- `ns_adp_puts ?-nonewline? TEXT` puts out the text and a newline; with the option no newline follows it
abbrev pub ns_adp_puts : Words → PageState → Leaf PageState
ns_adp_puts words host =
    shaped (is_counted 2 3 words) words (paged (fitting (is_plain_or_option words) words 1 (puts_out (line words)))) host
