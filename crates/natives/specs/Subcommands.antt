-- `string`, by the subcommands that it has.
use Rattle.std.specs.Prelude.{ℕ, Option, None, Some, codes, bytes_eq, if◌then◌else◌, Err}
use Rattle.txt_core.specs.Names.{Bytes, Words}
use Rattle.natives.specs.Answers.{Reply}
use Rattle.natives.specs.Words.{arg}
use Rattle.txt_core.specs.ErrorTexts.{unknown_subcommand}
use Rattle.natives.specs.Strings.{counted, length_reply, index_reply, range_reply, compare_reply, equal_reply, first_reply, last_reply, match_reply, tolower_reply, toupper_reply, trim_reply, trimleft_reply, trimright_reply, repeat_reply}
use Rattle.natives.specs.declared.subcommand.Subcommand.{Subcommand}
use Rattle.natives.specs.declared.subcommand.Subcommand.TheVariants.{Length, Index, Range, Compare, Equal, First, Last, Match, Tolower, Toupper, Trim, Trimleft, Trimright, Repeat}

-- the subcommand that looks at texts, of a name
abbrev pub looking_named : Bytes → Option Subcommand
looking_named name =
    if bytes_eq name (codes "length") then Some Length
    else if bytes_eq name (codes "index") then Some Index
    else if bytes_eq name (codes "range") then Some Range
    else if bytes_eq name (codes "compare") then Some Compare
    else if bytes_eq name (codes "equal") then Some Equal
    else if bytes_eq name (codes "first") then Some First
    else if bytes_eq name (codes "last") then Some Last
    else if bytes_eq name (codes "match") then Some Match
    else None

-- the subcommand that changes a text, of a name
abbrev pub changing_named : Bytes → Option Subcommand
changing_named name =
    if bytes_eq name (codes "tolower") then Some Tolower
    else if bytes_eq name (codes "toupper") then Some Toupper
    else if bytes_eq name (codes "trim") then Some Trim
    else if bytes_eq name (codes "trimleft") then Some Trimleft
    else if bytes_eq name (codes "trimright") then Some Trimright
    else if bytes_eq name (codes "repeat") then Some Repeat
    else None

abbrev pub or_else : Option Subcommand → Option Subcommand → Option Subcommand
or_else None later = later
or_else (Some subcommand) later = Some subcommand

-- the subcommand of a name
abbrev pub subcommand_named : Bytes → Option Subcommand
subcommand_named name = or_else (looking_named name) (changing_named name)

-- the least and the most words that it takes, the two names among them
abbrev pub least_words : Subcommand → ℕ
least_words Length = 3
least_words Index = 4
least_words Range = 5
least_words Compare = 4
least_words Equal = 4
least_words First = 4
least_words Last = 4
least_words Match = 4
least_words Tolower = 3
least_words Toupper = 3
least_words Trim = 3
least_words Trimleft = 3
least_words Trimright = 3
least_words Repeat = 4

abbrev pub most_words : Subcommand → ℕ
most_words Length = 3
most_words Index = 4
most_words Range = 5
most_words Compare = 4
most_words Equal = 4
most_words First = 4
most_words Last = 4
most_words Match = 4
most_words Tolower = 3
most_words Toupper = 3
most_words Trim = 4
most_words Trimleft = 4
most_words Trimright = 4
most_words Repeat = 4

-- what it comes to on words of a right number
abbrev pub reply_by : Subcommand → Words → Reply
reply_by Length words = length_reply words
reply_by Index words = index_reply words
reply_by Range words = range_reply words
reply_by Compare words = compare_reply words
reply_by Equal words = equal_reply words
reply_by First words = first_reply words
reply_by Last words = last_reply words
reply_by Match words = match_reply words
reply_by Tolower words = tolower_reply words
reply_by Toupper words = toupper_reply words
reply_by Trim words = trim_reply words
reply_by Trimleft words = trimleft_reply words
reply_by Trimright words = trimright_reply words
reply_by Repeat words = repeat_reply words

-- what a name comes to, by the subcommand that it has
abbrev pub reply_named : Option Subcommand → Bytes → Words → Reply
reply_named None name words = Err (unknown_subcommand name (codes "string"))
reply_named (Some subcommand) name words = counted (least_words subcommand) (most_words subcommand) words (reply_by subcommand words)

-- `string`: the subcommand is looked up first, and then its words are counted
unfoldable pub subcommand_reply : Bytes → Words → Reply
subcommand_reply name words = reply_named (subcommand_named name) name words

abbrev pub string_reply : Words → Reply
string_reply words = subcommand_reply (arg words 1) words
