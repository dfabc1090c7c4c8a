-- The table of the commands that look at their words alone.
use Rattle.std.specs.Prelude.{if◌then◌else◌, codes, bytes_eq, Err, ◌≡◌, refl}
use Rattle.txt_core.specs.Names.{Bytes, Words}
use Rattle.natives.specs.Answers.{Reply, limited}
use Rattle.txt_core.specs.ErrorTexts.{unknown_command}
use Rattle.natives.specs.Words.{arg}
use Rattle.natives.specs.Lists.{list_reply, llength_reply, lindex_reply, lrange_reply, linsert_reply, lreplace_reply, concat_reply}
use Rattle.natives.specs.Sorting.{lsort_reply}
use Rattle.natives.specs.Searching.{lsearch_reply}
use Rattle.natives.specs.Cutting.{split_reply, join_reply}
use Rattle.natives.specs.Formatting.{format_reply}
use Rattle.natives.specs.Subcommands.{string_reply}

-- what the command of a name comes to on a list of words, before its length is judged
unfoldable pub reply_of : Bytes → Words → Reply
reply_of name words =
    if bytes_eq name (codes "list") then list_reply words
    else if bytes_eq name (codes "lindex") then lindex_reply words
    else if bytes_eq name (codes "llength") then llength_reply words
    else if bytes_eq name (codes "lrange") then lrange_reply words
    else if bytes_eq name (codes "linsert") then linsert_reply words
    else if bytes_eq name (codes "lreplace") then lreplace_reply words
    else if bytes_eq name (codes "lsearch") then lsearch_reply words
    else if bytes_eq name (codes "lsort") then lsort_reply words
    else if bytes_eq name (codes "concat") then concat_reply words
    else if bytes_eq name (codes "split") then split_reply words
    else if bytes_eq name (codes "join") then join_reply words
    else if bytes_eq name (codes "format") then format_reply words
    else if bytes_eq name (codes "string") then string_reply words
    else Err (unknown_command name)

-- What the command of a name comes to on a list of words, for each list in the name's range: a
-- result, or the text of an error. Either is the error `value too long` where it is over the limit.
abbrev pub pure_of : Bytes → Words → Reply
pure_of name words = limited (reply_of name words)

-- the same of words that begin with the command's name
abbrev pub Pure : Words → Reply
Pure words = pure_of (arg words 0) words

-- each name by itself
pub pure_list : (words : Words) → pure_of (codes "list") words ≡ limited (list_reply words)
unfolding reply_of
pure_list words = refl

pub pure_llength : (words : Words) → pure_of (codes "llength") words ≡ limited (llength_reply words)
unfolding reply_of
pure_llength words = refl

pub pure_lindex : (words : Words) → pure_of (codes "lindex") words ≡ limited (lindex_reply words)
unfolding reply_of
pure_lindex words = refl

pub pure_lrange : (words : Words) → pure_of (codes "lrange") words ≡ limited (lrange_reply words)
unfolding reply_of
pure_lrange words = refl

pub pure_linsert : (words : Words) → pure_of (codes "linsert") words ≡ limited (linsert_reply words)
unfolding reply_of
pure_linsert words = refl

pub pure_lreplace : (words : Words) → pure_of (codes "lreplace") words ≡ limited (lreplace_reply words)
unfolding reply_of
pure_lreplace words = refl

pub pure_concat : (words : Words) → pure_of (codes "concat") words ≡ limited (concat_reply words)
unfolding reply_of
pure_concat words = refl

pub pure_lsort : (words : Words) → pure_of (codes "lsort") words ≡ limited (lsort_reply words)
unfolding reply_of
pure_lsort words = refl

pub pure_lsearch : (words : Words) → pure_of (codes "lsearch") words ≡ limited (lsearch_reply words)
unfolding reply_of
pure_lsearch words = refl

pub pure_split : (words : Words) → pure_of (codes "split") words ≡ limited (split_reply words)
unfolding reply_of
pure_split words = refl

pub pure_join : (words : Words) → pure_of (codes "join") words ≡ limited (join_reply words)
unfolding reply_of
pure_join words = refl

pub pure_format : (words : Words) → pure_of (codes "format") words ≡ limited (format_reply words)
unfolding reply_of
pure_format words = refl

pub pure_string : (words : Words) → pure_of (codes "string") words ≡ limited (string_reply words)
unfolding reply_of
pure_string words = refl
