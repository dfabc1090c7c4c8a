-- `switch`: its options, its number of words and its bodies are looked at before anything of it runs.
use Rattle.std.specs.Prelude.{Bool, true, false, ◌-◌, ◌%◌, [], ◌∷◌, length, drop, ◌==◌, ◌&&◌, ◌||◌, bytes_eq, nat_eq, codes, if◌then◌else◌, Option, Some, None, Result, Ok, Err}
use Rattle.std.specs.List.{starts_with}
use Rattle.txt_core.specs.Names.{Bytes, Words}
use Rattle.txt_core.specs.Lists.{Listing, elements, bad_at}
use Rattle.txt_core.specs.Listing.{listing}
use Rattle.txt_core.specs.PatternLaws.{matches}
use Rattle.tcl_eval.specs.Words.{arg}
use Rattle.tcl_eval.specs.Messages.{no_list, bad_value}
use Rattle.tcl_eval.specs.Results.{wrong_words_end}
use Rattle.tcl_eval.specs.Going.{Inner, give, fails}
use Rattle.tcl_eval.specs.Branches.{run_body}
use Rattle.tcl_eval.specs.State.{Rest, Next}

-- The options at the front, from left to right: `-exact`, `-glob`, of which the last one counts, and `--`, behind which none
-- stands. This gives whether patterns match as globs do, and the words behind the options. Any other word that begins with a
-- dash and stands before the text is an error.
abbrev pub options : Bool → Words → Result (Bool × Words) Bytes
options globs [] = Ok (globs, [])
options globs (word ∷ words) =
    if bytes_eq word (codes "--") then Ok (globs, words)
    else if bytes_eq word (codes "-exact") then options false words
    else if bytes_eq word (codes "-glob") then options true words
    else if starts_with nat_eq word (codes "-") then Err word
    else Ok (globs, word ∷ words)

abbrev pub is_none : Words → Bool
is_none [] = true
is_none (word ∷ words) = false

-- whether a pattern, behind whose body these are left, fits a text: `default` does where it is the last one
abbrev pub fits : Bool → Bytes → Bytes → Words → Bool
fits globs text pattern behind =
    (is_none behind && bytes_eq pattern (codes "default"))
    || (if globs then matches pattern text else bytes_eq pattern text)

-- a body, or for `-` the one behind it
abbrev pub body_or_next : Bytes → Words → Bytes
body_or_next body [] = body
body_or_next body (pattern ∷ []) = body
body_or_next body (pattern ∷ next ∷ pairs) = if bytes_eq body (codes "-") then body_or_next next pairs else body

-- the body of the first pattern that fits, in patterns and bodies in turn
abbrev pub body_for : Bool → Bytes → Words → Option Bytes
body_for globs text [] = None
body_for globs text (pattern ∷ []) = None
body_for globs text (pattern ∷ body ∷ pairs) =
    if fits globs text pattern pairs then Some (body_or_next body pairs) else body_for globs text pairs

module _ {H : Type 0} where
  -- the body of the pattern that fits is run; the last body isn't `-`
  abbrev pub by_pairs : Inner H → Bool → Bytes → Words → Next H → Rest H
  by_pairs inner globs text pairs k =
      if bytes_eq (arg pairs (length pairs - 1)) (codes "-") then fails (bad_value (codes "-") (codes "switch")) k
      else run_body inner (body_for globs text pairs) k

  -- patterns and bodies as one list, of even length
  abbrev pub by_listing : Inner H → Bool → Bytes → Bytes → Listing → Next H → Rest H
  by_listing inner globs text list (bad_at place) k = fails (no_list place) k
  by_listing inner globs text list (elements pairs) k =
      if length pairs % 2 == 0 then by_pairs inner globs text pairs k else fails (bad_value list (codes "switch")) k

  -- what stands behind the text: one list, or patterns and bodies as words
  abbrev pub by_words : Inner H → Bool → Bytes → Words → Words → Next H → Rest H
  by_words inner globs text [] words k = give (wrong_words_end words) k
  by_words inner globs text (list ∷ []) words k = by_listing inner globs text list (listing list) k
  by_words inner globs text (pattern ∷ body ∷ pairs) words k =
      if length pairs % 2 == 0 then by_pairs inner globs text (pattern ∷ body ∷ pairs) k else give (wrong_words_end words) k

  abbrev pub by_options : Inner H → Result (Bool × Words) Bytes → Words → Next H → Rest H
  by_options inner (Err word) words k = fails (bad_value word (codes "switch")) k
  by_options inner (Ok (globs, [])) words k = give (wrong_words_end words) k
  by_options inner (Ok (globs, text ∷ behind)) words k = by_words inner globs text behind words k

  -- `switch ?-exact? ?-glob? ?--? text pairs`
  abbrev pub do_switch : Inner H → Words → Next H → Rest H
  do_switch inner words k = by_options inner (options false (drop 1 words)) words k
