-- The commands on lists that make, read and change them.
use Rattle.std.specs.Prelude.{[], ◌∷◌, ◌++◌, take, drop, length, map, filter, max, ℤ, pos, ◌+ℤ◌, Ok, codes, decimal, unwrap_or}
use Rattle.txt_core.specs.Names.{Bytes, Words}
use Rattle.txt_core.specs.Number.{trimmed}
use Rattle.txt_core.specs.Quoting.{quoting}
use Rattle.txt_core.specs.Texts.{is_filled}
use Rattle.natives.specs.Answers.{Reply, unless}
use Rattle.natives.specs.Words.{arg}
use Rattle.natives.specs.Checks.{list_error, items}
use Rattle.natives.specs.Indexes.{index_error, index, last_of, cut, at_place, part_between}

-- `list word*`: the words as a list
abbrev pub list_reply : Words → Reply
list_reply words = Ok (quoting (drop 1 words))

-- `llength list`: how many elements the list has
abbrev pub llength_reply : Words → Reply
llength_reply words = unless (list_error (arg words 1)) (Ok (decimal (length (items (arg words 1)))))

-- `lindex list i`: the element at place i, or the empty text where there is none
abbrev pub lindex_in : Words → Bytes → Reply
lindex_in list i =
    unless (index_error (codes "lindex") (last_of (length list)) i) (Ok (unwrap_or (at_place list (index (last_of (length list)) i)) []))

abbrev pub lindex_reply : Words → Reply
lindex_reply words = unless (list_error (arg words 1)) (lindex_in (items (arg words 1)) (arg words 2))

-- `lrange list a b`: the list of the elements from place a up to place b
abbrev pub lrange_in : Words → Bytes → Bytes → Reply
lrange_in list a b =
    let last = last_of (length list) in
    unless (index_error (codes "lrange") last a) (
    unless (index_error (codes "lrange") last b) (Ok (quoting (part_between list (index last a) (index last b)))))

abbrev pub lrange_reply : Words → Reply
lrange_reply words = unless (list_error (arg words 1)) (lrange_in (items (arg words 1)) (arg words 2) (arg words 3))

-- elements put before a place of a list, which is cut to what is there
abbrev pub put_before : Words → ℤ → Words → Words
put_before list place more = take (cut place) list ++ more ++ drop (cut place) list

-- `linsert list i word word*`: the words put before place i, where `end` is behind the last
abbrev pub linsert_in : Words → Bytes → Words → Reply
linsert_in list i more =
    unless (index_error (codes "linsert") (pos (length list)) i) (Ok (quoting (put_before list (index (pos (length list)) i) more)))

abbrev pub linsert_reply : Words → Reply
linsert_reply words = unless (list_error (arg words 1)) (linsert_in (items (arg words 1)) (arg words 2) (drop 3 words))

-- the elements from place a up to place b replaced; where b is below a, none is, and the words are put before a
abbrev pub replaced : Words → ℤ → ℤ → Words → Words
replaced list a b more = take (cut a) list ++ more ++ drop (max (cut a) (cut (b +ℤ pos 1))) list

-- `lreplace list a b word*`: the words in the place of the elements from a up to b
abbrev pub lreplace_in : Words → Bytes → Bytes → Words → Reply
lreplace_in list a b more =
    let last = last_of (length list) in
    unless (index_error (codes "lreplace") last a) (
    unless (index_error (codes "lreplace") last b) (Ok (quoting (replaced list (index last a) (index last b) more))))

abbrev pub lreplace_reply : Words → Reply
lreplace_reply words = unless (list_error (arg words 1)) (lreplace_in (items (arg words 1)) (arg words 2) (arg words 3) (drop 4 words))

-- texts with a text between each two
abbrev pub joined : Bytes → Words → Bytes
joined between [] = []
joined between (x ∷ []) = x
joined between (x ∷ y ∷ xs) = x ++ between ++ joined between (y ∷ xs)

-- `concat word*`: each word without the blanks and newlines round it, the empty ones left out, with
-- a space between each two
abbrev pub concat_reply : Words → Reply
concat_reply words = Ok (joined (codes " ") (filter is_filled (map trimmed (drop 1 words))))
