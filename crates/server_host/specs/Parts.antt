-- What a part of the host says, as what the whole host says: the state of the part stands in that of the whole.
use Rattle.tcl_host.specs.Leaf.{Leaf, says, wants, defines, stores, not_mine, Onward, goes, enters, TextEnd}

-- the same of a command, with the whole state that belongs to the state of the part
abbrev pub in_whole : {A B : Type 0} → (A → B) → Leaf A → Leaf B
in_whole whole (says code result part) = says code result (whole part)
in_whole whole (wants question part) = wants question (whole part)
in_whole whole (defines def part) = defines def (whole part)
in_whole whole (stores name value result part) = stores name value result (whole part)
in_whole whole (not_mine part) = not_mine (whole part)

-- the same of an answer
abbrev pub onward_in_whole : {A B : Type 0} → (A → B) → Onward A → Onward B
onward_in_whole whole (goes leaf) = goes (in_whole whole leaf)
onward_in_whole whole (enters pieces part) = enters pieces (whole part)

-- the same of a text of a page
abbrev pub end_in_whole : {A B : Type 0} → (A → B) → TextEnd A → TextEnd B
end_in_whole whole end = record { code = end.code; result = end.result; host = whole end.host }
