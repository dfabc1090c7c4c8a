-- What is read inside another text has one outcome, and takes bytes, with any room for brackets and indexes.
use Rattle.std.proofs.Common.{◌≡◌, ℕ, [], ◌∷◌, length, ◌⊎◌}
use Rattle.txt_core.specs.Names.{Bytes}
use Rattle.tcl_parse.specs.Tree.{Part, Word}
use Rattle.tcl_parse.specs.Outcome.{Outcome}
use Rattle.tcl_parse.specs.Grammar.{InBracket, InIndex, SubstitutedAt, EnclosedAt, in_braces, in_quotes, bare, opening}
use Rattle.tcl_parse.specs.Laws.Within.{bracket_within, index_within}
use Rattle.tcl_parse.specs.Laws.One.{one_in_bracket, one_in_index, one_enclosed, one_substituted}
use Rattle.tcl_parse.specs.Laws.Some.{Moves, some_in_bracket, some_in_index, some_enclosed, some_substituted, enclosed_moves, substituted_moves}

pub enclosed_is : (room : ℕ) (t : Bytes) (o p : Outcome Word) → EnclosedAt (InBracket room) (InIndex room) t o → EnclosedAt (InBracket room) (InIndex room) t p → o ≡ p
enclosed_is room t o p h k = one_enclosed (InBracket room) (InIndex room) (one_in_bracket room) (one_in_index room) h p k

pub enclosed_some : (room : ℕ) (t : Bytes) → (opening t ≡ bare) ⊎ ((o : Outcome Word) × EnclosedAt (InBracket room) (InIndex room) t o)
enclosed_some room t = some_enclosed (InBracket room) (InIndex room) (bracket_within room) (index_within room) (some_in_bracket room) (some_in_index room) t

pub enclosed_takes : (room : ℕ) (t : Bytes) (o : Outcome Word) → EnclosedAt (InBracket room) (InIndex room) t o → Moves o (length t)
enclosed_takes room [] o (in_braces x e h) = absurd (cc)
enclosed_takes room [] o (in_quotes e h) = absurd (cc)
enclosed_takes room (b ∷ t) o h = enclosed_moves (InBracket room) (InIndex room) (bracket_within room) (index_within room) (some_in_bracket room) (some_in_index room) b t o h

pub substituted_is : (room : ℕ) (t : Bytes) (o p : Outcome Part) → SubstitutedAt (InBracket room) (InIndex room) t o → SubstitutedAt (InBracket room) (InIndex room) t p → o ≡ p
substituted_is room t o p h k = one_substituted (InBracket room) (InIndex room) (one_in_bracket room) (one_in_index room) t o p h k

pub substituted_some : (room : ℕ) (t : Bytes) → ((o : Outcome Part) → SubstitutedAt (InBracket room) (InIndex room) t o → ⊥) ⊎ ((o : Outcome Part) × SubstitutedAt (InBracket room) (InIndex room) t o)
substituted_some room t = some_substituted (InBracket room) (InIndex room) (bracket_within room) (index_within room) (some_in_bracket room) (some_in_index room) t

pub substituted_takes : (room : ℕ) (t : Bytes) (o : Outcome Part) → SubstitutedAt (InBracket room) (InIndex room) t o → Moves o (length t)
substituted_takes room t o h = substituted_moves (InBracket room) (InIndex room) (bracket_within room) (index_within room) (some_in_bracket room) (some_in_index room) t o h
