-- Writes to texts by key, and what undoes them.
use Rattle.std.specs.Prelude.{List, [], ◌∷◌}
use Rattle.txt_core.specs.declared.keyed.Change.{Change}
use Rattle.txt_core.specs.Keyed.{Texts, given_back}

-- texts by key after writes to them were undone, the last one first
abbrev pub undone : List Change → Texts → Texts
undone [] texts = texts
undone (change ∷ changes) texts = given_back (undone changes texts) change.key.now change.before
