-- The commands that the program hands to its scripts as natives.
use Rattle.std.specs.Prelude.{[], ◌∷◌, codes}
use Rattle.txt_core.specs.Names.{Names}

-- their names, in byte order: those of all commands that look at their words alone
abbrev pub native_names : Names
native_names =
    codes "concat" ∷ codes "format" ∷ codes "join" ∷ codes "lindex" ∷ codes "linsert" ∷ codes "list" ∷ codes "llength"
    ∷ codes "lrange" ∷ codes "lreplace" ∷ codes "lsearch" ∷ codes "lsort" ∷ codes "split" ∷ codes "string" ∷ []
