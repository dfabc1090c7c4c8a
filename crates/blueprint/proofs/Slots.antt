-- What is kept of names, and how changes are taken back.
use Rattle.std.proofs.Common.{◌≡◌, ℕ, Bool, true, false, cond, List, [], ◌∷◌, ◌++◌, Option, Some, refl, ap, ◌∙◌}
use Rattle.std.specs.Prelude.{unwrap_or, IsSome}
use Rattle.std.specs.Option.{is_some}
use Rattle.std.specs.BTreeMap.{get}
use Rattle.std.proofs.lemmas.Map.Lookups.{exact_bytes}
use Rattle.std.proofs.lemmas.Map.Views.{tells_apart}
use Rattle.blueprint.specs.declared.names.Row.{Row}
use Rattle.blueprint.specs.Kept.{text_cmp, same_name, Slots, is_there, with_name, undone, HasPlace, HavePlaces}

there_if : (b there : Bool) (o : Option Bool) → unwrap_or (cond b (Some there) o) false ≡ cond b there (unwrap_or o false)
there_if true there o = refl
there_if false there o = refl

-- a name that was put is there as it was put, and the others as they were
pub put_there : (old new : Slots) (name : List ℕ) (there : Bool) → ((q : List ℕ) → get text_cmp new q ≡ cond (same_name name q) (Some there) (get text_cmp old q))
    → (q : List ℕ) → is_there new q ≡ with_name name there (is_there old) q
put_there old new name there h q = ap (λ (o : Option Bool). unwrap_or o false) (h q) ∙ there_if (same_name name q) there (get text_cmp old q)

some_if : (b there : Bool) (o : Option Bool) → IsSome o → IsSome (cond b (Some there) o)
some_if true there o h = refl
some_if false there o h = h

-- what has a place has it after a put
pub put_places : (old new : Slots) (name : List ℕ) (there : Bool) → ((q : List ℕ) → get text_cmp new q ≡ cond (same_name name q) (Some there) (get text_cmp old q))
    → (row : Row) → HasPlace old row → HasPlace new row
put_places old new name there h row some = ap is_some (h row.name) ∙ some_if (same_name name row.name) there (get text_cmp old row.name) some

with_same : (name : List ℕ) (there : Bool) (f g : List ℕ → Bool) (q : List ℕ) → f q ≡ g q → with_name name there f q ≡ with_name name there g q
with_same name there f g q h = ap (λ (b : Bool). cond (same_name name q) there b) h

-- what is undone depends on the names alone
pub undone_same : (rows : List Row) (f g : List ℕ → Bool) → ((q : List ℕ) → f q ≡ g q) → (q : List ℕ) → undone rows f q ≡ undone rows g q
undone_same [] f g h q = h q
undone_same (row ∷ rows) f g h q = with_same row.name row.before (undone rows f) (undone rows g) q (undone_same rows f g h q)

-- the last change is taken back first
pub undone_last : (rows : List Row) (row : Row) (f : List ℕ → Bool) (q : List ℕ) → undone (rows ++ row ∷ []) f q ≡ undone rows (with_name row.name row.before f) q
undone_last [] row f q = refl
undone_last (r ∷ rows) row f q = with_same r.name r.before (undone (rows ++ row ∷ []) f) (undone rows (with_name row.name row.before f)) q (undone_last rows row f q)

back_at : (name : List ℕ) (there : Bool) (f : List ℕ → Bool) (q : List ℕ) (b : Bool) → same_name name q ≡ b → cond b (f name) (cond b there (f q)) ≡ f q
back_at name there f q true at = ap f (tells_apart exact_bytes name q at)
back_at name there f q false at = refl

back : (name : List ℕ) (there : Bool) (f : List ℕ → Bool) (q : List ℕ) → with_name name (f name) (with_name name there f) q ≡ f q
back name there f q = back_at name there f q (same_name name q) refl

-- a change that was noted is undone
pub noted : (rows : List Row) (row : Row) (there : Bool) (f g : List ℕ → Bool) → row.before ≡ f row.name → ((q : List ℕ) → g q ≡ with_name row.name there f q)
    → (q : List ℕ) → undone (rows ++ row ∷ []) g q ≡ undone rows f q
noted rows row there f g before set q =
    undone_last rows row g q
    ∙ undone_same rows (with_name row.name row.before g) f (λ p.
    ap (λ (b : Bool). cond (same_name row.name p) b (g p)) before
    ∙ with_same row.name (f row.name) g (with_name row.name there f) p (set p)
    ∙ back row.name there f p) q

pub places_kept : (s t : Slots) (rows : List Row) → ((row : Row) → HasPlace s row → HasPlace t row) → HavePlaces s rows → HavePlaces t rows
places_kept s t [] keep h = tt
places_kept s t (row ∷ rows) keep h = (keep row h.0, places_kept s t rows keep h.1)

pub places_more : (s : Slots) (rows : List Row) (row : Row) → HavePlaces s rows → HasPlace s row → HavePlaces s (rows ++ row ∷ [])
places_more s [] row h k = (k, tt)
places_more s (r ∷ rows) row h k = (h.0, places_more s rows row h.1 k)

pub places_less : (s : Slots) (rows : List Row) (row : Row) → HavePlaces s (rows ++ row ∷ []) → HavePlaces s rows × HasPlace s row
places_less s [] row h = (tt, h.0)
places_less s (r ∷ rows) row h = let rest = places_less s rows row h.1 in ((h.0, rest.0), rest.1)
