-- Two lists, put together by the places of their items.
use Rattle.std.specs.Prelude.{ℕ, List, [], ◌∷◌, cond, nat_lt}

module _ {X : Type 0} (place : X → ℕ) where
  -- the item goes in front of the first one with a greater place
  abbrev pub put_in : X → List X → List X
  put_in x [] = x ∷ []
  put_in x (y ∷ ys) = cond (nat_lt (place x) (place y)) (x ∷ y ∷ ys) (y ∷ put_in x ys)

  -- the items of both, in order of place
  abbrev pub merged : List X → List X → List X
  merged [] ys = ys
  merged (x ∷ xs) ys = put_in x (merged xs ys)
