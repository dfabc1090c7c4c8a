-- Membership, by recursion on the list.
use Rattle.std.specs.Prelude.{◌≡◌, ◌⊎◌, ◌↔◌, List, [], ◌∷◌, ◌++◌, Contains}

-- x is an element of the list
abbrev pub Has : {X : Type 0} → List X → X → Type 0
Has [] x = ⊥
Has (y ∷ ys) x = (y ≡ x) ⊎ Has ys x

-- membership here is the library's, which goes by the index
abbrev pub HasIsContains : Type 0 → Type 0
HasIsContains X = (xs : List X) (x : X) → Has xs x ↔ Contains xs x

-- two lists, one behind the other, have the elements of both
abbrev pub AppendHas : Type 0 → Type 0
AppendHas X = (xs ys : List X) (x : X) → Has (xs ++ ys) x ↔ (Has xs x ⊎ Has ys x)
