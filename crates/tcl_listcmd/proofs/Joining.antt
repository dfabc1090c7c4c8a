-- Texts put one behind the other are those that aren't empty, joined with spaces.
use Rattle.std.proofs.Common.{◌≡◌, ◌∙◌, refl, sym, ℕ, List, [], ◌∷◌, ◌++◌, append_assoc}
use Rattle.std.specs.Prelude.{codes, filter}
use Rattle.txt_core.specs.Texts.{is_filled}
use Rattle.natives.specs.Lists.{joined}
use Rattle.tcl_listcmd.specs.Joining.{with_words}

-- a text that ends in another is joined as the two would be
joined_front : (x y : List ℕ) (more : List (List ℕ)) → joined (codes " ") ((x ++ (32 ∷ y)) ∷ more) ≡ x ++ (32 ∷ joined (codes " ") (y ∷ more))
joined_front x y [] = refl
joined_front x y (z ∷ more) = simp append_assoc

joined_two : (x y : List ℕ) (more : List (List ℕ)) → joined (codes " ") (x ∷ y ∷ more) ≡ x ++ (32 ∷ joined (codes " ") (y ∷ more))
joined_two x y more = simp append_assoc

joined_more : (a : ℕ) (text : List ℕ) (words : List (List ℕ)) → with_words (a ∷ text) words ≡ joined (codes " ") ((a ∷ text) ∷ filter is_filled words)
joined_more a text [] = refl
joined_more a text ([] ∷ words) = joined_more a text words
joined_more a text ((b ∷ word) ∷ words) =
    let next : with_words ((a ∷ text) ++ (32 ∷ b ∷ word)) words ≡ joined (codes " ") (((a ∷ text) ++ (32 ∷ b ∷ word)) ∷ filter is_filled words) = joined_more a (text ++ (32 ∷ b ∷ word)) words in
    next ∙ joined_front (a ∷ text) (b ∷ word) (filter is_filled words) ∙ sym (joined_two (a ∷ text) (b ∷ word) (filter is_filled words))

pub joined_all : (words : List (List ℕ)) → with_words [] words ≡ joined (codes " ") (filter is_filled words)
joined_all [] = refl
joined_all ([] ∷ words) = joined_all words
joined_all ((b ∷ word) ∷ words) = joined_more b word words
