-- One text more.
use Rattle.std.proofs.Common.{◌≡◌, ℕ, suc, zero, ◌<◌, List, [], ◌∷◌, ◌++◌, length, take, get_or, ap, sym, ◌∙◌, append_assoc, append-nil, arith}
use Rattle.std.specs.List.{concat}

-- the first texts joined, with one more of them
pub concat_more : (xs : List (List ℕ)) (k : ℕ) → k < length xs → concat (take (suc k) xs) ≡ concat (take k xs) ++ get_or xs k []
concat_more [] k h = absurd (omega arith)
concat_more (x ∷ xs) zero h = append-nil x
concat_more (x ∷ xs) (suc k) h = ap (λ r. x ++ r) (concat_more xs k (omega arith)) ∙ sym (append_assoc x (concat (take k xs)) (get_or xs k []))
