-- Parts of a list by places that are cut to it.
use Rattle.std.proofs.Common.{◌≡◌, ◌∙◌, sym, ap, ℕ, ◌+◌, ◌-◌, ◌≤◌, List, [], length, take, drop, min, arith}
use Rattle.std.proofs.lemmas.List.{drop-take, drop_all, take_min, length-take}
use Rattle.std.proofs.lemmas.Grind.{common_steps}

-- a part behind a place of the front
part_below : (a n m : ℕ) (xs : List (List ℕ)) → a + m ≡ n → take m (drop a xs) ≡ drop a (take n xs)
part_below a n m xs e = sym (rw e at (drop-take a m xs))

part_past : (a n : ℕ) (xs : List (List ℕ)) → n ≤ a → drop a (take n xs) ≡ []
part_past a n xs h = drop_all a (take n xs) (omega (arith, length-take n xs))

part_by : (a n s : ℕ) (xs : List (List ℕ)) → s ≡ min a n → take (n - s) (drop s xs) ≡ drop a (take n xs)
part_by a n s xs e = grind (arith, common_steps, part_below, part_past)

-- a part from one place up to another
pub cut_part : (a b end start count : ℕ) (xs ys : List (List ℕ)) → ys ≡ xs → count ≡ length xs → end ≡ min b count → start ≡ min a end → take (end - start) (drop start ys) ≡ drop a (take b xs)
cut_part a b end start count xs ys same counted e f =
    let part : take (end - start) (drop start ys) ≡ drop a (take end xs) = rw same (part_by a end start xs f) in
    let cut_end : take end xs ≡ take b xs = rw (e, counted) (take_min b xs) in
    part ∙ ap (λ (zs : List (List ℕ)). drop a zs) cut_end
