-- Each text is an expression or bad at one place.
use Rattle.std.proofs.Common.{◌≡◌, ℕ, ◌-◌, List, length, ◌⊎◌, inl, inr, arith}
use Rattle.tcl_expr.specs.Trees.{Tree}
use Rattle.tcl_expr.specs.Outcome.{Answer, tree, bad_from}
use Rattle.tcl_expr.specs.Grammar.{Reads}
use Rattle.tcl_expr.specs.Reading.{IsTree, IsBad}
use Rattle.tcl_expr.specs.Laws.Answers as answers

some_of : (t : List ℕ) (a : Answer) → Reads t a → ((x : Tree) × IsTree x t) ⊎ ((place : ℕ) × IsBad place t)
some_of t (tree x) h = inl (x, h)
some_of t (bad_from left) h =
    let w = answers.bad_within t left h in
    inr (length t - left, (left, omega (arith, w), h))

pub some : (t : List ℕ) → ((x : Tree) × IsTree x t) ⊎ ((place : ℕ) × IsBad place t)
some t = let a = answers.some_answer t in some_of t a.0 a.1

same_tree : (x y : Tree) → tree x ≡ tree y → x ≡ y
same_tree x y e = cc

same_place : (a b : ℕ) → bad_from a ≡ bad_from b → a ≡ b
same_place a b e = cc

apart : (x : Tree) (a : ℕ) → tree x ≡ bad_from a → ⊥
apart x a e = cc

pub one_tree : (t : List ℕ) (x y : Tree) → IsTree x t → IsTree y t → x ≡ y
one_tree t x y h k = same_tree x y (answers.one_answer t (tree x) (tree y) h k)

pub one_place : (t : List ℕ) (p q : ℕ) → IsBad p t → IsBad q t → p ≡ q
one_place t p q h k =
    let e = same_place h.0 k.0 (answers.one_answer t (bad_from h.0) (bad_from k.0) h.2 k.2) in
    omega (arith, e, h.1, k.1)

pub not_both : (t : List ℕ) (x : Tree) (p : ℕ) → IsTree x t → IsBad p t → ⊥
not_both t x p h k = apart x k.0 (answers.one_answer t (tree x) (bad_from k.0) h k.2)
