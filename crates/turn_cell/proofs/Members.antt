-- Which states a list of entries left.
use Rattle.std.proofs.Common.{◌≡◌, ◌⊎◌, List, [], ◌∷◌, ◌++◌, refl, ap, subst, inl, inr, ⊎_elim}
use Rattle.txt_core.specs.Members.{Has}
use Rattle.turn_cell.specs.declared.view.Entry.{Entry}
use Rattle.turn_cell.specs.Members.{Left, LeftIsAfter, AppendLeft}

module _ {S C R : Type 0} where
  left_entry : (es : List (Entry S C R)) (s : S) → Left es s → (e : Entry S C R) × Has es e × (e.after ≡ s)
  left_entry [] s l = absurd l
  left_entry (x ∷ xs) s l = ⊎_elim (λ (is : x.after ≡ s). (x, inl refl, is)) (λ (there : Left xs s). let r = left_entry xs s there in (r.0, inr r.1, r.2)) l

  pub entry_left : (es : List (Entry S C R)) (e : Entry S C R) → Has es e → Left es e.after
  entry_left [] e i = absurd i
  entry_left (x ∷ xs) e i = ⊎_elim (λ (is : x ≡ e). inl (ap (λ (y : Entry S C R). y.after) is)) (λ (there : Has xs e). inr (entry_left xs e there)) i

  pub left_is_after : LeftIsAfter S C R
  left_is_after es s = (left_entry es s, λ r. subst (Left es) r.2 (entry_left es r.0 r.1))

  pub left_front : (es fs : List (Entry S C R)) (s : S) → Left es s → Left (es ++ fs) s
  left_front [] fs s l = absurd l
  left_front (x ∷ xs) fs s l = ⊎_elim (λ (is : x.after ≡ s). inl is) (λ (there : Left xs s). inr (left_front xs fs s there)) l

  pub left_back : (es fs : List (Entry S C R)) (s : S) → Left fs s → Left (es ++ fs) s
  left_back [] fs s l = l
  left_back (x ∷ xs) fs s l = inr (left_back xs fs s l)

  pub left_either : (es fs : List (Entry S C R)) (s : S) → Left (es ++ fs) s → Left es s ⊎ Left fs s
  left_either [] fs s l = inr l
  left_either (x ∷ xs) fs s l = ⊎_elim
      (λ (is : x.after ≡ s). inl (inl is))
      (λ (there : Left (xs ++ fs) s). ⊎_elim (λ (a : Left xs s). inl (inr a)) (λ (b : Left fs s). inr b) (left_either xs fs s there)) l

  pub append_left : AppendLeft S C R
  append_left es fs s = (left_either es fs s, λ l. ⊎_elim (λ (a : Left es s). left_front es fs s a) (λ (b : Left fs s). left_back es fs s b) l)
