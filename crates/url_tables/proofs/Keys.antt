-- Maps by lists of texts.
use Rattle.std.proofs.Common.{◌≡◌, ℕ, Bool, true, false, cond, List, [], ◌∷◌, ◌++◌, Option, Some, None, refl, sym, ap, ◌∙◌, subst}
use Rattle.std.specs.Global.{Vec}
use Rattle.std.specs.declared.cmp.Ordering.{Ordering}
use Rattle.std.specs.declared.cmp.Ordering.TheVariants.{Less, Equal, Greater}
use Rattle.std.specs.Ordering.{is_eq, match_ordering}
use Rattle.std.specs.Cmp.{IsTotalOrder}
use Rattle.std.specs.Cmp.Lexicographic.{lists_total, nat_list_cmp_total}
use Rattle.std.specs.FinMap.{IsAntisymmetric, nat_cmp-IsAntisymmetric, slice_cmp-IsAntisymmetric}
use Rattle.std.specs.Map.{lookup, set_value}
use Rattle.std.specs.Prelude.{unwrap_or}
use Rattle.std.specs.BTreeMap.{BTreeMap, insert_entry, get_by}
use Rattle.std.proofs.lemmas.List.{append-nil}
use Rattle.std.proofs.lemmas.Cmp.{tied_itself}
use Rattle.url_tables.specs.declared.site.Site.{Site}
use Rattle.url_tables.specs.Tables.{path_cmp, same_path, if_same, found}

path_total : IsTotalOrder path_cmp
path_total = lists_total nat_list_cmp_total

exact : IsAntisymmetric path_cmp
exact = slice_cmp-IsAntisymmetric (slice_cmp-IsAntisymmetric nat_cmp-IsAntisymmetric)

by_order : (o : Ordering) → is_eq o ≡ true → o ≡ Equal
by_order Less h = absurd (cc)
by_order Equal h = refl
by_order Greater h = absurd (cc)

-- the same path has the same segments
pub same : (a b : List (List ℕ)) → same_path a b ≡ true → a ≡ b
same a b h = exact a b (by_order (path_cmp a b) h)

pub itself : (a b : List (List ℕ)) → a ≡ b → same_path a b ≡ true
itself a b e = subst (λ (x : List (List ℕ)). same_path a x ≡ true) e (ap is_eq (tied_itself path_total a))

pub other : (a b : List (List ℕ)) → same_path a b ≡ false → a ≡ b → ⊥
other a b h e = let t : same_path a b ≡ true = itself a b e in let x : true ≡ false = sym t ∙ h in absurd (cc)

module _ {X : Type 0} where
  -- what stands under a path
  abbrev pub under : List (List ℕ) → List (Vec (List ℕ) × X) → Option X
  under path es = lookup (λ (key : Vec (List ℕ)). same_path path key.items) es

  set_step : (path plain : List (List ℕ)) (e : Vec (List ℕ) × X) (es : List (Vec (List ℕ) × X)) (w : X) (t u : Bool)
      → same_path plain e.0.items ≡ t → same_path path e.0.items ≡ u
      → (same_path path plain ≡ false → under path (set_value (λ (key : Vec (List ℕ)). same_path plain key.items) es w) ≡ under path es)
      → same_path path plain ≡ false
      → cond u (Some e.1) (under path es) ≡ under path (cond t ((e.0, w) ∷ es) (e ∷ set_value (λ (key : Vec (List ℕ)). same_path plain key.items) es w))
  set_step path plain e es w true true p q ih f = absurd (other path plain f (same path e.0.items q ∙ sym (same plain e.0.items p)))
  set_step path plain e es w true false p q ih f = rw q refl
  set_step path plain e es w false true p q ih f = rw q refl
  set_step path plain e es w false false p q ih f = rw q (sym (ih f))

  -- a value that is written under one path leaves those under the others
  pub set_other : (path plain : List (List ℕ)) (es : List (Vec (List ℕ) × X)) (w : X) → same_path path plain ≡ false
      → under path (set_value (λ (key : Vec (List ℕ)). same_path plain key.items) es w) ≡ under path es
  set_other path plain [] w f = refl
  set_other path plain (e ∷ es) w f =
      sym (set_step path plain e es w (same_path plain e.0.items) (same_path path e.0.items) refl refl (set_other path plain es w) f)

  same_step : (plain : List (List ℕ)) (e : Vec (List ℕ) × X) (es : List (Vec (List ℕ) × X)) (v w : X) (t : Bool) → same_path plain e.0.items ≡ t
      → (under plain es ≡ Some v → under plain (set_value (λ (key : Vec (List ℕ)). same_path plain key.items) es w) ≡ Some w)
      → cond t (Some e.1) (under plain es) ≡ Some v → under plain (cond t ((e.0, w) ∷ es) (e ∷ set_value (λ (key : Vec (List ℕ)). same_path plain key.items) es w)) ≡ Some w
  same_step plain e es v w true p ih h = rw p refl
  same_step plain e es v w false p ih h = rw p (ih h)

  -- a value that is written stands under its path
  pub set_same : (plain : List (List ℕ)) (es : List (Vec (List ℕ) × X)) (v w : X) → under plain es ≡ Some v
      → under plain (set_value (λ (key : Vec (List ℕ)). same_path plain key.items) es w) ≡ Some w
  set_same plain [] v w h = absurd (cc)
  set_same plain (e ∷ es) v w h = same_step plain e es v w (same_path plain e.0.items) refl (set_same plain es v w) h

  insert_step : (path : List (List ℕ)) (k : Vec (List ℕ)) (v : X) (e : Vec (List ℕ) × X) (es : List (Vec (List ℕ) × X)) (o : Ordering) (t : Bool)
      → path_cmp k.items e.0.items ≡ o → same_path path e.0.items ≡ t
      → cond (is_eq o) (Some e.1) (under k.items es) ≡ None
      → (under k.items es ≡ None → under path (insert_entry (λ (a b : Vec (List ℕ)). path_cmp a.items b.items) es k v) ≡ cond (same_path path k.items) (Some v) (under path es))
      → under path (match_ordering o ((k, v) ∷ e ∷ es) ((e.0, v) ∷ es) (e ∷ insert_entry (λ (a b : Vec (List ℕ)). path_cmp a.items b.items) es k v)) ≡ cond (same_path path k.items) (Some v) (cond t (Some e.1) (under path es))
  insert_step path k v e es Less t p q none ih = rw q refl
  insert_step path k v e es Equal t p q none ih = absurd (cc)
  insert_step path k v e es Greater true p q none ih =
      let apart : same_path path k.items ≡ false = not_both path k.items e.0.items q p in
      rw q (rw apart refl)
    where
      by_test : (path a b : List (List ℕ)) (u : Bool) → same_path path a ≡ u → same_path path b ≡ true → path_cmp a b ≡ Greater → u ≡ false
      by_test path a b true h g f =
          let e : a ≡ b = sym (same path a h) ∙ same path b g in
          let i : same_path a b ≡ true = itself a b e in
          let x : true ≡ false = sym i ∙ ap is_eq f in
          absurd (cc)
      by_test path a b false h g f = refl

      not_both : (path a b : List (List ℕ)) → same_path path b ≡ true → path_cmp a b ≡ Greater → same_path path a ≡ false
      not_both path a b g f = by_test path a b (same_path path a) refl g f
  insert_step path k v e es Greater false p q none ih = rw q (ih none)

  -- a value that is put under a path that had none
  pub inserted : (path : List (List ℕ)) (k : Vec (List ℕ)) (v : X) (es : List (Vec (List ℕ) × X)) → under k.items es ≡ None
      → under path (insert_entry (λ (a b : Vec (List ℕ)). path_cmp a.items b.items) es k v) ≡ cond (same_path path k.items) (Some v) (under path es)
  inserted path k v [] none = refl
  inserted path k v (e ∷ es) none =
      insert_step path k v e es (path_cmp k.items e.0.items) (same_path path e.0.items) refl refl none (inserted path k v es)

unwrapped : {A : Type 0} (o : Option (List A)) (xs : List A) → o ≡ Some xs → unwrap_or o [] ≡ xs
unwrapped {A = A} o xs h = ap (λ (p : Option (List A)). unwrap_or p []) h

written_by : (sites now : BTreeMap (Vec (List ℕ)) (List Site)) (plain path : List (List ℕ)) (others : List Site) (site : Site) (t : Bool) → same_path path plain ≡ t
    → under plain sites.entries ≡ Some others → now.entries ≡ set_value (λ (key : Vec (List ℕ)). same_path plain key.items) sites.entries (others ++ site ∷ [])
    → found now path ≡ found sites path ++ if_same t site
written_by sites now plain path others site true e h w =
    let there : path ≡ plain = same path plain e in
    subst (λ (p : List (List ℕ)). found now p ≡ found sites p ++ site ∷ []) (sym there)
    (unwrapped (under plain now.entries) (others ++ site ∷ []) (ap (under plain) w ∙ set_same plain sites.entries others (others ++ site ∷ []) h)
    ∙ ap (λ (s : List Site). s ++ site ∷ []) (sym (unwrapped (under plain sites.entries) others h)))
written_by sites now plain path others site false e h w =
    ap (λ (o : Option (List Site)). unwrap_or o []) (ap (under path) w ∙ set_other path plain sites.entries (others ++ site ∷ []) e) ∙ sym (append-nil (found sites path))

-- one more behind those that stand under its path
pub put_behind : (sites now : BTreeMap (Vec (List ℕ)) (List Site)) (plain path : List (List ℕ)) (others list : List Site) (site : Site)
    → Some others ≡ get_by (λ (key : Vec (List ℕ)). path_cmp plain key.items) sites → now.entries ≡ set_value (λ (key : Vec (List ℕ)). same_path plain key.items) sites.entries list → list ≡ others ++ site ∷ []
    → found now path ≡ found sites path ++ if_same (same_path path plain) site
put_behind sites now plain path others list site h w more =
    written_by sites now plain path others site (same_path path plain) refl (sym h) (w ∙ ap (set_value (λ (key : Vec (List ℕ)). same_path plain key.items) sites.entries) more)

begun_by : (sites now : BTreeMap (Vec (List ℕ)) (List Site)) (plain : Vec (List ℕ)) (path : List (List ℕ)) (site : Site) (t : Bool) → same_path path plain.items ≡ t
    → under plain.items sites.entries ≡ None → under path now.entries ≡ cond t (Some (site ∷ [])) (under path sites.entries)
    → found now path ≡ found sites path ++ if_same t site
begun_by sites now plain path site true e h w =
    let there : path ≡ plain.items = same path plain.items e in
    let none : under path sites.entries ≡ None = subst (λ (p : List (List ℕ)). under p sites.entries ≡ None) (sym there) h in
    unwrapped (under path now.entries) (site ∷ []) w ∙ ap (λ (o : Option (List Site)). unwrap_or o [] ++ site ∷ []) (sym none)
begun_by sites now plain path site false e h w =
    ap (λ (o : Option (List Site)). unwrap_or o []) w ∙ sym (append-nil (found sites path))

-- the first one under its path
pub put_first : (sites now : BTreeMap (Vec (List ℕ)) (List Site)) (plain : Vec (List ℕ)) (path : List (List ℕ)) (list : List Site) (site : Site)
    → under plain.items sites.entries ≡ None → now.entries ≡ insert_entry (λ (a b : Vec (List ℕ)). path_cmp a.items b.items) sites.entries plain list → list ≡ site ∷ []
    → found now path ≡ found sites path ++ if_same (same_path path plain.items) site
put_first sites now plain path list site h w one =
    begun_by sites now plain path site (same_path path plain.items) refl h
    (ap (under path) (w ∙ ap (insert_entry (λ (a b : Vec (List ℕ)). path_cmp a.items b.items) sites.entries plain) one) ∙ inserted path plain (site ∷ []) sites.entries h)
