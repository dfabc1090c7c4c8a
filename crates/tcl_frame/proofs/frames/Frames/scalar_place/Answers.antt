use Rattle.std.proofs.Common.{◌≡◌, ◌⊎◌, inl, inr, ⊎_elim, refl, ap, sym, subst, ◌∙◌, reverse, true, false}
use Rattle.std.specs.Prelude.{Some, None}
use Rattle.std.proofs.lemmas.Bool.{true≢false}
use Rattle.std.specs.FinMap as map
use Rattle.std.specs.Option.{option_copied_mut}
use Rattle.tcl_frame.specs.declared.variable.Variable.TheVariants.{Scalar}
use Rattle.tcl_frame.specs.Stack.{Stack}
use Rattle.tcl_frame.specs.Frames.{links_name, table_of}
use Rattle.tcl_frame.specs.Texts.{text_of_scalar}
use Rattle.tcl_frame.specs.NotLending.{IsNoScalar, IsBase, IsPlainNotLent}
use Rattle.tcl_frame.proofs.Tables.{on_some}
use Rattle.tcl_frame.proofs.Tops.{top_changed, top_own, own_in, own_changed, own_unchanged}
use Rattle.tcl_frame.proofs.Scalars.{scalar_is, if_some, none_is, if_none, top_links, empty_links, global_changed, global_kept, global_table}
use Rattle.tcl_frame.proofs.frames.Frames.scalar_place.Goals as goal

pub returns-then-leaves : goal.returns-then-leaves
returns-then-leaves c =
    let global = c.self.inside.global in
    let above = reverse c.self.inside.above.items in
    let name = c.args.name.now in
    let stack = c.args.self.now in
    let linked : links_name above name ≡ true = sym c.leaves.ensures ∙ c.if-leaves.true in
    let lent = c.scalar_mut in (
      (
        refl,
        λ w. on_some lent.result _ _ (λ is.
            global_changed global (lent.follows.lender w) above stack name (λ t. map.insert t name (Scalar w)) c.self.view_is linked is) (lent.follows.holds w),
        global_kept global _ above stack c.self.view_is lent.follows.holds-at-none,
      ),
      record {
        writes_back = tt;
        value = if_some (option_copied_mut lent.result) (λ text. map.get global.table name ≡ Some (Scalar text)) (λ text. map.get (table_of stack name) name ≡ Some (Scalar text)) (λ text is.
            ap (λ t. map.get t name) (sym (global_table global above stack name c.self.view_is linked)) ∙ is) lent.ensures.value;
        none = if_none lent.result (IsNoScalar global.table name ⊎ IsBase global.keeps name) (IsPlainNotLent stack name)
            (⊎_elim
            (λ none. inl (ap (λ t. text_of_scalar (map.get t name)) (sym (global_table global above stack name c.self.view_is linked)) ∙ none))
            (λ kept. inr (subst (λ (s : Stack). links_name s.above name ≡ true) c.self.view_is linked, subst (λ (s : Stack). IsBase s.keeps name) c.self.view_is kept)))
            lent.ensures.none;
      },
    )

pub returns-in-Some : goal.returns-in-Some
returns-in-Some c =
    let global = c.self.inside.global in
    let above = c.self.inside.above in
    let frame = c.in-Some.frame.now in
    let name = c.args.name.now in
    let stack = c.args.self.now in
    let some = c.in-Some.ensures.variant.0 refl in
    let own : map.contains_key frame.links name ≡ false =
    sym (top_links above.items above.len frame name above.ok.0 some c.in-Some.ensures.value)
    ∙ sym c.leaves.ensures ∙ c.if-leaves.false in
    let had = top_own above.items above.len frame stack.above name above.ok.0 some c.in-Some.ensures.value (ap (λ (s : Stack). s.above) c.self.view_is) own in
    let lent = c.scalar_mut-in-Some in (
      (
        refl,
        λ w. on_some lent.result _ _ (λ put.
            own_changed stack name frame.variables (lent.follows.lender w) _ had
            (top_changed global.table global.keeps above.items above.len frame stack name (lent.follows.lender w) above.ok.0 some c.in-Some.ensures.value c.self.view_is own)
            name (λ t. map.insert t name (Scalar w)) refl put) (lent.follows.holds w),
        own_unchanged stack name frame.variables _ _ had
            (top_changed global.table global.keeps above.items above.len frame stack name _ above.ok.0 some c.in-Some.ensures.value c.self.view_is own)
            lent.follows.holds-at-none,
      ),
      record {
        writes_back = tt;
        value = if_some (option_copied_mut lent.result) (λ text. map.get frame.variables name ≡ Some (Scalar text)) (λ text. map.get (table_of stack name) name ≡ Some (Scalar text)) (λ text there.
            ap (λ t. map.get t name) (sym (own_in stack.global stack.above stack.keeps name frame.variables had).0) ∙ there)
            (scalar_is (option_copied_mut lent.result) (map.get frame.variables name) lent.ensures.value);
        none = if_none lent.result (text_of_scalar (map.get frame.variables name) ≡ None) (IsPlainNotLent stack name) (λ none.
            inl (ap (λ t. text_of_scalar (map.get t name)) (sym (own_in stack.global stack.above stack.keeps name frame.variables had).0) ∙ none))
            (none_is lent.result (text_of_scalar (map.get frame.variables name)) lent.ensures.value);
      },
    )

pub returns-in-None : goal.returns-in-None
returns-in-None c =
    let above = c.self.inside.above in
    let name = c.args.name.now in
    let linked : links_name (reverse above.items) name ≡ true = empty_links above.items above.len name above.ok.0 (λ some. true≢false (sym (c.in-None.ensures.variant.1 some))) in
    let stack = c.args.self.now in
    absurd (true≢false (sym linked ∙ sym c.leaves.ensures ∙ c.if-leaves.false))
