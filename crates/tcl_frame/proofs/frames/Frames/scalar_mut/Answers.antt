use Rattle.std.proofs.Common.{◌≡◌, inl, inr, refl, ap, sym, subst, ◌∙◌}
use Rattle.std.specs.Prelude.{Some}
use Rattle.std.specs.FinMap as map
use Rattle.std.specs.Option.{option_copied_mut}
use Rattle.tcl_frame.specs.declared.variable.Variable.TheVariants.{Scalar}
use Rattle.tcl_frame.specs.Names.{named, is_closed}
use Rattle.tcl_frame.specs.NotLending.{IsPlainNotLent, IsNotLent}
use Rattle.tcl_frame.specs.Meaning.{Value}
use Rattle.tcl_frame.specs.Frames.{written, found_in, table_of}
use Rattle.tcl_frame.proofs.Tables.{on_some}
use Rattle.tcl_frame.proofs.Scalars.{if_some, if_none, plain_found, plain_written, plain_same}
use Rattle.tcl_frame.proofs.frames.Frames.scalar_mut.Goals as goal

pub returns : goal.returns
returns c =
    let stack = c.args.self.now in
    let name = c.bytes-name.result.now in
    let plain = sym c.is_closed.ensures ∙ c.if-is_closed.false in
    let lent = c.scalar_place in (
      (
        refl,
        λ w. on_some lent.result _ _ (λ is.
            is ∙ plain_written stack name w plain ∙ ap (λ n. written stack n w) c.bytes-name.ensures) (lent.follows.holds w),
        lent.follows.holds-at-none,
      ),
      record {
        writes_back = tt;
        value = if_some (option_copied_mut lent.result) (λ text. map.get (table_of stack name) name ≡ Some (Scalar text)) (λ text. found_in stack (named c.args.name.now) ≡ Value text) (λ text is.
            ap (λ n. found_in stack (named n)) (sym c.bytes-name.ensures) ∙ plain_found stack name text plain is) lent.ensures.value;
        same = if_some (option_copied_mut lent.result) (λ text. map.get (table_of stack name) name ≡ Some (Scalar text)) (λ text. written stack c.args.name.now text ≡ stack) (λ text is.
            ap (λ n. written stack n text) (sym c.bytes-name.ensures) ∙ plain_same stack name text plain is) lent.ensures.value;
        none = if_none lent.result (IsPlainNotLent stack name) (IsNotLent stack c.args.name.now) (λ plainly.
            inr (subst (IsPlainNotLent stack) c.bytes-name.ensures plainly)) lent.ensures.none;
      },
    )

pub returns-then-is_closed : goal.returns-then-is_closed
returns-then-is_closed c = (
  (refl, λ w. tt, refl),
  record {
    writes_back = tt;
    value = tt;
    same = tt;
    none = inl (ap is_closed (sym c.bytes-name.ensures) ∙ sym c.is_closed.ensures ∙ c.if-is_closed.true);
  },
)
