-- What is done to the table of commands, to the list of definitions that were made and to the base scalars.
use Rattle.std.proofs.Common.{ℕ, ◌+◌, List, refl, sym, ap, subst, ◌∙◌, arith}
use Rattle.cmd_table.specs.Commands.{Writes}
use Rattle.cmd_table.specs.Table.{mark_of, Keeps as KeepsMarks}
use Rattle.cmd_table.specs.Table.{State as TableState}
use Rattle.tcl_eval.specs.Engine.{Holds, Lasts, Counts}
use Rattle.cmd_table.specs.declared.definition.Def.{Def}
use Rattle.tcl_eval.specs.declared.engine.Engine.{Engine}

module _ {H : Type 0} where
  pub held_both : (new mid old : Engine H) → Holds new mid → Holds mid old → Holds new old
  held_both new mid old h i = (h.0 ∙ i.0, h.1 ∙ i.1, h.2 ∙ i.2)

  pub held_lasts : (new old : Engine H) → Holds new old → Lasts new old
  held_lasts new old h =
      (subst (λ (t : TableState). KeepsMarks old.table t) (sym h.0) (λ mark le. (le, refl)), omega (arith, ap mark_of h.0, ap (λ (made : List Def). Writes made) h.1), h.2)

  pub lasts_both : (new mid old : Engine H) → Lasts new mid → Lasts mid old → Lasts new old
  lasts_both new mid old l m =
      (λ mark le. let x = m.0 mark le in let y = l.0 mark x.0 in (y.0, y.1 ∙ x.1), omega (arith, l.1, m.1), l.2 ∙ m.2)

  pub none_counted : (n : ℕ) (new old : Engine H) → Holds new old → Counts n n new old
  none_counted n new old h = (held_lasts new old h, ap (λ (made : List Def). n + Writes made) (sym h.1))

  pub counted_both : (after between before : ℕ) (new mid old : Engine H) → Counts after between new mid → Counts between before mid old → Counts after before new old
  counted_both after between before new mid old c d = (lasts_both new mid old c.0 d.0, omega (arith, c.1, d.1))

  pub counted_on : (after before : ℕ) (new mid old : Engine H) → Holds new mid → Counts after before mid old → Counts after before new old
  counted_on after before new mid old h c = counted_both after after before new mid old (none_counted after new mid h) c

  pub counted_from : (after before : ℕ) (new mid old : Engine H) → Counts after before new mid → Holds mid old → Counts after before new old
  counted_from after before new mid old c h = counted_both after before before new mid old c (none_counted before mid old h)
