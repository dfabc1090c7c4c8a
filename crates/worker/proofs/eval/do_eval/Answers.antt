use Rattle.std.proofs.Common.{◌≡◌, ◌∙◌, ◌+◌, ◌*◌, ◌≤◌, ◌∷◌, ◌++◌, ℕ, List, Option, None, [], refl, sym, ap, subst, arith}
use Rattle.cmd_table.specs.Commands.{Writes}
use Rattle.turn_cell.specs.Cells.{pass_view}
use Rattle.natives.specs.Names.{names_of}
use Rattle.server_host.specs.declared.edition.Edition.{Edition}
use Rattle.ictl.specs.Falls.{StandsAt}
use Rattle.ictl.specs.Interps.{taken, interp_state, interp_written, IsWithin}
use Rattle.ictl.specs.Main.{Define, Script}
use Rattle.ictl.specs.declared.interp.Interp.{Interp}
use Rattle.ictl.specs.declared.next.Next.{Next}
use Rattle.worker.specs.Asking.{Hears}
use Rattle.worker.specs.Clean.{edition_in, standing_in, IsCleanInterp}
use Rattle.worker.specs.Cost.{renewal}
use Rattle.worker.specs.Turns.{OnBlueprint}
use Rattle.worker.specs.Runs.{edition_of}
use Rattle.worker.specs.Working.{eval_end}
use Rattle.worker.proofs.Turning.{gains_more, keeps_names, keeps_units}
use Rattle.worker.proofs.Hearing.{hears_of}
use Rattle.worker.proofs.Looking.{renewable}
use Rattle.worker.proofs.OneItem.{ticked, ran_clean, unbegun_clean, standing_again}
use Rattle.worker.proofs.Paying.{new_alone, new_made, own_within, ended_alone, paid_define, paid_once, paid_all}
use Rattle.worker.proofs.Scripting.{evaluates_by, evaluates_none, runs_due_by, runs_none}
use Rattle.worker.proofs.Within.{cost_within, within_all, define_within}
use Rattle.worker.proofs.eval.do_eval.Goals as goal

pub renew-requires : goal.renew-requires
renew-requires g c =
    let t = c.look-turn.ensures.looks in
    (t.entry.before, renewable (names_of c.args.natives.now) c.args.passes.now c.look-turn.new.passes c.args.worker.now c.look-turn.result.turn c.look-turn.result.look t c.requires.cells.1 c.requires.clean)

pub begin-run-requires : goal.begin-run-requires
begin-run-requires g c =
    let t = c.look-turn.ensures.looks in
    let r = renewable (names_of c.args.natives.now) c.args.passes.now c.look-turn.new.passes c.args.worker.now c.look-turn.result.turn c.look-turn.result.look t c.requires.cells.1 c.requires.clean in
    (c.in-Ok.ensures.of t.entry.before r).0

pub returns-clause-evaluates : goal.returns-clause-evaluates
returns-clause-evaluates g c =
    let names = names_of c.args.natives.now in
    let held = g.P.Pages.held c.args.pages.now in
    let t = c.look-turn.ensures.looks in
    let r = renewable names c.args.passes.now c.look-turn.new.passes c.args.worker.now c.look-turn.result.turn c.look-turn.result.look t c.requires.cells.1 c.requires.clean in
    let of = c.in-Ok.ensures.of t.entry.before r in
    let i0 = c.in-Ok.interp in
    let ran = c.run_to_end-last.ensures.ends in
    let i1 = c.begin-run.result.interp in
    let i2 = ran.done.interp in
    let s0 = c.renew.new.steps in
    let s1 = c.begin-run.new.steps in
    let s2 = ran.reached in
    let inside0 : ℕ = 0 in
    let inside = inside0 + taken names s2 s1 i2 i1 in
    let sound = ran.sound names (c.begin-run.ensures.sound names of.0.0) in
    let edition : edition_in i2 ≡ edition_of t.entry.before = ran.blueprint ∙ (c.begin-run.ensures.blueprint ∙ of.1) in
    let h = hears_of names c.args.moment (λ further. Define names (edition_in i0) c.args.script.now c.args.moment further) c.begin-run.result.next inside0 i1 c.look-turn.new.passes held (g.P.Pages.faults c.args.pages.now) None []
    ran.done.next inside i2 c.run_to_end-last.new.passes (g.P.Pages.faults c.run_to_end-last.new.pages) c.run_to_end-last.result.1.published c.run_to_end-last.result.1.answers
    c.begin-run.ensures.stands.stands ran.resets.stands (ran.hears inside0) in
    evaluates_by names held c.args.script.now c.args.moment _ [] _ _ _ c.look-turn.result.look c.look-turn.new.passes ran.done.next inside i2 ran.kept.settling.run.engine.host.marked None c.run_to_end-last.result.1.published
    t c.in-Ok.ensures.told c.look-turn.ensures.epoch
    (subst (λ (e : Edition). Hears names c.args.moment (λ further. Define names e c.args.script.now c.args.moment further) c.look-turn.new.passes held (g.P.Pages.faults c.args.pages.now) None []
    ran.done.next inside i2 c.run_to_end-last.new.passes (g.P.Pages.faults c.run_to_end-last.new.pages) c.run_to_end-last.result.1.published c.run_to_end-last.result.1.answers) of.1 h)
    refl refl ran.resets.stands ((rw ran.resets.next at c.end_of.ensures) ∙ ap (λ (n : ℕ). eval_end ran.done.next n) c.unwrap_or.ensures) ran.resets.marked
    (ap standing_in ran.is_kept ∙ standing_again ran.kept (edition_in i2) (edition_of t.entry.before) ran.kept.settling.run.engine.host.marked ran.resets.blueprint edition refl)
    (λ outcome end. paid_all _ s0 s2 c.run_to_end-last.new.steps _ (Writes (interp_state i2).made) _ (c.in-Ok.ensures.steps t.entry.before r)
    (paid_define s0 s1 s2 _ _ (interp_written names i1) (interp_written names i2) _ (new_made names i0 of.0) c.begin-run.ensures.steps (own_within names i1) (ended_alone names outcome i2 (subst (λ (n : Next). StandsAt n i2) end ran.resets.stands)) ran.counts)
    (ran.resets.steps names sound))
    (λ none. paid_all _ s0 s2 c.run_to_end-last.new.steps _ (Writes (interp_state i2).made) _ (c.in-Ok.ensures.steps t.entry.before r)
    (cost_within i2 _ s0 s2 (subst (λ (e : Edition). IsWithin 0 s0 s2 i2 (Define names e c.args.script.now c.args.moment c.run_to_end-last.result.1.answers)) of.1
    (within_all names (λ further. Define names (edition_in i0) c.args.script.now c.args.moment further) [] _ _ i2 c.run_to_end-last.result.1.answers 0 s0 s2
    (ran.within (λ further. Define names (edition_in i0) c.args.script.now c.args.moment further) inside0 0 s0 c.begin-run.ensures.stands
    (define_within s0 s1 _ _ (interp_written names i1) c.begin-run.ensures.steps (own_within names i1)) c.begin-run.ensures.most) refl)))
    (ran.resets.steps names sound))

pub returns-in_default-clause-evaluates : goal.returns-in_default-clause-evaluates
returns-in_default-clause-evaluates g c =
    let names = names_of c.args.natives.now in
    let t = c.look-turn.ensures.looks in
    let r = renewable names c.args.passes.now c.look-turn.new.passes c.args.worker.now c.look-turn.result.turn c.look-turn.result.look t c.requires.cells.1 c.requires.clean in
    evaluates_none names _ c.args.script.now c.args.moment _ _ _ _ c.look-turn.result.look c.args.worker.now.interp c.renew.new.worker.interp t c.look-turn.ensures.epoch c.new.ensures refl c.in_default.ensures.err refl refl refl
    (c.renew.ensures.most t.entry.before r) c.in_default.ensures.refused

pub returns-clause-clean : goal.returns-clause-clean
returns-clause-clean g c =
    let names = names_of c.args.natives.now in
    let held = g.P.Pages.held c.args.pages.now in
    let t = c.look-turn.ensures.looks in
    let r = renewable names c.args.passes.now c.look-turn.new.passes c.args.worker.now c.look-turn.result.turn c.look-turn.result.look t c.requires.cells.1 c.requires.clean in
    let of = c.in-Ok.ensures.of t.entry.before r in
    let i0 = c.in-Ok.interp in
    let ran = c.run_to_end-last.ensures.ends in
    let i1 = c.begin-run.result.interp in
    let i2 = ran.done.interp in
    let s0 = c.renew.new.steps in
    let s1 = c.begin-run.new.steps in
    let s2 = ran.reached in
    let inside0 : ℕ = 0 in
    let inside = inside0 + taken names s2 s1 i2 i1 in
    let sound = ran.sound names (c.begin-run.ensures.sound names of.0.0) in
    let edition : edition_in i2 ≡ edition_of t.entry.before = ran.blueprint ∙ (c.begin-run.ensures.blueprint ∙ of.1) in
    let h = ran.hears inside0 in
    subst (λ (k : Option Interp). IsCleanInterp names (pass_view c.run_to_end-last.new.passes.blueprint) k) (sym ran.is_kept)
    (ran_clean names c.args.passes.now c.look-turn.new.passes c.run_to_end-last.new.passes c.look-turn.result.turn _ c.look-turn.result.look t (h.turns ++ h.more) i0 ran.kept
    h.gains of.1 (ran.resets.blueprint ∙ (ran.blueprint ∙ c.begin-run.ensures.blueprint)) (ran.resets.is_new names sound))

pub returns-clause-cells : goal.returns-clause-cells
returns-clause-cells g c =
    let names = names_of c.args.natives.now in
    let t = c.look-turn.ensures.looks in
    let h = c.run_to_end-last.ensures.ends.hears 0 in
    (c.run_to_end-last.ensures.cells, keeps_names names c.look-turn.new.passes c.run_to_end-last.new.passes (h.turns ++ h.more) h.gains (keeps_names names c.args.passes.now c.look-turn.new.passes (OnBlueprint t.entry ∷ []) t.gains.1 c.requires.cells.1))

pub returns-clause-units : goal.returns-clause-units
returns-clause-units g c =
    let t = c.look-turn.ensures.looks in
    let h = c.run_to_end-last.ensures.ends.hears 0 in
    keeps_units c.args.passes.now c.run_to_end-last.new.passes ((OnBlueprint t.entry ∷ []) ++ (h.turns ++ h.more)) (gains_more c.args.passes.now c.look-turn.new.passes c.run_to_end-last.new.passes (OnBlueprint t.entry ∷ []) (h.turns ++ h.more) t.gains.1 h.gains)

-- no run was begun
pub returns-in_default-clause-clean : goal.returns-in_default-clause-clean
returns-in_default-clause-clean g c =
    unbegun_clean (names_of c.args.natives.now) c.args.passes.now c.look-turn.new.passes c.look-turn.result.turn _ c.look-turn.result.look c.look-turn.ensures.looks c.args.worker.now c.renew.new.worker c.requires.clean c.in_default.ensures.err

pub returns-in_default-clause-cells : goal.returns-in_default-clause-cells
returns-in_default-clause-cells g c = (c.look-turn.ensures.cells, keeps_names (names_of c.args.natives.now) c.args.passes.now c.look-turn.new.passes (OnBlueprint c.look-turn.ensures.looks.entry ∷ []) c.look-turn.ensures.looks.gains.1 c.requires.cells.1)

pub returns-in_default-clause-units : goal.returns-in_default-clause-units
returns-in_default-clause-units g c = keeps_units c.args.passes.now c.look-turn.new.passes (OnBlueprint c.look-turn.ensures.looks.entry ∷ []) c.look-turn.ensures.looks.gains.1

pub returns-clause-number : goal.returns-clause-number
returns-clause-number g c = c.run_to_end-last.ensures.number ∙ c.renew.ensures.number
