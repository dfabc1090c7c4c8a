-- A look finds a blueprint that is no older than any that the pass has seen, and what it tells makes an interpreter of it.
use Rattle.std.proofs.Common.{◌≡◌, ◌≢◌, ◌⊎◌, inl, inr, ⊎_elim, ℕ, ◌+◌, ◌*◌, ◌<◌, ◌≤◌, Bool, true, false, cond, List, [], ◌∷◌, ◌++◌, length, Option, None, Some, Result, Ok, Err, IfOk, OnOk, refl, sym, ap, ◌∙◌, subst, arith}
use Rattle.std.specs.Prelude.{nat_lt, nat_le, ◌==◌, ◌&&◌}
use Rattle.std.proofs.lemmas.Bool.{ltb-true, ltb-false, leb-true, leb-false, eqb-true, eqb-false, false≢true}
use Rattle.cmd_table.specs.declared.definition.Def.{Def}
use Rattle.cmd_table.specs.Table.{Table}
use Rattle.cmd_table.specs.Commands.{Commands, Writes, built, built_ins}
use Rattle.turn_cell.specs.declared.view.Entry.{Entry}
use Rattle.txt_core.specs.Members.{Has}
use Rattle.turn_cell.specs.Members.{Left}
use Rattle.turn_cell.specs.Cells.{pass_view}
use Rattle.turn_cell.specs.Passes.{turn_of, with_turn}
use Rattle.turn_cell.specs.Steps.{Turns}
use Rattle.turn_cell.proofs.Members.{left_is_after, left_back}
use Rattle.turn_cell.proofs.Chains.{own_after}
use Rattle.blueprint.specs.States as blueprints
use Rattle.blueprint.specs.States.{definitions, first_misfit}
use Rattle.blueprint.specs.Objects as blueprint_steps
use Rattle.blueprint.specs.Objects.{Reaches}
use Rattle.blueprint.specs.Looking.{since, look_answer, Looks as Answers}
use Rattle.blueprint.specs.declared.reply.BlueCall.{BlueCall}
use Rattle.blueprint.specs.declared.reply.BlueCall.TheVariants as blue_call
use Rattle.blueprint.specs.declared.reply.BlueReply.{BlueReply}
use Rattle.blueprint.specs.declared.reply.BlueReply.TheVariants as blue_reply
use Rattle.blueprint.specs.declared.reply.Look.{Look}
use Rattle.blueprint.specs.declared.reply.Look.TheVariants as looks
use Rattle.server_host.specs.Hosts.{added}
use Rattle.server_host.specs.declared.edition.Edition.{Edition}
use Rattle.ictl.specs.Interps.{IsNew}
use Rattle.ictl.specs.declared.interp.Interp.{Interp}
use Rattle.shared_state.specs.Cells.{HaveSameNames, KnowNames}
use Rattle.shared_state.specs.Views.{BlueEntry, BlueView}
use Rattle.shared_state.specs.declared.shared.Passes.{Passes}
use Rattle.worker.specs.Turns.{Turn, OnBlueprint, blueprint_turns, IsLook, GainsTurns, GainsLook}
use Rattle.worker.specs.Runs.{edition_of}
use Rattle.worker.specs.Clean.{Standing, edition_in, standing_in, standing_of, Saw, IsCleanInterp, IsClean}
use Rattle.worker.specs.Cost.{Build, renewal, renewal_of, renewal_by}
use Rattle.worker.specs.Renewing.{place_told, look_in, TellsLook, no_epoch, epoch_unmarked, known_epoch, epoch_told, Follows, AreNew, IsRenewedBy, IsOf, IsLeft}
use Rattle.worker.specs.declared.worker.Worker.{Worker}
use Rattle.worker.proofs.Turning.{blueprint_entry, blueprint_gained, reached_names, keeps_left}

-- ---- a look

-- a look is replied with a look
look_reply : (s : blueprints.State) (known : ℕ) (reply : BlueReply) (t : blueprints.State) → blueprint_steps.BlueprintSteps s (blue_call.Look known) reply t → reply ≡ blue_reply.Look (look_in reply)
look_reply s known (blue_reply.Look look) t legal = refl
look_reply s known (blue_reply.Published published) t legal = absurd legal

pub tells_look : (p q : Passes) (place known : ℕ) (reply : BlueReply) (look : Look) (turn : ℕ)
    → (t : Turns blueprints.Allowed blueprint_steps.Reaches blueprint_steps.BlueprintSteps (pass_view p.blueprint) place (blue_call.Look known) reply (pass_view q.blueprint))
    → q.nsv ≡ p.nsv → q.schedule ≡ p.schedule → look ≡ look_in reply → turn ≡ place_told place look → TellsLook p turn known look q
tells_look p q place known reply look turn t arrays schedule is at = record {
  entry = blueprint_entry p q place (blue_call.Look known) reply t;
  at = at;
  call = refl;
  reply = look_reply t.before known reply t.after t.next.legal ∙ ap (λ (l : Look). blue_reply.Look l) (sym is);
  gains = (tt, blueprint_gained p q place (blue_call.Look known) reply t arrays schedule);
}

-- what the entry of a look says
legal_look : (p q : Passes) (turn known : ℕ) (look : Look) (t : TellsLook p turn known look q) → blueprint_steps.BlueprintSteps t.entry.before (blue_call.Look known) (blue_reply.Look look) t.entry.after
legal_look p q turn known look t =
    subst (λ (c : BlueCall). blueprint_steps.BlueprintSteps t.entry.before c (blue_reply.Look look) t.entry.after) t.call
    (subst (λ (r : BlueReply). blueprint_steps.BlueprintSteps t.entry.before t.entry.call r t.entry.after) t.reply t.gains.1.0.0.legal)

-- what the pass had seen reaches what the look found
pub left_reaches : (p q : Passes) (look : BlueEntry) (s : blueprints.State) → GainsLook p look q → Left (pass_view p.blueprint).own s → Reaches s look.before
left_reaches p q look s g l =
    let r = (left_is_after (pass_view p.blueprint).own s).0 l in
    subst (λ (x : blueprints.State). Reaches x look.before) r.2 (g.1.0.0.found.own r.0 r.1)

follows : (names : List (List ℕ)) (p q : Passes) (look : BlueEntry) (interp : Option Interp) → GainsLook p look q → IsCleanInterp names (pass_view p.blueprint) interp → Follows interp look.before
follows names p q look None g clean = tt
follows names p q look (Some interp) g clean = (clean.1.0, clean.1.2, left_reaches p q look clean.1.0 g clean.1.1, clean.1.3)

are_new : (names : List (List ℕ)) (view : BlueView) (interp : Option Interp) → IsCleanInterp names view interp → AreNew names interp
are_new names view None clean = tt
are_new names view (Some interp) clean = clean.0

pub renewable : (names : List (List ℕ)) (p q : Passes) (worker : Worker) (turn : ℕ) (look : Look) → (t : TellsLook p turn (known_epoch (standing_of worker)) look q)
    → KnowNames names p → IsClean names p worker → IsRenewedBy names worker.interp t.entry.before look
renewable names p q worker turn look t know clean = record {
  tells = (legal_look p q turn (known_epoch (standing_of worker)) look t).0;
  allows = t.gains.1.0.0.allows.0;
  natives = subst (λ (others : List (List ℕ)). HaveSameNames names others) (reached_names (pass_view p.blueprint).low t.entry.before t.gains.1.0.0.found.low) know;
  are_new = are_new names (pass_view p.blueprint) worker.interp clean;
  follows = follows names p q t.entry worker.interp t.gains clean;
}

-- behind a look the pass has the state that it found among those that its turns left
pub look_left : (p q : Passes) (turn known : ℕ) (look : Look) (t : TellsLook p turn known look q) → Left (pass_view q.blueprint).own t.entry.before
look_left p q turn known look t =
    subst (λ (own : List BlueEntry). Left own t.entry.before)
    (sym (own_after blueprints.Allowed blueprint_steps.Reaches blueprint_steps.BlueprintSteps (pass_view p.blueprint) (pass_view q.blueprint) (t.entry ∷ []) t.gains.1.0))
    (left_back (pass_view p.blueprint).own (t.entry ∷ []) t.entry.before (inl (legal_look p q turn known look t).1))

pub look_seen : (p q : Passes) (turn known : ℕ) (look : Look) (t : TellsLook p turn known look q) (interp : Interp) → edition_in interp ≡ edition_of t.entry.before → Saw (pass_view q.blueprint) (edition_in interp)
look_seen p q turn known look t interp is = (t.entry.before, look_left p q turn known look t, t.gains.1.0.0.allows.0, is)

-- what was seen stays seen
pub saw_on : (p q : Passes) (ts : List Turn) (edition : Edition) → GainsTurns p ts q → Saw (pass_view p.blueprint) edition → Saw (pass_view q.blueprint) edition
saw_on p q ts edition g s = (s.0, keeps_left p q ts s.0 g s.1, s.2, s.3)

pub clean_on : (names : List (List ℕ)) (p q : Passes) (ts : List Turn) (interp : Option Interp) → GainsTurns p ts q → IsCleanInterp names (pass_view p.blueprint) interp → IsCleanInterp names (pass_view q.blueprint) interp
clean_on names p q ts None g clean = tt
clean_on names p q ts (Some interp) g clean = (clean.0, saw_on p q ts (edition_in interp) g clean.1)

-- an interpreter that has the old one's blueprint saw what that saw
pub saw_same : (view : BlueView) (old new : Edition) → new ≡ old → Saw view old → Saw view new
saw_same view old new is s = (s.0, s.1, s.2, is ∙ s.3)

-- what is the same is of the epoch that was named
same_bounds : (state : blueprints.State) (known : ℕ) (same within : Bool) → (known == state.epoch) ≡ same → looks.Same ≡ cond same looks.Same (cond within (looks.Since state.epoch (since known state.rows)) (looks.Whole state.epoch (definitions state))) → known ≡ state.epoch
same_bounds state known true within s is = eqb-true known state.epoch s
same_bounds state known false true s is = absurd (cc)
same_bounds state known false false s is = absurd (cc)

pub same_told : (state : blueprints.State) (known : ℕ) → Answers state known looks.Same → known ≡ state.epoch
same_told state known is = same_bounds state known (known == state.epoch) (nat_le state.base known && nat_lt known state.epoch) refl is

-- what a look tells that isn't the same
since_bounds : (state : blueprints.State) (known epoch : ℕ) (defs : List Def) (same low high : Bool) → nat_le state.base known ≡ low → nat_lt known state.epoch ≡ high
    → looks.Since epoch defs ≡ cond same looks.Same (cond (low && high) (looks.Since state.epoch (since known state.rows)) (looks.Whole state.epoch (definitions state)))
    → (known < state.epoch) × (epoch ≡ state.epoch)
since_bounds state known epoch defs true low high l h is = absurd (cc)
since_bounds state known epoch defs false false high l h is = absurd (cc)
since_bounds state known epoch defs false true false l h is = absurd (cc)
since_bounds state known epoch defs false true true l h is = (ltb-true known state.epoch h, (cc))

pub since_told : (state : blueprints.State) (known epoch : ℕ) (defs : List Def) → Answers state known (looks.Since epoch defs) → (known < state.epoch) × (epoch ≡ state.epoch)
since_told state known epoch defs is = since_bounds state known epoch defs (known == state.epoch) (nat_le state.base known) (nat_lt known state.epoch) refl refl is

whole_bounds : (state : blueprints.State) (known epoch : ℕ) (defs : List Def) (same within : Bool)
    → looks.Whole epoch defs ≡ cond same looks.Same (cond within (looks.Since state.epoch (since known state.rows)) (looks.Whole state.epoch (definitions state)))
    → (epoch ≡ state.epoch) × (defs ≡ definitions state)
whole_bounds state known epoch defs true within is = absurd (cc)
whole_bounds state known epoch defs false true is = absurd (cc)
whole_bounds state known epoch defs false false is = ((cc), (cc))

pub whole_told : (state : blueprints.State) (known epoch : ℕ) (defs : List Def) → Answers state known (looks.Whole epoch defs) → (epoch ≡ state.epoch) × (defs ≡ definitions state)
whole_told state known epoch defs is = whole_bounds state known epoch defs (known == state.epoch) (nat_le state.base known && nat_lt known state.epoch) is

epoch_by : (state : blueprints.State) (known : ℕ) (look : Look) → Answers state known look → look ≢ looks.NoMemory → state.epoch ≡ epoch_told known look
epoch_by state known looks.Same is told = sym (same_told state known is)
epoch_by state known (looks.Since epoch defs) is told = sym (since_told state known epoch defs is).1
epoch_by state known (looks.Whole epoch defs) is told = sym (whole_told state known epoch defs is).0
epoch_by state known looks.NoMemory is told = absurd (told refl)

-- the state that a look found has the epoch that it tells
pub epoch_is : (p q : Passes) (turn known : ℕ) (look : Look) (t : TellsLook p turn known look q) → look ≢ looks.NoMemory → t.entry.before.epoch ≡ epoch_told known look
epoch_is p q turn known look t told = epoch_by t.entry.before known look (legal_look p q turn known look t).0 told

-- ---- renewals
