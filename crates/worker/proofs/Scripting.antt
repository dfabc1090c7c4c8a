-- Runs of scripts, from a look to their end.
use Rattle.std.proofs.Common.{◌≡◌, ◌≢◌, ◌⊎◌, inl, inr, ⊎_elim, ℕ, zero, suc, ◌+◌, ◌*◌, ◌<◌, ◌≤◌, Bool, true, false, List, [], ◌∷◌, ◌++◌, Option, None, Some, refl, sym, ap, ◌∙◌, subst, arith}
use Rattle.std.specs.Option.{unwrap_or}
use Rattle.std.proofs.lemmas.List.{append-nil}
use Rattle.outside.specs.Paging.{PageMap}
use Rattle.outside.specs.declared.question.Answer.{Answer}
use Rattle.cmd_table.specs.Commands.{Writes}
use Rattle.blueprint.specs.declared.reply.BlueCall.{BlueCall}
use Rattle.blueprint.specs.declared.reply.BlueCall.TheVariants as blue_call
use Rattle.blueprint.specs.declared.reply.BlueReply.{BlueReply}
use Rattle.blueprint.specs.declared.reply.BlueReply.TheVariants as blue_reply
use Rattle.blueprint.specs.declared.reply.Published.TheVariants as published
use Rattle.blueprint.specs.declared.reply.Look.{Look}
use Rattle.blueprint.specs.declared.reply.Look.TheVariants as looks
use Rattle.server_host.specs.Hosts.{HostState}
use Rattle.server_host.specs.declared.edition.Edition.{Edition}
use Rattle.tcl_eval.specs.State.{State}
use Rattle.tcl_eval.specs.declared.outcome.Outcome.{Outcome}
use Rattle.ictl.specs.Falls.{IsEnd, StandsAt as IsAt}
use Rattle.sched_core.specs.declared.call.DueScript.{DueScript}
use Rattle.ictl.specs.Interps.{gives, interp_state}
use Rattle.ictl.specs.Main.{Progress, ends}
use Rattle.ictl.specs.declared.interp.Interp.{Interp}
use Rattle.ictl.specs.declared.next.Next.{Next}
use Rattle.ictl.specs.declared.next.Next.TheVariants as next
use Rattle.shared_state.specs.Views.{BlueEntry}
use Rattle.shared_state.specs.declared.shared.Passes.{Passes}
use Rattle.worker.specs.Turns.{Turn, OnBlueprint, OnArrays, OnSchedule, OnPages, AtOnce, IsAnsweredLook, AreAsked, AtMostOneMore, GainsTurns}
use Rattle.worker.specs.Asking.{published_by, published_at, published_after, MayStand, Hears}
use Rattle.worker.specs.Clean.{Standing, standing_in}
use Rattle.worker.specs.Cost.{renewal, run_cost}
use Rattle.worker.specs.Outside.{Ticks, AreHeld, page_faults, RoseBy}
use Rattle.worker.specs.Renewing.{place_told, epoch_told, TellsLook, IsLeft}
use Rattle.worker.specs.Runs.{edition_of, script_run, define_run}
use Rattle.worker.specs.Scripts.{epoch_by, epoch_at, epoch_behind, evaluated, LooksFirst, RunsWhole, RunsLost, RunsNot, Evaluates, whole, lost, unbegun, RunsDue, due_whole, due_lost, due_unbegun}
use Rattle.worker.specs.Working.{run_outcome, eval_end}
use Rattle.worker.specs.declared.scripts.Evaled.{Evaled}
use Rattle.worker.specs.declared.scripts.EvalEnd.TheVariants as evals
use Rattle.tcl_eval.specs.declared.outcome.Outcome.TheVariants as outcomes
use Rattle.worker.specs.declared.scripts.Ran.{Ran}
use Rattle.worker.specs.Sessions.{At}
use Rattle.worker.proofs.Turning.{gains_none}
use Rattle.worker.proofs.Hearing.{held_none, rose_none}
use Rattle.worker.proofs.Looking.{epoch_is}
use Rattle.worker.proofs.Requests.{lost_before}

-- ---- the epoch behind a definition run

epoch_known : (epoch : ℕ) (call : BlueCall) (reply : BlueReply) → unwrap_or (published_by call reply) epoch ≡ epoch_by epoch call reply
epoch_known epoch (blue_call.Look known) reply = refl
epoch_known epoch (blue_call.Save script) reply = refl
epoch_known epoch (blue_call.Publish defs) (blue_reply.Look look) = refl
epoch_known epoch (blue_call.Publish defs) (blue_reply.Published (published.Done now)) = refl
epoch_known epoch (blue_call.Publish defs) (blue_reply.Published (published.NotADefinition place)) = refl
epoch_known epoch (blue_call.Publish defs) (blue_reply.Published (published.NotApplicable place)) = refl
epoch_known epoch (blue_call.Publish defs) (blue_reply.Published (published.Full limit)) = refl
epoch_known epoch (blue_call.Publish defs) (blue_reply.Published published.NoMemory) = refl

epoch_of_turn : (epoch : ℕ) (turn : Turn) → unwrap_or (published_at turn) epoch ≡ epoch_at epoch turn
epoch_of_turn epoch (OnBlueprint e) = epoch_known epoch e.call e.reply
epoch_of_turn epoch (OnArrays bucket e) = refl
epoch_of_turn epoch (OnSchedule e) = refl
epoch_of_turn epoch (OnPages path reply) = refl
epoch_of_turn epoch AtOnce = refl

epoch_of_last : (epoch : ℕ) (turn : Turn) (turns : List Turn) → unwrap_or (published_after (published_at turn) turns) epoch ≡ epoch_behind epoch (turn ∷ turns)
epoch_of_last epoch turn [] = epoch_of_turn epoch turn
epoch_of_last epoch turn (other ∷ turns) = epoch_of_last epoch other turns

pub epoch_of_all : (epoch : ℕ) (turns : List Turn) → unwrap_or (published_after None turns) epoch ≡ epoch_behind epoch turns
epoch_of_all epoch [] = refl
epoch_of_all epoch (turn ∷ turns) = epoch_of_last epoch turn turns

-- ---- the look

place_is : (place : ℕ) (look : Look) → look ≢ looks.NoMemory → place ≡ place_told place look
place_is place looks.Same told = refl
place_is place (looks.Since epoch defs) told = refl
place_is place (looks.Whole epoch defs) told = refl
place_is place looks.NoMemory told = absurd (told refl)

pub is_told : (p q : Passes) (turn known : ℕ) (look : Look) (t : TellsLook p turn known look q) → look ≢ looks.NoMemory → IsAnsweredLook t.entry
is_told p q turn known look t told = λ is. let e = sym t.reply ∙ is in told (cc)

pub place_of : (p q : Passes) (turn known : ℕ) (look : Look) (t : TellsLook p turn known look q) → look ≢ looks.NoMemory → t.entry.place ≡ turn
place_of p q turn known look t told = place_is t.entry.place look told ∙ sym t.at

-- the look with which a run began
abbrev looks_first : (p q : Passes) (turn epoch known : ℕ) (look : Look) (t : TellsLook p turn known look q) → look ≢ looks.NoMemory → epoch ≡ epoch_told known look → LooksFirst turn epoch p
looks_first p q turn epoch known look t told epoch_is_told = record {
  look = t.entry;
  mid = q;
  looks = t.gains;
  is_told = is_told p q turn known look t told;
  place = place_of p q turn known look t told;
  epoch = epoch_is p q turn known look t told ∙ sym epoch_is_told;
}

-- ---- to its end

no_turn_lost : (moment : ℕ) (f : List Answer → Progress) (given : List Answer) (more : List Turn) (outcome : Outcome) → MayStand moment f given more (next.Ended outcome) → more ≡ []
no_turn_lost moment f given more outcome h = h

pub ran_whole : (names : List (List ℕ)) (held : Option PageMap) (run : BlueEntry → List Answer → Progress) (moment turn epoch known : ℕ) (answers had : List Answer) (a b : At) (look : Look) (mid : Passes) (outcome : Outcome) (inside : ℕ) (interp : Interp)
    (before after : Option ℕ) (t : TellsLook a.passes turn known look mid) → look ≢ looks.NoMemory → epoch ≡ epoch_told known look
    → (h : Hears names moment (λ further. run t.entry further) mid held a.faults before had (next.Ended outcome) inside interp b.passes b.faults after answers) → had ≡ [] → IsEnd outcome
    → b.standing ≡ Some (record { edition = edition_of t.entry.before; marked = interp.settling.run.engine.host.marked })
    → b.steps ≤ a.steps + renewal names a.standing t.entry.before + (2 * Writes (interp_state interp).made + inside)
    → RunsWhole names held run moment turn epoch answers outcome h.turns a b
ran_whole names held run moment turn epoch known answers had a b look mid outcome inside interp before after t told epoch_is_told h none end stands paid =
    let all_is : h.given ≡ answers = sym (h.all_are ∙ ap (λ (l : List Answer). l ++ h.given) none) in
    let only : h.turns ++ h.more ≡ h.turns = ap (λ (ts : List Turn). h.turns ++ ts) h.behind ∙ append-nil h.turns in
    record {
      first = looks_first a.passes mid turn epoch known look t told epoch_is_told;
      gains = subst (λ (ts : List Turn). GainsTurns mid ts b.passes) only h.gains;
      asked = subst (λ (l : List Answer). AreAsked moment (λ further. run t.entry further) h.turns l) all_is h.asked;
      pages = subst (λ (ts : List Turn). AreHeld held ts) only h.pages;
      page_counts = subst (λ (ts : List Turn). RoseBy (page_faults ts) a.faults b.faults) only h.counts;
      last = interp_state interp;
      inside = inside;
      ended = ap (λ (l : List Answer). run t.entry l) (sym all_is ∙ sym (append-nil h.given)) ∙ h.goes [];
      is_end = end;
      stands = stands;
      steps = paid;
    }

-- ---- where memory wanted behind the look

twice : (before after one run : ℕ) → after ≤ before + one + run → after ≤ before + 2 * one + run
twice before after one run h = omega (arith, h)

pub ran_lost : (names : List (List ℕ)) (held : Option PageMap) (run : BlueEntry → List Answer → Progress) (moment turn epoch known : ℕ) (answers had : List Answer) (a b : At) (look : Look) (mid : Passes) (came : Next) (inside : ℕ) (interp : Interp) (marked : Bool)
    (before after : Option ℕ) (t : TellsLook a.passes turn known look mid) → look ≢ looks.NoMemory → epoch ≡ epoch_told known look
    → Hears names moment (λ further. run t.entry further) mid held a.faults before had came inside interp b.passes b.faults after answers → had ≡ []
    → b.standing ≡ Some (record { edition = edition_of t.entry.before; marked = marked })
    → b.steps ≤ a.steps + renewal names a.standing t.entry.before + run_cost (run t.entry answers)
    → RunsLost names held run moment turn epoch answers a b
ran_lost names held run moment turn epoch known answers had a b look mid came inside interp marked before after t told epoch_is_told h none stands paid =
    let all_is : h.given ≡ answers = sym (h.all_are ∙ ap (λ (l : List Answer). l ++ h.given) none) in
    record {
      first = looks_first a.passes mid turn epoch known look t told epoch_is_told;
      turns = h.turns;
      more = h.more;
      gains = h.gains;
      asked = subst (λ (l : List Answer). AreAsked moment (λ further. run t.entry further) h.turns l) all_is h.asked;
      one_more = subst (λ (l : List Answer). AtMostOneMore moment (λ further. run t.entry further) l h.more) all_is (lost_before moment (λ further. run t.entry further) h.given h.more came h.behind);
      pages = h.pages;
      page_counts = h.counts;
      stands = inr (inr (record { edition = edition_of t.entry.before; marked = marked }, stands, refl));
      steps = twice a.steps b.steps (renewal names a.standing t.entry.before) (run_cost (run t.entry answers)) paid;
    }

-- the renewal was refused: of the old interpreter there is all or nothing
pub left_stands : (look : Look) (old new : Option Interp) → look ≢ looks.NoMemory → IsLeft look old new → (standing_in new ≡ standing_in old) ⊎ (standing_in new ≡ None)
left_stands looks.Same old new told l = ⊎_elim (λ (is : new ≡ old). inl (ap standing_in is)) (λ (is : new ≡ None). inr (ap standing_in is)) l
left_stands (looks.Since epoch defs) old new told l = ⊎_elim (λ (is : new ≡ old). inl (ap standing_in is)) (λ (is : new ≡ None). inr (ap standing_in is)) l
left_stands (looks.Whole epoch defs) old new told l = ⊎_elim (λ (is : new ≡ old). inl (ap standing_in is)) (λ (is : new ≡ None). inr (ap standing_in is)) l
left_stands looks.NoMemory old new told l = absurd (told refl)

stands_left : (a b : Option Standing) (edition : Edition) → ((b ≡ a) ⊎ (b ≡ None)) → (b ≡ a) ⊎ (b ≡ None) ⊎ ((standing : Standing) × (b ≡ Some standing) × (standing.edition ≡ edition))
stands_left a b edition (inl is) = inl is
stands_left a b edition (inr is) = inr (inl is)

cost_more : (before after one run : ℕ) → after ≤ before + 2 * one → after ≤ before + 2 * one + run
cost_more before after one run h = omega (arith, h)

pub ran_lost_early : (names : List (List ℕ)) (held : Option PageMap) (run : BlueEntry → List Answer → Progress) (moment turn epoch known : ℕ) (answers : List Answer) (a b : At) (look : Look) (old new : Option Interp)
    (t : TellsLook a.passes turn known look b.passes) → look ≢ looks.NoMemory → epoch ≡ epoch_told known look → answers ≡ []
    → IsLeft look old new → a.standing ≡ standing_in old → b.standing ≡ standing_in new → b.faults ≡ a.faults → b.steps ≤ a.steps + 2 * renewal names a.standing t.entry.before
    → RunsLost names held run moment turn epoch answers a b
ran_lost_early names held run moment turn epoch known answers a b look old new t told epoch_is_told none l had has faults paid = record {
  first = looks_first a.passes b.passes turn epoch known look t told epoch_is_told;
  turns = [];
  more = [];
  gains = gains_none b.passes;
  asked = subst (λ (l : List Answer). AreAsked moment (λ further. run t.entry further) [] l) (sym none) tt;
  one_more = tt;
  pages = held_none held;
  page_counts = subst (λ (n : ℕ). RoseBy 0 a.faults n) (sym faults) (rose_none a.faults);
  stands = stands_left a.standing b.standing (edition_of t.entry.before) (⊎_elim (λ (is : standing_in new ≡ standing_in old). inl (has ∙ (is ∙ sym had))) (λ (is : standing_in new ≡ None). inr (has ∙ is)) (left_stands look old new told l));
  steps = cost_more a.steps b.steps (renewal names a.standing t.entry.before) (run_cost (run t.entry answers)) paid;
}

-- ---- where the look was refused

pub refused_left : (look : Look) (old new : Option Interp) → look ≡ looks.NoMemory → IsLeft look old new → new ≡ old
refused_left look old new is l = subst (λ (k : Look). IsLeft k old new) is l

pub ran_not : (names : List (List ℕ)) (held : Option PageMap) (turn epoch known : ℕ) (answers : List Answer) (a b : At) (look : Look) (old new : Option Interp)
    (t : TellsLook a.passes turn known look b.passes) → look ≡ looks.NoMemory → epoch ≡ epoch_told known look → answers ≡ []
    → IsLeft look old new → a.standing ≡ standing_in old → b.standing ≡ standing_in new → b.faults ≡ a.faults → b.steps ≡ a.steps
    → RunsNot names held turn epoch answers a b
ran_not names held turn epoch known answers a b look old new t is epoch_is_told none l had has faults steps = record {
  none = (t.at ∙ ap (λ (k : Look). place_told t.entry.place k) is, epoch_is_told ∙ ap (λ (k : Look). epoch_told known k) is, none);
  looks = inr (t.entry, t.gains, t.reply ∙ ap (λ (k : Look). blue_reply.Look k) is);
  same = (has ∙ (ap standing_in (refused_left look old new is l) ∙ sym had), faults, steps);
}

-- ---- a definition run, however it ended

told_epoch : (epoch : ℕ) (after before : Option ℕ) (turns : List Turn) → after ≡ published_after before turns → before ≡ None → unwrap_or after epoch ≡ epoch_behind epoch turns
told_epoch epoch after before turns is none = ap (λ (o : Option ℕ). unwrap_or o epoch) (is ∙ ap (λ (o : Option ℕ). published_after o turns) none) ∙ epoch_of_all epoch turns

pub evaluates_by : (names : List (List ℕ)) (held : Option PageMap) (script : List ℕ) (moment known : ℕ) (had : List Answer) (a : At) (e : Evaled) (b : At) (look : Look) (mid : Passes) (came : Next) (inside : ℕ) (interp : Interp) (marked : Bool)
    (before after : Option ℕ) (t : TellsLook a.passes e.turn known look mid) → look ≢ looks.NoMemory → e.epoch ≡ epoch_told known look
    → Hears names moment (λ further. define_run names t.entry.before script moment further) mid held a.faults before had came inside interp b.passes b.faults after e.answers → had ≡ [] → before ≡ None → IsAt came interp
    → e.outcome ≡ eval_end came (unwrap_or after e.epoch)
    → marked ≡ interp.settling.run.engine.host.marked
    → b.standing ≡ Some (record { edition = edition_of t.entry.before; marked = marked })
    → ((outcome : Outcome) → came ≡ next.Ended outcome → b.steps ≤ a.steps + renewal names a.standing t.entry.before + (2 * Writes (interp_state interp).made + inside))
    → (((outcome : Outcome) → came ≡ next.Ended outcome → ⊥) → b.steps ≤ a.steps + renewal names a.standing t.entry.before + run_cost (define_run names t.entry.before script moment e.answers))
    → Evaluates names held script moment a e b
evaluates_by names held script moment known had a e b look mid (next.Ended outcome) inside interp marked before after t told epoch h none first at how mark stands paid short =
    whole outcome h.turns
    (ran_whole names held (λ entry. define_run names entry.before script moment) moment e.turn e.epoch known e.answers had a b look mid outcome inside interp before after t told epoch h none at.0
    (stands ∙ ap (λ (m : Bool). Some (record { edition = edition_of t.entry.before; marked = m })) mark) (paid outcome refl))
    (how ∙ ap (λ (n : ℕ). evaluated outcome n) (told_epoch e.epoch after before h.turns h.published first))
evaluates_by names held script moment known had a e b look mid (next.Asks question) inside interp marked before after t told epoch h none first at how mark stands paid short = absurd h.behind
evaluates_by names held script moment known had a e b look mid (next.Write response) inside interp marked before after t told epoch h none first at how mark stands paid short =
    lost (ran_lost names held (λ entry. define_run names entry.before script moment) moment e.turn e.epoch known e.answers had a b look mid (next.Write response) inside interp marked before after t told epoch h none stands (short (λ outcome is. cc))) how
evaluates_by names held script moment known had a e b look mid next.NoMemory inside interp marked before after t told epoch h none first at how mark stands paid short =
    lost (ran_lost names held (λ entry. define_run names entry.before script moment) moment e.turn e.epoch known e.answers had a b look mid next.NoMemory inside interp marked before after t told epoch h none stands (short (λ outcome is. cc))) how

-- ---- a scheduled script, however it ended

pub runs_due_by : (names : List (List ℕ)) (held : Option PageMap) (due : DueScript) (known : ℕ) (had : List Answer) (a : At) (x : Ran) (b : At) (look : Look) (mid : Passes) (came : Next) (inside : ℕ) (interp : Interp) (marked : Bool)
    (before after : Option ℕ) (t : TellsLook a.passes x.turn known look mid) → look ≢ looks.NoMemory → x.epoch ≡ epoch_told known look → x.id ≡ due.id → Ticks a.clock x.moment b.clock
    → Hears names x.moment (λ further. script_run names t.entry.before due.script x.moment further) mid held a.faults before had came inside interp b.passes b.faults after x.answers → had ≡ [] → IsAt came interp
    → x.outcome ≡ run_outcome came
    → marked ≡ interp.settling.run.engine.host.marked
    → b.standing ≡ Some (record { edition = edition_of t.entry.before; marked = marked })
    → ((outcome : Outcome) → came ≡ next.Ended outcome → b.steps ≤ a.steps + renewal names a.standing t.entry.before + (2 * Writes (interp_state interp).made + inside))
    → (((outcome : Outcome) → came ≡ next.Ended outcome → ⊥) → b.steps ≤ a.steps + renewal names a.standing t.entry.before + run_cost (script_run names t.entry.before due.script x.moment x.answers))
    → RunsDue names held due a x b
runs_due_by names held due known had a x b look mid (next.Ended outcome) inside interp marked before after t told epoch id ticks h none at how mark stands paid short =
    due_whole h.turns id ticks
    (subst (λ (o : Outcome). RunsWhole names held (λ entry. script_run names entry.before due.script x.moment) x.moment x.turn x.epoch x.answers o h.turns a b) (sym how)
    (ran_whole names held (λ entry. script_run names entry.before due.script x.moment) x.moment x.turn x.epoch known x.answers had a b look mid outcome inside interp before after t told epoch h none at.0
    (stands ∙ ap (λ (m : Bool). Some (record { edition = edition_of t.entry.before; marked = m })) mark) (paid outcome refl)))
runs_due_by names held due known had a x b look mid (next.Asks question) inside interp marked before after t told epoch id ticks h none at how mark stands paid short = absurd h.behind
runs_due_by names held due known had a x b look mid (next.Write response) inside interp marked before after t told epoch id ticks h none at how mark stands paid short =
    due_lost id ticks (ran_lost names held (λ entry. script_run names entry.before due.script x.moment) x.moment x.turn x.epoch known x.answers had a b look mid (next.Write response) inside interp marked before after t told epoch h none stands (short (λ outcome is. cc))) how
runs_due_by names held due known had a x b look mid next.NoMemory inside interp marked before after t told epoch id ticks h none at how mark stands paid short =
    due_lost id ticks (ran_lost names held (λ entry. script_run names entry.before due.script x.moment) x.moment x.turn x.epoch known x.answers had a b look mid next.NoMemory inside interp marked before after t told epoch h none stands (short (λ outcome is. cc))) how

-- ---- no run was begun

look_or_none : (look : Look) → (look ≡ looks.NoMemory) ⊎ (look ≢ looks.NoMemory)
look_or_none looks.Same = inr (λ is. cc)
look_or_none (looks.Since epoch defs) = inr (λ is. cc)
look_or_none (looks.Whole epoch defs) = inr (λ is. cc)
look_or_none looks.NoMemory = inl refl

pub evaluates_none : (names : List (List ℕ)) (held : Option PageMap) (script : List ℕ) (moment known : ℕ) (a : At) (e : Evaled) (b : At) (look : Look) (old new : Option Interp) (t : TellsLook a.passes e.turn known look b.passes)
    → e.epoch ≡ epoch_told known look → e.answers ≡ [] → e.outcome ≡ evals.NoMemory → IsLeft look old new → a.standing ≡ standing_in old → b.standing ≡ standing_in new → b.faults ≡ a.faults
    → b.steps ≤ a.steps + 2 * renewal names a.standing t.entry.before → (look ≡ looks.NoMemory → b.steps ≡ a.steps)
    → Evaluates names held script moment a e b
evaluates_none names held script moment known a e b look old new t epoch none how l had has faults most refused = ⊎_elim
    (λ (is : look ≡ looks.NoMemory). unbegun (ran_not names held e.turn e.epoch known e.answers a b look old new t is epoch none l had has faults (refused is)) how)
    (λ (told : look ≢ looks.NoMemory). lost (ran_lost_early names held (λ entry. define_run names entry.before script moment) moment e.turn e.epoch known e.answers a b look old new t told epoch none l had has faults most) how)
    (look_or_none look)

pub runs_none : (names : List (List ℕ)) (held : Option PageMap) (due : DueScript) (known : ℕ) (a : At) (x : Ran) (b : At) (look : Look) (old new : Option Interp) (t : TellsLook a.passes x.turn known look b.passes)
    → x.id ≡ due.id → Ticks a.clock x.moment b.clock
    → x.epoch ≡ epoch_told known look → x.answers ≡ [] → x.outcome ≡ outcomes.NoMemory → IsLeft look old new → a.standing ≡ standing_in old → b.standing ≡ standing_in new → b.faults ≡ a.faults
    → b.steps ≤ a.steps + 2 * renewal names a.standing t.entry.before → (look ≡ looks.NoMemory → b.steps ≡ a.steps)
    → RunsDue names held due a x b
runs_none names held due known a x b look old new t id ticks epoch none how l had has faults most refused = ⊎_elim
    (λ (is : look ≡ looks.NoMemory). due_unbegun id ticks (ran_not names held x.turn x.epoch known x.answers a b look old new t is epoch none l had has faults (refused is)) how)
    (λ (told : look ≢ looks.NoMemory). due_lost id ticks (ran_lost_early names held (λ entry. script_run names entry.before due.script x.moment) x.moment x.turn x.epoch known x.answers a b look old new t told epoch none l had has faults most) how)
    (look_or_none look)
