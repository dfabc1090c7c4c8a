-- What a look tells makes an interpreter one of the blueprint that it found.
use Rattle.std.proofs.Common.{◌≡◌, ◌≢◌, ◌⊎◌, inl, inr, ℕ, ◌+◌, ◌*◌, ◌<◌, ◌≤◌, Bool, true, false, List, ◌++◌, [], length, Option, None, Some, Result, Ok, Err, IfOk, OnOk, OnErr, refl, sym, ap, ◌∙◌, subst, arith}
use Rattle.cmd_table.specs.declared.definition.Def.{Def}
use Rattle.cmd_table.specs.Table.{Table}
use Rattle.cmd_table.specs.Laws.{CommandsAreInOrder, BuiltInsAreThere}
use Rattle.cmd_table.specs.Commands.{Commands, Writes, built, built_ins}
use Rattle.blueprint.specs.States as blueprints
use Rattle.blueprint.specs.States.{definitions, first_misfit}
use Rattle.blueprint.specs.Looking.{look_answer, Looks as Answers}
use Rattle.blueprint.specs.declared.reply.Look.{Look}
use Rattle.blueprint.specs.declared.reply.Look.TheVariants as looks
use Rattle.blueprint.specs.Laws.{SameIsUnchanged, SinceIsAdded, SinceApplies}
use Rattle.server_host.specs.Hosts.{added, HostState}
use Rattle.server_host.specs.declared.edition.Edition.{Edition}
use Rattle.tcl_eval.specs.State.{State}
use Rattle.ictl.specs.Fresh.{writes_in, build_steps}
use Rattle.ictl.specs.Interps.{IsNew}
use Rattle.ictl.specs.Laws.{DefinitionsWrite}
use Rattle.ictl.specs.declared.interp.Interp.{Interp}
use Rattle.shared_state.specs.Cells.{HaveSameNames}
use Rattle.worker.specs.Runs.{edition_of}
use Rattle.worker.specs.Clean.{Standing, edition_in, standing_in}
use Rattle.worker.specs.Cost.{Build, renewal, renewal_of, renewal_by}
use Rattle.ictl.specs.Renewing.{MayAdd, MayRenew, Adds, Renews, renewal_steps}
use Rattle.worker.specs.Renewing.{no_epoch, epoch_unmarked, known_epoch, Follows, AreNew, IsRenewedBy, IsOf, IsLeft}
use Rattle.worker.proofs.Tables.{same_built, same_commands}
use Rattle.worker.proofs.Looking.{since_told, whole_told}

-- what is known of tables of commands, of blueprints and of interpreters
pub record Laws : Type 0 where
  pub order : CommandsAreInOrder
  pub there : BuiltInsAreThere
  pub unchanged : SameIsUnchanged
  pub added : SinceIsAdded
  pub applies : SinceApplies
  pub writes : DefinitionsWrite

abbrev mark_of : Interp → Bool
mark_of interp = interp.settling.run.engine.host.marked

-- one that isn't marked names its own epoch, and that is the epoch of the state that it is of
own_epoch : (names : List (List ℕ)) (interp : Interp) (state : blueprints.State) (look : Look) → (r : IsRenewedBy names (Some interp) state look) → mark_of interp ≡ false → Answers state r.follows.0.epoch look
own_epoch names interp state look r free =
    subst (λ (epoch : ℕ). Answers state epoch look) (ap (λ (e : Edition). e.epoch) r.follows.3)
    (subst (λ (b : Bool). Answers state (epoch_unmarked (record { edition = edition_in interp; marked = mark_of interp }) b) look) free r.tells)

-- ---- as it is

same_is_of : (laws : Laws) (names : List (List ℕ)) (interp : Interp) (state : blueprints.State) → IsRenewedBy names (Some interp) state looks.Same → mark_of interp ≡ false → IsOf names state interp
same_is_of laws names interp state r free =
    (r.are_new, r.follows.3 ∙ ap (λ (s : blueprints.State). edition_of s) (laws.unchanged r.follows.0 state r.follows.1 r.allows r.follows.2 (own_epoch names interp state looks.Same r free)), free)

-- ---- with what was added

-- what was added is told of an epoch below the last one: to one that isn't marked
since_free : (names : List (List ℕ)) (interp : Interp) (state : blueprints.State) (epoch : ℕ) (defs : List Def) (b : Bool) → mark_of interp ≡ b → IsRenewedBy names (Some interp) state (looks.Since epoch defs) → mark_of interp ≡ false
since_free names interp state epoch defs false is r = is
since_free names interp state epoch defs true is r =
    let t : Answers state no_epoch (looks.Since epoch defs) = subst (λ (b : Bool). Answers state (epoch_unmarked (record { edition = edition_in interp; marked = mark_of interp }) b) (looks.Since epoch defs)) is r.tells in
    let lt = (since_told state no_epoch epoch defs t).0 in let top = r.allows.last in absurd (omega (arith, lt, top))

since_none : (names : List (List ℕ)) (state : blueprints.State) (epoch : ℕ) (defs : List Def) → IsRenewedBy names None state (looks.Since epoch defs) → ⊥
since_none names state epoch defs r =
    let lt = (since_told state no_epoch epoch defs r.tells).0 in let top = r.allows.last in omega (arith, lt, top)

-- the commands of one that is as newly made
own_table : (names : List (List ℕ)) (interp : Interp) → IsNew names interp → interp.settling.run.engine.table.table ≡ Commands names (edition_in interp).defs
own_table names interp new = ap (λ (s : State HostState). s.commands) new.1.state

since_fits : (laws : Laws) (names : List (List ℕ)) (interp : Interp) (state : blueprints.State) (epoch : ℕ) (defs : List Def) → (r : IsRenewedBy names (Some interp) state (looks.Since epoch defs)) → mark_of interp ≡ false → first_misfit interp.settling.run.engine.table.table defs ≡ None
since_fits laws names interp state epoch defs r free =
    let old = r.follows.0 in
    let table : interp.settling.run.engine.table.table ≡ Commands state.natives (definitions old) =
    own_table names interp r.are_new ∙ (ap (λ (e : Edition). Commands names e.defs) r.follows.3 ∙ same_commands laws.order laws.there names state.natives (definitions old) r.natives) in
    ap (λ (t : Table). first_misfit t defs) table ∙ laws.applies old state r.follows.1 r.allows r.follows.2 epoch defs (own_epoch names interp state (looks.Since epoch defs) r free)

may_add : (laws : Laws) (names : List (List ℕ)) (old : Option Interp) (state : blueprints.State) (epoch : ℕ) (defs : List Def) → IsRenewedBy names old state (looks.Since epoch defs) → MayAdd old defs
may_add laws names None state epoch defs r = tt
may_add laws names (Some interp) state epoch defs r = ((names, r.are_new), since_fits laws names interp state epoch defs r (since_free names interp state epoch defs (mark_of interp) refl r))

added_is_of : (laws : Laws) (names : List (List ℕ)) (old : Option Interp) (state : blueprints.State) (epoch : ℕ) (defs : List Def) (new : Interp) → IsRenewedBy names old state (looks.Since epoch defs) → Adds old epoch defs new → IsOf names state new
added_is_of laws names None state epoch defs new r a = absurd a
added_is_of laws names (Some interp) state epoch defs new r a =
    let free = since_free names interp state epoch defs (mark_of interp) refl r in
    let told = laws.added r.follows.0 state r.follows.1 r.allows r.follows.2 epoch defs (own_epoch names interp state (looks.Since epoch defs) r free) in (
      a.0 names r.are_new,
      a.1 ∙ (ap (λ (e : Edition). added e epoch defs) r.follows.3 ∙ (λ i. record { epoch = told.0 i; defs = sym told.1 i })),
      a.2 ∙ free,
    )

renewal_since : (names : List (List ℕ)) (interp : Interp) (state : blueprints.State) (epoch : ℕ) (defs : List Def) → (r : IsRenewedBy names (Some interp) state (looks.Since epoch defs)) → mark_of interp ≡ false → renewal names (standing_in (Some interp)) state ≡ Writes defs
renewal_since names interp state epoch defs r free =
    let standing : Standing = record { edition = edition_in interp; marked = mark_of interp } in
    let t : Answers state (edition_in interp).epoch (looks.Since epoch defs) = subst (λ (b : Bool). Answers state (epoch_unmarked standing b) (looks.Since epoch defs)) free r.tells in
    ap (λ (b : Bool). renewal_of names state standing b) free ∙ ap (λ (l : Look). renewal_by names state l) (sym t)

-- what it costs
added_costs : (names : List (List ℕ)) (old : Option Interp) (state : blueprints.State) (epoch : ℕ) (defs : List Def) → IsRenewedBy names old state (looks.Since epoch defs) → Writes defs ≡ renewal names (standing_in old) state
added_costs names None state epoch defs r = absurd (since_none names state epoch defs r)
added_costs names (Some interp) state epoch defs r = sym (renewal_since names interp state epoch defs r (since_free names interp state epoch defs (mark_of interp) refl r))

-- ---- built anew

-- what is told whole is built: there was none, or it is marked, or its epoch is behind a save
renewal_whole : (names : List (List ℕ)) (state : blueprints.State) (epoch : ℕ) (defs : List Def) (standing : Standing) (b : Bool) → Answers state (epoch_unmarked standing b) (looks.Whole epoch defs) → renewal_of names state standing b ≡ Build names state
renewal_whole names state epoch defs standing true t = refl
renewal_whole names state epoch defs standing false t = ap (λ (l : Look). renewal_by names state l) (sym t)

renewal_built : (names : List (List ℕ)) (old : Option Interp) (state : blueprints.State) (epoch : ℕ) (defs : List Def) → IsRenewedBy names old state (looks.Whole epoch defs) → renewal names (standing_in old) state ≡ Build names state
renewal_built names None state epoch defs r = refl
renewal_built names (Some interp) state epoch defs r = renewal_whole names state epoch defs (record { edition = edition_in interp; marked = mark_of interp }) (mark_of interp) r.tells

-- all that it writes is counted in `Build`
build_counts : (laws : Laws) (names : List (List ℕ)) (state : blueprints.State) (defs : List Def) → blueprints.Allowed state → HaveSameNames names state.natives → defs ≡ definitions state → build_steps names defs ≡ Build names state
build_counts laws names state defs allows natives is =
    let fits : first_misfit (built names) defs ≡ None = ap (λ (t : Table). first_misfit t defs) (same_built laws.order laws.there names state.natives natives) ∙ (ap (λ (ds : List Def). first_misfit (built state.natives) ds) is ∙ allows.applies) in
    ap (λ (n : ℕ). length built_ins + length names + n) (laws.writes (built names) defs fits ∙ ap Writes is)

built_is_of : (names : List (List ℕ)) (old : Option Interp) (state : blueprints.State) (epoch : ℕ) (defs : List Def) (new : Interp) → IsRenewedBy names old state (looks.Whole epoch defs)
    → IsNew names new → edition_in new ≡ record { epoch = epoch; defs = defs } → mark_of new ≡ false → IsOf names state new
built_is_of names old state epoch defs new r is at free =
    let told = whole_told state (known_epoch (standing_in old)) epoch defs r.tells in
    (is, at ∙ (λ i. record { epoch = told.0 i; defs = told.1 i }), free)

built_costs : (laws : Laws) (names : List (List ℕ)) (old : Option Interp) (state : blueprints.State) (epoch : ℕ) (defs : List Def) → IsRenewedBy names old state (looks.Whole epoch defs) → build_steps names defs ≡ renewal names (standing_in old) state
built_costs laws names old state epoch defs r =
    let told = whole_told state (known_epoch (standing_in old)) epoch defs r.tells in
    build_counts laws names state defs r.allows r.natives told.1 ∙ sym (renewal_built names old state epoch defs r)

-- ---- results

pub ok_any : {A E P : Type 0} (result : Result A E) → P → OnOk result P
ok_any (Ok x) p = p
ok_any (Err e) p = tt

pub err_any : {A E P : Type 0} (result : Result A E) → P → OnErr result P
err_any (Ok x) p = tt
err_any (Err e) p = p

-- what was made by what a look told is of the state that it found
renewed_is_of : (laws : Laws) (names : List (List ℕ)) (old : Option Interp) (state : blueprints.State) (look : Look) (new : Interp) → IsRenewedBy names old state look → Renews names old look new → IsOf names state new
renewed_is_of laws names old state looks.Same new r h = same_is_of laws names new state (subst (λ (o : Option Interp). IsRenewedBy names o state looks.Same) h.0 r) h.1
renewed_is_of laws names old state (looks.Since epoch defs) new r h = added_is_of laws names old state epoch defs new r h
renewed_is_of laws names old state (looks.Whole epoch defs) new r h = built_is_of names old state epoch defs new r h.0 h.1 h.2
renewed_is_of laws names old state looks.NoMemory new r h = absurd h

pub renewed_ok : {E : Type 0} (result : Result Interp E) (laws : Laws) (names : List (List ℕ)) (kept old : Option Interp) (state : blueprints.State) (look : Look) → kept ≡ old → IsRenewedBy names old state look
    → IfOk result (λ made. Renews names kept look made) → IfOk result (λ made. IsOf names state made)
renewed_ok (Ok made) laws names kept old state look is r h = renewed_is_of laws names old state look made r (subst (λ (o : Option Interp). Renews names o look made) is h)
renewed_ok (Err e) laws names kept old state look is r h = tt

-- it may be put to the interpreter that there is
pub may_renew : (laws : Laws) (names : List (List ℕ)) (kept old : Option Interp) (state : blueprints.State) (look : Look) → kept ≡ old → IsRenewedBy names old state look → MayRenew kept look
may_renew laws names kept old state looks.Same is r = tt
may_renew laws names kept old state (looks.Since epoch defs) is r = subst (λ (o : Option Interp). MayAdd o defs) (sym is) (may_add laws names old state epoch defs r)
may_renew laws names kept old state (looks.Whole epoch defs) is r = tt
may_renew laws names kept old state looks.NoMemory is r = tt

-- what it costs
renewal_is : (laws : Laws) (names : List (List ℕ)) (old : Option Interp) (state : blueprints.State) (look : Look) → IsRenewedBy names old state look → renewal_steps names look ≤ renewal names (standing_in old) state
renewal_is laws names old state looks.Same r = omega arith
renewal_is laws names old state (looks.Since epoch defs) r = let is = added_costs names old state epoch defs r in omega (arith, is)
renewal_is laws names old state (looks.Whole epoch defs) r = let is = built_costs laws names old state epoch defs r in omega (arith, is)
renewal_is laws names old state looks.NoMemory r = omega arith

pub renewed_most : (laws : Laws) (names : List (List ℕ)) (old : Option Interp) (state : blueprints.State) (look : Look) (before after : ℕ) → IsRenewedBy names old state look
    → after ≤ before + 2 * renewal_steps names look → after ≤ before + 2 * renewal names (standing_in old) state
renewed_most laws names old state look before after r le =
    let n = renewal_steps names look in let m = renewal names (standing_in old) state in let h : n ≤ m = renewal_is laws names old state look r in omega (arith, le, h)

pub renewed_costs : {A E : Type 0} (result : Result A E) (laws : Laws) (names : List (List ℕ)) (old : Option Interp) (state : blueprints.State) (look : Look) (before after : ℕ) → IsRenewedBy names old state look
    → OnOk result (after ≡ before + renewal_steps names look) → OnOk result (after ≤ before + renewal names (standing_in old) state)
renewed_costs (Ok x) laws names old state look before after r is =
    let n = renewal_steps names look in let m = renewal names (standing_in old) state in let h : n ≤ m = renewal_is laws names old state look r in omega (arith, is, h)
renewed_costs (Err e) laws names old state look before after r is = tt

-- what is left of one that was let go
pub left_none : (look : Look) (old : Option Interp) → look ≢ looks.NoMemory → IsLeft look old None
left_none looks.Same old told = inr refl
left_none (looks.Since epoch defs) old told = inr refl
left_none (looks.Whole epoch defs) old told = inr refl
left_none looks.NoMemory old told = absurd (told refl)
