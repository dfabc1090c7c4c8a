-- Interpreters that are kept.
use Rattle.std.proofs.Common.{◌≡◌, ℕ, inl, inr, List, ◌++◌, Option, Some, None, sym, subst, ap, ◌∙◌}
use Rattle.std.specs.Prelude.{Result, Ok, Err, IfOk}
use Rattle.cmd_table.specs.Commands.{Commands}
use Rattle.cmd_table.specs.Table.{Table}
use Rattle.cmd_table.specs.declared.definition.Def.{Def}
use Rattle.blueprint.specs.Laws.{SameIsUnchanged, SinceIsAdded, SinceApplies, WholeIsAll}
use Rattle.blueprint.specs.Looking.{Looks}
use Rattle.blueprint.specs.Objects.{Reaches}
use Rattle.blueprint.specs.Order.{reaches_self}
use Rattle.blueprint.specs.States.{State, Allowed, definitions, first_misfit}
use Rattle.blueprint.specs.declared.reply.Look.{Look}
use Rattle.blueprint.specs.declared.reply.Look.TheVariants.{Same, Since, Whole, NoMemory}
use Rattle.server_host.specs.Hosts.{HostState, added}
use Rattle.server_host.specs.declared.edition.Edition.{Edition}
use Rattle.tcl_eval.specs.State as evaluation
use Rattle.ictl.specs.Interps.{IsNew}
use Rattle.ictl.specs.Renewing.{MayRenew, Renews}
use Rattle.ictl.specs.declared.interp.Interp.{Interp}
use Rattle.rehearse.specs.declared.keeper.Keeper.{Keeper}
use Rattle.rehearse.specs.Objects.{edition_of}
use Rattle.rehearse.specs.Playing.{IsOn, KeepsOn, IsRenewed}

-- an edition, by its parts
edition_is : (made : Edition) (epoch : ℕ) (defs : List Def) (now : State) → made ≡ record { epoch = epoch; defs = defs } → epoch ≡ now.epoch → defs ≡ definitions now → made ≡ edition_of now
edition_is made epoch defs now is e d =
    is
    ∙ ap (λ (n : ℕ). let x : Edition = record { epoch = n; defs = defs } in x) e
    ∙ ap (λ (l : List Def). let x : Edition = record { epoch = now.epoch; defs = l } in x) d

-- one on the blueprint of now
on_now : (names : List (List ℕ)) (now : State) (made : Interp) → Allowed now → now.natives ≡ names → made.blueprint.value ≡ edition_of now → IsOn names now made
on_now names now made ok same is = record {
  earlier = now;
  allowed = ok;
  names = same;
  reaches = reaches_self now;
  blueprint = is;
}

pub renewed : (names : List (List ℕ)) (now : State) (made : Interp) (epoch : ℕ) (defs : List Def) → Allowed now → now.natives ≡ names → IsNew names made
    → made.blueprint.value ≡ record { epoch = epoch; defs = defs } → epoch ≡ now.epoch → defs ≡ definitions now → IsRenewed names now made
renewed names now made epoch defs ok same new is e d =
    let edition : made.blueprint.value ≡ edition_of now = edition_is made.blueprint.value epoch defs now is e d in
    (new, edition, on_now names now made ok same edition)

-- the same of what a call made
pub made_renewed : {E : Type 0} (names : List (List ℕ)) (now : State) (result : Result Interp E) (epoch : ℕ) (defs : List Def) → Allowed now → now.natives ≡ names
    → epoch ≡ now.epoch → defs ≡ definitions now
    → IfOk result (λ made. IsNew names made) → IfOk result (λ made. made.blueprint.value ≡ record { epoch = epoch; defs = defs }) → IfOk result (λ made. IsRenewed names now made)
made_renewed names now (Ok made) epoch defs ok same e d new is = renewed names now made epoch defs ok same new is e d
made_renewed names now (Err want) epoch defs ok same e d new is = tt

names_now : (names : List (List ℕ)) (now : State) (interp : Interp) → IsOn names now interp → now.natives ≡ names
names_now names now interp on = later on.earlier on.reaches on.names
  where
    later : (earlier : State) → Reaches earlier now → earlier.natives ≡ names → now.natives ≡ names
    later earlier (inl same) is = ap (λ (s : State). s.natives) (sym same) ∙ is
    later earlier (inr h) is = sym h.0 ∙ is

-- the epoch of an interpreter is that of the blueprint from which it was made
seen_epoch : (names : List (List ℕ)) (now : State) (interp : Interp) (on : IsOn names now interp) → interp.blueprint.value.epoch ≡ on.earlier.epoch
seen_epoch names now interp on = ap (λ (b : Edition). b.epoch) on.blueprint

seen_defs : (names : List (List ℕ)) (now : State) (interp : Interp) (on : IsOn names now interp) → interp.blueprint.value.defs ≡ definitions on.earlier
seen_defs names now interp on = ap (λ (b : Edition). b.defs) on.blueprint

-- nothing is new
stays_new : SameIsUnchanged → (names : List (List ℕ)) (now : State) (interp : Interp) (epoch : ℕ) → Allowed now → IsOn names now interp → IsNew names interp
    → epoch ≡ interp.blueprint.value.epoch → Looks now epoch Same → IsRenewed names now interp
stays_new unchanged names now interp epoch ok on new epoch_is looks =
    let here : Looks now on.earlier.epoch Same = subst (λ (n : ℕ). Looks now n Same) (epoch_is ∙ seen_epoch names now interp on) looks in
    let same : on.earlier ≡ now = unchanged on.earlier now on.allowed ok on.reaches here in
    let edition : interp.blueprint.value ≡ edition_of now = on.blueprint ∙ ap edition_of same in
    (new, edition, on_now names now interp ok (names_now names now interp on) edition)

-- what was added applies behind the commands of the interpreter
adds_fit : SinceApplies → (names : List (List ℕ)) (now : State) (interp : Interp) (seen epoch : ℕ) (defs : List Def) → Allowed now → IsOn names now interp → IsNew names interp
    → seen ≡ interp.blueprint.value.epoch → Looks now seen (Since epoch defs) → first_misfit interp.settling.run.engine.table.table defs ≡ None
adds_fit applies names now interp seen epoch defs ok on new seen_is looks =
    let here : Looks now on.earlier.epoch (Since epoch defs) = subst (λ (n : ℕ). Looks now n (Since epoch defs)) (seen_is ∙ seen_epoch names now interp on) looks in
    let fits : first_misfit (Commands now.natives (definitions on.earlier)) defs ≡ None = applies on.earlier now on.allowed ok on.reaches epoch defs here in
    let commands : interp.settling.run.engine.table.table ≡ Commands names interp.blueprint.value.defs =
    ap (λ (s : evaluation.State HostState). s.commands) new.1.state in
    let table : interp.settling.run.engine.table.table ≡ Commands now.natives (definitions on.earlier) =
    commands
    ∙ ap (λ (d : List Def). Commands names d) (seen_defs names now interp on)
    ∙ ap (λ (n : List (List ℕ)). Commands n (definitions on.earlier)) (sym (names_now names now interp on)) in
    ap (λ (t : Table). first_misfit t defs) table ∙ fits

-- what was added was taken
added_new : SinceIsAdded → (names : List (List ℕ)) (now : State) (interp after : Interp) (seen epoch : ℕ) (defs : List Def) → Allowed now → IsOn names now interp → IsNew names after
    → seen ≡ interp.blueprint.value.epoch → Looks now seen (Since epoch defs) → after.blueprint.value ≡ added interp.blueprint.value epoch defs → IsRenewed names now after
added_new adds names now interp after seen epoch defs ok on new seen_is looks is =
    let here : Looks now on.earlier.epoch (Since epoch defs) = subst (λ (n : ℕ). Looks now n (Since epoch defs)) (seen_is ∙ seen_epoch names now interp on) looks in
    let all : (epoch ≡ now.epoch) × (definitions now ≡ definitions on.earlier ++ defs) = adds on.earlier now on.allowed ok on.reaches epoch defs here in
    renewed names now after epoch (interp.blueprint.value.defs ++ defs) ok (names_now names now interp on) new is all.0
    (ap (λ (d : List Def). d ++ defs) (seen_defs names now interp on) ∙ sym all.1)

-- what a look told may be put to the interpreter
pub may_renew : SinceApplies → (names : List (List ℕ)) (now : State) (interp : Interp) (seen : ℕ) (look : Look) → Allowed now → IsOn names now interp → IsNew names interp
    → seen ≡ interp.blueprint.value.epoch → Looks now seen look → MayRenew (Some interp) look
may_renew applies names now interp seen Same ok on new seen_is looks = tt
may_renew applies names now interp seen (Since epoch defs) ok on new seen_is looks = ((names, new), adds_fit applies names now interp seen epoch defs ok on new seen_is looks)
may_renew applies names now interp seen (Whole epoch defs) ok on new seen_is looks = tt
may_renew applies names now interp seen NoMemory ok on new seen_is looks = tt

-- what is made of it by that is on the blueprint of now
module _ (unchanged : SameIsUnchanged) (adds : SinceIsAdded) (whole : WholeIsAll) (names : List (List ℕ)) (now : State) (interp : Interp) (seen : ℕ) (ok : Allowed now) (on : IsOn names now interp) (new : IsNew names interp)
    (seen_is : seen ≡ interp.blueprint.value.epoch) where
  renews : (look : Look) (made : Interp) → Looks now seen look → Renews names (Some interp) look made → IsRenewed names now made
  renews Same made looks h = let same : interp ≡ made = let e = h.0 in cc in subst (λ (i : Interp). IsRenewed names now i) same (stays_new unchanged names now interp seen ok on new seen_is looks)
  renews (Since epoch defs) made looks h = added_new adds names now interp made seen epoch defs ok on (h.0 names new) seen_is looks h.1
  renews (Whole epoch defs) made looks h =
      let all = whole now ok seen epoch defs looks in
      renewed names now made epoch defs ok (names_now names now interp on) h.0 h.1 all.0 all.1
  renews NoMemory made looks h = absurd h

  pub all_renewed : {E : Type 0} (result : Result Interp E) (look : Look) → Looks now seen look → IfOk result (λ made. Renews names (Some interp) look made) → IfOk result (λ made. IsRenewed names now made)
  all_renewed (Ok made) look looks h = renews look made looks h
  all_renewed (Err want) look looks h = tt

-- ---- what is kept

kept_by : (names : List (List ℕ)) (now : State) (kept : Option Interp) (interp : Interp) → kept ≡ Some interp → KeepsOn names now (record { interp = kept }) → IsNew names interp × IsOn names now interp
kept_by names now None interp is h = absurd (cc)
kept_by names now (Some other) interp is h =
    let same : other ≡ interp = cc in
    subst (λ (i : Interp). IsNew names i × IsOn names now i) same h.1

pub kept : (names : List (List ℕ)) (now : State) (keeper : Keeper) (interp : Interp) → keeper.interp ≡ Some interp → KeepsOn names now keeper → IsNew names interp × IsOn names now interp
kept names now keeper interp is h = kept_by names now keeper.interp interp is h

pub keeps_none : (names : List (List ℕ)) (now : State) (keeper : Keeper) → keeper.interp ≡ None → now.natives ≡ names → KeepsOn names now keeper
keeps_none names now keeper is same =
    subst (λ (o : Option Interp). KeepsOn names now (record { interp = o })) (sym is) (same, tt)

pub keeps_some : (names : List (List ℕ)) (now : State) (keeper : Keeper) (interp : Interp) → keeper.interp ≡ Some interp → now.natives ≡ names → IsNew names interp → IsOn names now interp → KeepsOn names now keeper
keeps_some names now keeper interp is same new on =
    subst (λ (o : Option Interp). KeepsOn names now (record { interp = o })) (sym is) (same, (new, on))

-- the one that was reset
pub reset_on : (names : List (List ℕ)) (now : State) (interp after : Interp) → after.blueprint.value ≡ interp.blueprint.value → IsOn names now interp → IsOn names now after
reset_on names now interp after same on = record {
  earlier = on.earlier;
  allowed = on.allowed;
  names = on.names;
  reaches = on.reaches;
  blueprint = same ∙ on.blueprint;
}
