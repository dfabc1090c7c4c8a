-- What is known of the names that were looked up lately.
use Rattle.std.proofs.Common.{◌≡◌, ◌≢◌, ◌⊎◌, inl, inr, ⊎_elim, ℕ, Bool, true, false, cond, List, [], Option, Some, None, Result, Ok, Err, refl, sym, ap, ◌∙◌, subst}
use Rattle.std.specs.Prelude.{◌↔◌, IsTrue, OnOk, OnErr}
use Rattle.std.specs.Str.{bytes_eq}
use Rattle.std.proofs.lemmas.Bool.{cases_eq}
use Rattle.std.proofs.lemmas.Slice.Eq.{bytes_eq-Decides}
use Rattle.natives.specs.Hints.{hint_place}
use Rattle.natives.specs.Places.{item_at, HaveSameItems, IsSetAt}
use Rattle.cmd_table.specs.declared.latest.Looked.{Looked}
use Rattle.cmd_table.specs.declared.command.Cmd.{Cmd}
use Rattle.cmd_table.specs.declared.command.Cmd.TheVariants as commands
use Rattle.cmd_table.specs.Table.{Table, IsInOrder, command_of}
use Rattle.cmd_table.specs.Slots.{with_option}
use Rattle.cmd_table.specs.Latest.{IsTrueOf, AreLatest, IsSameBut}
use Rattle.cmd_table.proofs.Maps.{putting, removing}

-- where nothing is kept, nothing false is
pub none_latest : (table : Table) (places : List (Option Looked)) → places ≡ [] → AreLatest table places
none_latest table places is = λ looked there. let none : item_at [] (hint_place looked.name) ≡ Some looked = subst (λ (xs : List (Option Looked)). item_at xs (hint_place looked.name) ≡ Some looked) is there in absurd (cc)

-- what is found at the place of this name, and is of it
pub stands_for : (table : Table) (places : List (Option Looked)) (looked found : Looked) (name bytes : List ℕ) → AreLatest table places → Some looked ≡ item_at places (hint_place bytes) → bytes ≡ name → looked.name ≡ name → found ≡ looked
    → IsTrueOf (command_of table name) name found
stands_for table places looked found name bytes all there is named same =
    let here : item_at places (hint_place looked.name) ≡ Some looked = ap (λ (n : List ℕ). item_at places (hint_place n)) (named ∙ sym is) ∙ sym there in
    let known : IsTrueOf (command_of table name) name looked = subst (λ (n : List ℕ). IsTrueOf (command_of table n) n looked) named (all looked here) in
    subst (λ (l : Looked). IsTrueOf (command_of table name) name l) (sym same) known

-- the names are kept that were kept
same_latest : (table : Table) (before now : List (Option Looked)) → AreLatest table before → HaveSameItems before now → AreLatest table now
same_latest table before now all same = λ each there. all each (sym (same (hint_place each.name)) ∙ there)

-- behind a write to the place of a name, what is kept is what was written there, or is of another name and was kept before
set_latest : (before now : List (Option Looked)) (place : ℕ) (put : Option Looked) (each : Looked) → IsSetAt before place put now → item_at now (hint_place each.name) ≡ Some each
    → (put ≡ Some each) ⊎ ((hint_place each.name ≢ place) × (item_at before (hint_place each.name) ≡ Some each))
set_latest before now place put each set there =
    ⊎_elim (λ (same : hint_place each.name ≡ place). inl (sym set.0 ∙ (ap (item_at now) (sym same) ∙ there)))
    (λ (other : hint_place each.name ≢ place). inr (other, sym (set.1 (hint_place each.name) other) ∙ there))
    (cases_eq (hint_place each.name) place)

-- a name is put at its place with what it stands for
put_latest : (table : Table) (before now : List (Option Looked)) (name bytes : List ℕ) (found : Option Cmd) (looked : Looked)
    → command_of table name ≡ found → AreLatest table before → IsSetAt before (hint_place bytes) (Some looked) now → looked.name ≡ name → IsTrueOf found name looked
    → AreLatest table now
put_latest table before now name bytes found looked is all put named known =
    let holds : IsTrueOf (command_of table looked.name) looked.name looked =
    subst (λ (n : List ℕ). IsTrueOf (command_of table n) n looked) (sym named) (subst (λ (f : Option Cmd). IsTrueOf f name looked) (sym is) known) in
    λ each there.
    ⊎_elim
    (λ (same : Some looked ≡ Some each). let is_each : looked ≡ each = cc in subst (λ (l : Looked). IsTrueOf (command_of table l.name) l.name l) is_each holds)
    (λ (apart : (hint_place each.name ≢ hint_place bytes) × (item_at before (hint_place each.name) ≡ Some each)). all each apart.1)
    (set_latest before now (hint_place bytes) (Some looked) each put there)

-- a name is put at its place, or all is kept
pub put_or_kept : {A B : Type 0} (result : Result A B) (table : Table) (before now : List (Option Looked)) (name bytes : List ℕ) (found : Option Cmd) (looked : Looked)
    → command_of table name ≡ found → AreLatest table before → OnOk result (IsSetAt before (hint_place bytes) (Some looked) now) → OnErr result (HaveSameItems before now) → looked.name ≡ name → IsTrueOf found name looked
    → AreLatest table now
put_or_kept (Ok done) table before now name bytes found looked is all put kept named known = put_latest table before now name bytes found looked is all put named known
put_or_kept (Err failed) table before now name bytes found looked is all put kept named known = same_latest table before now all kept

-- the place of a name is empty, which alone stands for something else
pub forgotten : (before after : Table) (places now : List (Option Looked)) (name bytes : List ℕ)
    → IsSameBut name before after → AreLatest before places → IsSetAt places (hint_place bytes) None now → bytes ≡ name
    → AreLatest after now
forgotten before after places now name bytes same all put read =
    λ each there.
    ⊎_elim
    (λ (none : None ≡ Some each). absurd (cc))
    (λ (apart : (hint_place each.name ≢ hint_place bytes) × (item_at places (hint_place each.name) ≡ Some each)).
    subst (λ (f : Option Cmd). IsTrueOf f each.name each) (sym (same each.name (λ (e : each.name ≡ name). apart.0 (ap hint_place (e ∙ sym read))))) (all each apart.1))
    (set_latest places now (hint_place bytes) None each put there)

-- ---- a change of one name

apart_names : (name other : List ℕ) (b : Bool) → bytes_eq name other ≡ b → (other ≡ name → ⊥) → b ≡ false
apart_names name other true is apart = absurd (apart (sym ((bytes_eq-Decides name other).0 is)))
apart_names name other false is apart = refl

-- a change of a name leaves all others
pub others_stay : (table : Table) (name : List ℕ) (cmd : Option Cmd) (other : List ℕ) → IsInOrder table → (other ≡ name → ⊥) → command_of (with_option table name cmd) other ≡ command_of table other
others_stay table name None other s apart = removing table name other s ∙ ap (λ (b : Bool). cond b None (command_of table other)) (apart_names name other (bytes_eq name other) refl apart)
others_stay table name (Some cmd) other s apart = putting table name other cmd ∙ ap (λ (b : Bool). cond b (Some cmd) (command_of table other)) (apart_names name other (bytes_eq name other) refl apart)

-- whether a built-in is that of this very name
pub own_name : (own name : List ℕ) → IsTrue (bytes_eq own name) ↔ (Some (commands.Built own) ≡ Some (commands.Built name))
own_name own name = (
  λ e. ap (λ (n : List ℕ). Some (commands.Built n)) ((bytes_eq-Decides own name).0 e),
  λ is. let same : own ≡ name = cc in (bytes_eq-Decides own name).1 same,
)
