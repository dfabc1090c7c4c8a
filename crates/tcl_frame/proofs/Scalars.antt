-- Scalars whose texts are changed in their places.
use Rattle.std.proofs.Common.{◌≡◌, is_some, ℕ, ◌-◌, ◌<◌, Bool, true, false, List, [], ◌∷◌, length, get_or, reverse, refl, sym, ap, subst, ◌∙◌, arith}
use Rattle.std.specs.Prelude.{Option, Some, None, IfSome, IfNone, position, if◌then◌else◌}
use Rattle.std.specs.Borrow.{MutBor}
use Rattle.std.specs.Option.{option_map, option_copied_mut}
use Rattle.std.specs.FinMap as map
use Rattle.std.proofs.lemmas.Bool.{true≢false}
use Rattle.tcl_frame.specs.declared.frame.Frame.{Frame}
use Rattle.tcl_frame.specs.declared.variable.Variable.{Variable}
use Rattle.tcl_frame.specs.declared.variable.Variable.TheVariants.{Scalar, Array}
use Rattle.tcl_frame.specs.Names.{Whole, is_opening, is_closed, named_at, named, variable_name}
use Rattle.tcl_frame.specs.Variables.{Table, with_value}
use Rattle.tcl_frame.specs.Meaning.{Value, whole, value_or_nothing}
use Rattle.tcl_frame.specs.Texts.{text_of_scalar}
use Rattle.tcl_frame.specs.Globals.{Globals}
use Rattle.tcl_frame.specs.Stack.{Stack, Kept}
use Rattle.tcl_frame.specs.Frames.{links_name, top_variables, with_top, table_of, with_table, found_in, written_to, written}
use Rattle.tcl_frame.proofs.Tables.{same_inserted}
use Rattle.tcl_frame.proofs.Tops.{last_first, depth_in}

-- ---- texts of scalars

-- the variable whose text there is
pub scalar_is : (text : Option (List ℕ)) (o : Option Variable) → text ≡ text_of_scalar o → IfSome text (λ t. o ≡ Some (Scalar t))
scalar_is None o e = tt
scalar_is (Some text) None e = absurd (true≢false (ap is_some e))
scalar_is (Some text) (Some (Scalar other)) e = ap (option_map Scalar) (sym e)
scalar_is (Some text) (Some (Array elements)) e = absurd (true≢false (ap is_some e))

-- what the name of a scalar finds
pub whole_is : (o : Option Variable) (text : List ℕ) → Some text ≡ text_of_scalar o → whole o ≡ Value text
whole_is None text e = absurd (true≢false (ap is_some e))
whole_is (Some (Scalar other)) text e = ap value_or_nothing (sym e)
whole_is (Some (Array elements)) text e = absurd (true≢false (ap is_some e))

-- one step further from what holds of a value that there may be
pub if_some : {A : Type 0} (o : Option A) (P Q : A → Type 0) → ((x : A) → P x → Q x) → IfSome o P → IfSome o Q
if_some None P Q f h = tt
if_some (Some x) P Q f h = f x h

-- there is none where nothing of it is lent
pub none_is : (o : Option (MutBor (List ℕ))) (text : Option (List ℕ)) → option_copied_mut o ≡ text → IfNone o (text ≡ None)
none_is None text e = sym e
none_is (Some place) text e = tt

-- one step further from what holds where there is none
pub if_none : {A : Type 0} (o : Option A) (X Y : Type 0) → (X → Y) → IfNone o X → IfNone o Y
if_none None X Y f h = f h
if_none (Some x) X Y f h = tt

-- ---- names that don't end in `)`

pub plain_name : (name : List ℕ) → is_closed name ≡ false → named name ≡ Whole name
plain_name name plain = ap (λ b. if b then named_at name (position is_opening name) else Whole name) plain

-- what such a name finds, where its variable is a scalar
pub plain_found : (stack : Stack) (name text : List ℕ) → is_closed name ≡ false → map.get (table_of stack name) name ≡ Some (Scalar text)
    → found_in stack (named name) ≡ Value text
plain_found stack name text plain is = ap (found_in stack) (plain_name name plain) ∙ ap whole is

-- the same by the text that was read
pub plain_read : (stack : Stack) (name text : List ℕ) → is_closed name ≡ false → Some text ≡ text_of_scalar (map.get (table_of stack name) name)
    → found_in stack (named name) ≡ Value text
plain_read stack name text plain is = ap (found_in stack) (plain_name name plain) ∙ whole_is (map.get (table_of stack name) name) text is

-- a write to such a name
pub plain_written : (stack : Stack) (name text : List ℕ) → is_closed name ≡ false
    → with_table stack name (map.insert (table_of stack name) name (Scalar text)) ≡ written stack name text
plain_written stack name text plain = sym (ap (λ n. written_to stack n text) (plain_name name plain))

-- ---- frames whose variables are left as they are

kept_by : (global : Table) (above : List Frame) (keeps : List Kept) (linked : Bool)
    → ◌≡◌ {A = Stack} (if linked then record { global = if linked then global else top_variables above; above = above; keeps = keeps }
    else record { global = global; above = with_top above (if linked then global else top_variables above); keeps = keeps })
    (record { global = global; above = above; keeps = keeps })
kept_by global above keeps true = refl
kept_by global [] keeps false = refl
kept_by global (frame ∷ rest) keeps false = refl

pub table_kept : (stack : Stack) (name : List ℕ) → with_table stack name (table_of stack name) ≡ stack
table_kept stack name = kept_by stack.global stack.above stack.keeps (links_name stack.above name)

-- a scalar's own text that is written changes nothing
pub plain_same : (stack : Stack) (name text : List ℕ) → is_closed name ≡ false → map.get (table_of stack name) name ≡ Some (Scalar text) → written stack name text ≡ stack
plain_same stack name text plain is =
    sym (plain_written stack name text plain)
    ∙ ap (with_table stack name) (same_inserted (table_of stack name) name (Scalar text) is)
    ∙ table_kept stack name

-- a write leaves as many frames as there were
pub written_deep : (stack : Stack) (name text : List ℕ) → length (written stack name text).above ≡ length stack.above
written_deep stack name text =
    depth_in stack.global stack.above stack.keeps (with_value (table_of stack (variable_name (named name))) (named name) text) (links_name stack.above (variable_name (named name)))

-- ---- global variables

linked_table : (global : Table) (above : List Frame) (keeps : List Kept) (name : List ℕ) (F : Table → Table) → links_name above name ≡ true
    → ◌≡◌ {A = Stack} (record { global = F global; above = above; keeps = keeps })
    (with_table (record { global = global; above = above; keeps = keeps }) name (F (table_of (record { global = global; above = above; keeps = keeps }) name)))
linked_table global above keeps name F linked =
    subst (λ b. ◌≡◌ {A = Stack} (record { global = F global; above = above; keeps = keeps })
    (if b then record { global = F (if b then global else top_variables above); above = above; keeps = keeps }
    else record { global = global; above = with_top above (F (if b then global else top_variables above)); keeps = keeps })) (sym linked) refl

-- a change of the global variables, where the topmost frame leaves the name to them
pub global_changed : (old new : Globals) (above : List Frame) (stack : Stack) (name : List ℕ) (F : Table → Table)
    → ◌≡◌ {A = Stack} (record { global = old.table; above = above; keeps = old.keeps }) stack → links_name above name ≡ true
    → new ≡ record old { table = F old.table }
    → ◌≡◌ {A = Stack} (record { global = new.table; above = above; keeps = new.keeps }) (with_table stack name (F (table_of stack name)))
global_changed old new above stack name F is linked change =
    ap (λ (g : Globals). record { global = g.table; above = above; keeps = g.keeps }) change
    ∙ linked_table old.table above old.keeps name F linked
    ∙ ap (λ s. with_table s name (F (table_of s name))) is

-- they are left as they were
pub global_kept : (old new : Globals) (above : List Frame) (stack : Stack)
    → ◌≡◌ {A = Stack} (record { global = old.table; above = above; keeps = old.keeps }) stack → new ≡ old
    → ◌≡◌ {A = Stack} (record { global = new.table; above = above; keeps = new.keeps }) stack
global_kept old new above stack is same = ap (λ (g : Globals). record { global = g.table; above = above; keeps = g.keeps }) same ∙ is

-- they are where the name is looked up
pub global_table : (old : Globals) (above : List Frame) (stack : Stack) (name : List ℕ)
    → ◌≡◌ {A = Stack} (record { global = old.table; above = above; keeps = old.keeps }) stack → links_name above name ≡ true
    → old.table ≡ table_of stack name
global_table old above stack name is linked =
    sym (ap (λ b. if b then old.table else top_variables above) linked) ∙ ap (λ s. table_of s name) is

-- ---- the topmost frame

-- whether it leaves a name to the global variables
pub top_links : (frames : List Frame) (n : ℕ) (frame : Frame) (name : List ℕ) → n ≡ length frames → 0 < n → frame ≡ get_or frames (n - 1) frame
    → links_name (reverse frames) name ≡ map.contains_key frame.links name
top_links frames n frame name len some there = ap (λ above. links_name above name) (last_first frames n frame len some there).1

-- where there is no frame, each name is left to them
pub empty_links : (frames : List Frame) (n : ℕ) (name : List ℕ) → n ≡ length frames → (0 < n → ⊥) → links_name (reverse frames) name ≡ true
empty_links [] n name len none = refl
empty_links (frame ∷ frames) n name len none = absurd (none (omega (arith, len)))
