-- What a change of the topmost frame makes of all frames.
use Rattle.std.proofs.Common.{◌≡◌, is_some, ℕ, suc, zero, ◌+◌, ◌-◌, ◌<◌, Bool, true, false, List, [], ◌∷◌, ◌++◌, length, get_or, set, reverse, refl, sym, ap, subst, ◌∙◌, arith}
use Rattle.std.specs.Prelude.{Option, Some, None, position, if◌then◌else◌}
use Rattle.std.specs.Ordering.{nat_cmp}
use Rattle.std.specs.Cmp.Lexicographic.{slice_cmp}
use Rattle.std.specs.FinMap as map
use Rattle.std.proofs.Math.Seq.{set-append_seam}
use Rattle.std.proofs.lemmas.Bool.{true≢false}
use Rattle.std.proofs.lemmas.List.{reverse-append}
use Rattle.tcl_frame.specs.declared.frame.Frame.{Frame}
use Rattle.tcl_frame.specs.Variables.{Table}
use Rattle.tcl_frame.specs.Stack.{Stack, Kept}
use Rattle.tcl_frame.specs.Names.{Whole, is_opening, is_closed, named_at, named, variable_name, is_element}
use Rattle.tcl_frame.specs.Frames.{links_name, with_top, table_of, with_table, linked, unlinked}
use Rattle.tcl_frame.specs.OwnLending.{own_variables}

-- a set of names
abbrev pub Names : Type 0
Names = map.FinMap (slice_cmp nat_cmp) (Unit {0})

module _ {A : Type 0} where
  -- a list is its front and its last element
  pub last_split : (xs : List A) (d : A) (n : ℕ) → length xs ≡ n + 1 → (front : List A) × (length front ≡ n) × (xs ≡ front ++ get_or xs n d ∷ [])
  last_split [] d n e = absurd (omega arith)
  last_split (y ∷ []) d zero e = ([], refl, refl)
  last_split (y ∷ z ∷ xs) d zero e = absurd (omega arith)
  last_split (y ∷ xs) d (suc n) e =
      let rest = last_split xs d n (omega arith) in
      (y ∷ rest.0, omega arith, ap (λ zs. y ∷ zs) rest.2)

  -- a list turned round, of which the last element is x
  first_of_front : (front : List A) (x y : A) → (reverse (front ++ x ∷ []) ≡ x ∷ reverse front) × (reverse (set (front ++ x ∷ []) (length front) y) ≡ y ∷ reverse front)
  first_of_front front x y = (reverse-append front (x ∷ []), ap reverse (set-append_seam front x [] y) ∙ reverse-append front (y ∷ []))

  -- the last of n elements comes first where a list is turned round, and a change of it changes the first
  pub last_first : (xs : List A) (n : ℕ) (x : A) → n ≡ length xs → 0 < n → x ≡ get_or xs (n - 1) x
      → (rest : List A) × (reverse xs ≡ x ∷ rest) × ((y : A) → reverse (set xs (n - 1) y) ≡ y ∷ rest)
  last_first xs n x len some there =
      let split = last_split xs x (n - 1) (omega arith) in
      let whole : xs ≡ split.0 ++ x ∷ [] = split.2 ∙ ap (λ z. split.0 ++ z ∷ []) (sym there) in (
        reverse split.0,
        ap reverse whole ∙ (first_of_front split.0 x x).0,
        λ y. ap (λ zs. reverse (set zs (n - 1) y)) whole ∙ ap (λ k. reverse (set (split.0 ++ x ∷ []) k y)) (sym split.1) ∙ (first_of_front split.0 x y).1,
      )

-- the topmost frame's own variables, where it doesn't link the name
pub top_own : (frames : List Frame) (n : ℕ) (frame : Frame) (above : List Frame) (name : List ℕ)
    → n ≡ length frames → 0 < n → frame ≡ get_or frames (n - 1) frame → reverse frames ≡ above → map.contains_key frame.links name ≡ false
    → Some frame.variables ≡ own_variables above name
top_own frames n frame above name len some there is own =
    subst (λ a. Some frame.variables ≡ own_variables a name) (sym (last_first frames n frame len some there).1 ∙ is)
    (subst (λ b. Some frame.variables ≡ (if b then None else Some frame.variables)) (sym own) refl)

-- other variables for the topmost frame, which doesn't link the name
top_table : (global : Table) (keeps : List Kept) (frame : Frame) (rest : List Frame) (name : List ℕ) (table : Table) → map.contains_key frame.links name ≡ false
    → ◌≡◌ {A = Stack} (record { global = global; above = record frame { variables = table } ∷ rest; keeps = keeps })
    (with_table (record { global = global; above = frame ∷ rest; keeps = keeps }) name table)
top_table global keeps frame rest name table own =
    subst (λ b. ◌≡◌ {A = Stack} (record { global = global; above = record frame { variables = table } ∷ rest; keeps = keeps })
    (if b then record { global = table; above = frame ∷ rest; keeps = keeps }
    else record { global = global; above = record frame { variables = table } ∷ rest; keeps = keeps })) (sym own) refl

-- the same where the frames are turned round
pub top_changed : (global : Table) (keeps : List Kept) (frames : List Frame) (n : ℕ) (frame : Frame) (stack : Stack) (name : List ℕ) (table : Table)
    → n ≡ length frames → 0 < n → frame ≡ get_or frames (n - 1) frame
    → ◌≡◌ {A = Stack} (record { global = global; above = reverse frames; keeps = keeps }) stack
    → map.contains_key frame.links name ≡ false
    → ◌≡◌ {A = Stack} (record { global = global; above = reverse (set frames (n - 1) (record frame { variables = table })); keeps = keeps }) (with_table stack name table)
top_changed global keeps frames n frame stack name table len some there is own =
    let turned = last_first frames n frame len some there in
    ap (λ above. record { global = global; above = above; keeps = keeps }) (turned.2 (record frame { variables = table }))
    ∙ top_table global keeps frame turned.0 name table own
    ∙ ap (λ s. with_table s name table) (ap (λ above. record { global = global; above = above; keeps = keeps }) (sym turned.1) ∙ is)

-- the variables that there may be
abbrev table_in : Option Table → Table
table_in None = map.empty
table_in (Some table) = table

own_of : (global : Table) (keeps : List Kept) (frame : Frame) (rest : List Frame) (table : Table) (linked : Bool) → Some table ≡ (if linked then None else Some frame.variables)
    → (table ≡ (if linked then global else frame.variables))
    × ◌≡◌ {A = Stack} (if linked then record { global = table; above = frame ∷ rest; keeps = keeps }
    else record { global = global; above = record frame { variables = table } ∷ rest; keeps = keeps })
    (record { global = global; above = frame ∷ rest; keeps = keeps })
own_of global keeps frame rest table true e = absurd (true≢false (ap is_some e))
own_of global keeps frame rest table false e =
    (ap table_in e, ap (λ t. record { global = global; above = record frame { variables = t } ∷ rest; keeps = keeps }) (ap table_in e))

pub own_in : (global : Table) (above : List Frame) (keeps : List Kept) (name : List ℕ) (table : Table) → Some table ≡ own_variables above name
    → (table ≡ table_of (record { global = global; above = above; keeps = keeps }) name)
    × ◌≡◌ {A = Stack} (with_table (record { global = global; above = above; keeps = keeps }) name table) (record { global = global; above = above; keeps = keeps })
own_in global [] keeps name table e = absurd (true≢false (ap is_some e))
own_in global (frame ∷ rest) keeps name table e = own_of global keeps frame rest table (map.contains_key frame.links name) e

-- the frames above the global one
abbrev above_in : Stack → List Frame
above_in stack = stack.above

pub depth_in : (global : Table) (above : List Frame) (keeps : List Kept) (table : Table) (linked : Bool)
    → length (above_in (if linked then record { global = table; above = above; keeps = keeps } else record { global = global; above = with_top above table; keeps = keeps }))
    ≡ length above
depth_in global above keeps table true = refl
depth_in global [] keeps table false = refl
depth_in global (frame ∷ rest) keeps table false = refl

-- the stack, once the topmost frame's own variables were lent, and were left as others
module _ (stack : Stack) (key : List ℕ) (old new : Table) (after : Stack) (own : Some old ≡ own_variables stack.above key) (is : after ≡ with_table stack key new) where
  -- they were changed
  pub own_changed : (name : List ℕ) (F : Table → Table) → key ≡ name → new ≡ F old → after ≡ with_table stack name (F (table_of stack name))
  own_changed name F same change =
      is
      ∙ ap (with_table stack key) (change ∙ ap F (own_in stack.global stack.above stack.keeps key old own).0)
      ∙ ap (λ k. with_table stack k (F (table_of stack k))) same

  -- they were left as they were
  pub own_unchanged : new ≡ old → after ≡ stack
  own_unchanged same = is ∙ ap (with_table stack key) same ∙ (own_in stack.global stack.above stack.keeps key old own).1

  -- there are as many frames as before
  pub own_deep : length after.above ≡ length stack.above
  own_deep = ap (λ s. length s.above) is ∙ depth_in stack.global stack.above stack.keeps new (links_name stack.above key)

-- the topmost frame links one name more
pub top_linked : (global : Table) (keeps : List Kept) (frames : List Frame) (n : ℕ) (frame : Frame) (stack : Stack) (name : List ℕ) (links : Names)
    → n ≡ length frames → 0 < n → frame ≡ get_or frames (n - 1) frame
    → ◌≡◌ {A = Stack} (record { global = global; above = reverse frames; keeps = keeps }) stack
    → links ≡ map.insert frame.links name tt
    → ◌≡◌ {A = Stack} (record { global = global; above = reverse (set frames (n - 1) (record frame { links = links })); keeps = keeps }) (linked stack name)
top_linked global keeps frames n frame stack name links len some there is new =
    let turned = last_first frames n frame len some there in
    ap (λ above. record { global = global; above = above; keeps = keeps }) (turned.2 (record frame { links = links }))
    ∙ ap (λ l. record { global = global; above = record frame { links = l } ∷ turned.0; keeps = keeps }) new
    ∙ ap (λ s. linked s name) (ap (λ above. record { global = global; above = above; keeps = keeps }) (sym turned.1) ∙ is)

-- the name of a whole variable is the name
named_whole : (closed : Bool) (place : Option ℕ) (name whole : List ℕ) → Whole whole ≡ (if closed then named_at name place else Whole name) → whole ≡ name
named_whole true None name whole e = ap variable_name e
named_whole true (Some at) name whole e = absurd (true≢false (sym (ap is_element e)))
named_whole false place name whole e = ap variable_name e

pub whole_name : (name whole : List ℕ) → Whole whole ≡ named name → whole ≡ name
whole_name name whole = named_whole (is_closed name) (position is_opening name) name whole

-- the topmost frame doesn't link a name any more
pub top_unlinked : (global : Table) (keeps : List Kept) (frames : List Frame) (n : ℕ) (frame : Frame) (stack : Stack) (name : List ℕ) (links : Names)
    → n ≡ length frames → 0 < n → frame ≡ get_or frames (n - 1) frame
    → ◌≡◌ {A = Stack} (record { global = global; above = reverse frames; keeps = keeps }) stack
    → links ≡ map.remove frame.links name
    → ◌≡◌ {A = Stack} (record { global = global; above = reverse (set frames (n - 1) (record frame { links = links })); keeps = keeps }) (unlinked stack name)
top_unlinked global keeps frames n frame stack name links len some there is new =
    let turned = last_first frames n frame len some there in
    ap (λ above. record { global = global; above = above; keeps = keeps }) (turned.2 (record frame { links = links }))
    ∙ ap (λ l. record { global = global; above = record frame { links = l } ∷ turned.0; keeps = keeps }) new
    ∙ ap (λ s. unlinked s name) (ap (λ above. record { global = global; above = above; keeps = keeps }) (sym turned.1) ∙ is)
