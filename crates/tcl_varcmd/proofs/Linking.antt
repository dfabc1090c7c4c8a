-- Links that are taken away again.
use Rattle.std.proofs.Common.{◌≡◌, ◌++◌, ◌∷◌, [], ◌+◌, ◌<◌, ℕ, zero, suc, List, true, false, length, drop, get_or, refl, sym, ap, ◌∙◌, arith}
use Rattle.std.specs.Prelude.{Option, Some, None, is_some}
use Rattle.std.specs.FinMap as map
use Rattle.std.proofs.lemmas.Bool.{true≢false}
use Rattle.tcl_frame.specs.declared.frame.Frame.{Frame}
use Rattle.tcl_frame.specs.Stack.{Stack}
use Rattle.tcl_frame.specs.Frames.{links_name, with_link, linked, unlinked}
use Rattle.tcl_frame.proofs.Changes.{unlinked_again}
use Rattle.tcl_frame.proofs.Tables.{same_inserted}
use Rattle.tcl_varcmd.specs.declared.names.NewLink.{NewLink}
use Rattle.tcl_varcmd.specs.Linking.{unlinked_all}

-- the last link is taken away first
pub unlinked_last : (links : List NewLink) (link : NewLink) (stack : Stack) → unlinked_all (links ++ link ∷ []) stack ≡ unlinked_all links (unlinked stack link.name.now)
unlinked_last [] link stack = refl
unlinked_last (first ∷ links) link stack = ap (λ s. unlinked s first.name.now) (unlinked_last links link stack)

-- a new link that is noted is taken away
pub unlinked_new : (links : List NewLink) (link : NewLink) (stack : Stack) → links_name stack.above link.name.now ≡ false
    → unlinked_all (links ++ link ∷ []) (linked stack link.name.now) ≡ unlinked_all links stack
unlinked_new links link stack own = unlinked_last links link (linked stack link.name.now) ∙ ap (unlinked_all links) (unlinked_again stack link.name.now own)

-- what stands at a place of a list, whatever stands for a place outside of it
pub get_or_any : {A : Type 0} (xs : List A) (k : ℕ) (a b : A) → k < length xs → get_or xs k a ≡ get_or xs k b
get_or_any [] k a b h = absurd (omega arith)
get_or_any (x ∷ xs) zero a b h = refl
get_or_any (x ∷ xs) (suc k) a b h = get_or_any xs k a b (omega arith)

-- a list from a place on begins with what stands there
pub drop_item : {A : Type 0} (xs : List A) (k : ℕ) (x : A) → x ≡ get_or xs k x → k < length xs → drop k xs ≡ x ∷ drop (k + 1) xs
drop_item [] k x e h = absurd (omega arith)
drop_item (y ∷ xs) zero x e h = ap (λ z. z ∷ xs) (sym e)
drop_item (y ∷ xs) (suc k) x e h =
    let one : suc (k + 1) ≡ suc k + 1 = omega arith in
    drop_item xs k x e (omega arith) ∙ ap (λ n. x ∷ drop n (y ∷ xs)) one

there : (o : Option (Unit {0})) → is_some o ≡ true → o ≡ Some tt
there None e = absurd (true≢false (sym e))
there (Some u) e = refl

-- a name that was linked before and is linked again
pub linked_again : (stack : Stack) (name : List ℕ) → links_name stack.above name ≡ true → linked stack name ≡ stack
linked_again stack name was = by stack.above was
  where
    by : (above : List Frame) → links_name above name ≡ true
        → ◌≡◌ {A = Stack} (record { global = stack.global; above = with_link above name; keeps = stack.keeps }) (record { global = stack.global; above = above; keeps = stack.keeps })
    by [] e = refl
    by (frame ∷ frames) e =
        ap (λ links. record { global = stack.global; above = record frame { links = links } ∷ frames; keeps = stack.keeps })
        (same_inserted frame.links name tt (there (map.get frame.links name) e))
