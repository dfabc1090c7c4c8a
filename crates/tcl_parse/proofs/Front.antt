-- Items that were read before an outcome.
use Rattle.std.proofs.Common.{◌≡◌, ℕ, List, [], ◌∷◌, ◌++◌, refl, ap, sym, ◌∙◌, append_assoc, append-nil}
use Rattle.tcl_parse.specs.Tree.{Part, text, variable, element, bracket, Word, literal, lead}
use Rattle.tcl_parse.specs.Outcome.{Outcome, done, fault, put, put_text}

-- these items in front
abbrev pub front : {A : Type 0} → List A → Outcome (List A) → Outcome (List A)
front xs (done ys r) = done (xs ++ ys) r
front xs (fault k n) = fault k n

pub front-none : {A : Type 0} (o : Outcome (List A)) → front [] o ≡ o
front-none (done ys r) = refl
front-none (fault k n) = refl

pub front-push : {A : Type 0} (xs : List A) (x : A) (o : Outcome (List A)) → front (xs ++ (x ∷ [])) o ≡ front xs (put x o)
front-push xs x (done ys r) = ap (λ zs. done zs r) (append_assoc xs (x ∷ []) ys)
front-push xs x (fault k n) = refl

lead-append : (ds : List ℕ) (b : ℕ) (bs : List ℕ) (w : Word) → lead (ds ++ (b ∷ bs)) w ≡ lead ds (lead (b ∷ bs) w)
lead-append ds b bs [] = refl
lead-append ds b bs (text cs ∷ w) = ap (λ (x : List ℕ). text x ∷ w) (append_assoc ds (b ∷ bs) cs)
lead-append ds b bs (variable x ∷ w) = refl
lead-append ds b bs (element x i ∷ w) = refl
lead-append ds b bs (bracket s ∷ w) = refl

pub literal-append : (ds bs : List ℕ) (w : Word) → literal (ds ++ bs) w ≡ literal ds (literal bs w)
literal-append [] bs w = refl
literal-append (a ∷ ds) [] w = ap (λ (x : List ℕ). literal x w) (append-nil (a ∷ ds))
literal-append (a ∷ ds) (b ∷ bs) w = lead-append (a ∷ ds) b bs w

pub put_text-none : (o : Outcome Word) → put_text [] o ≡ o
put_text-none (done w r) = refl
put_text-none (fault k n) = refl

pub put_text-append : (ds bs : List ℕ) (o : Outcome Word) → put_text (ds ++ bs) o ≡ put_text ds (put_text bs o)
put_text-append ds bs (done w r) = ap (λ x. done x r) (literal-append ds bs w)
put_text-append ds bs (fault k n) = refl

-- these parts and then these bytes in front
abbrev pub joined : Word → List ℕ → Outcome Word → Outcome Word
joined ps bs (done w r) = done (ps ++ literal bs w) r
joined ps bs (fault k n) = fault k n

pub joined-none : (o : Outcome Word) → joined [] [] o ≡ o
joined-none (done w r) = refl
joined-none (fault k n) = refl

pub joined-text : (ps : Word) (bs cs : List ℕ) (o : Outcome Word) → joined ps (bs ++ cs) o ≡ joined ps bs (put_text cs o)
joined-text ps bs cs (done w r) = ap (λ x. done (ps ++ x) r) (literal-append bs cs w)
joined-text ps bs cs (fault k n) = refl

-- a part that isn't text
abbrev pub IsInner : Part → Type 0
IsInner (text bs) = ⊥
IsInner (variable x) = Unit {0}
IsInner (element x i) = Unit {0}
IsInner (bracket s) = Unit {0}

literal-part : (bs : List ℕ) (p : Part) (w : Word) → IsInner p → literal bs (p ∷ w) ≡ literal bs [] ++ (p ∷ w)
literal-part [] p w h = refl
literal-part (b ∷ bs) (text x) w h = absurd h
literal-part (b ∷ bs) (variable x) w h = refl
literal-part (b ∷ bs) (element x i) w h = refl
literal-part (b ∷ bs) (bracket s) w h = refl

pub joined-part : (ps : Word) (bs : List ℕ) (p : Part) (o : Outcome Word) → IsInner p → joined (ps ++ literal bs [] ++ (p ∷ [])) [] o ≡ joined ps bs (put p o)
joined-part ps bs p (done w r) h = ap (λ x. done x r) (append_assoc (ps ++ literal bs []) (p ∷ []) w ∙ append_assoc ps (literal bs []) (p ∷ w) ∙ ap (λ x. ps ++ x) (sym (literal-part bs p w h)))
joined-part ps bs p (fault k n) h = refl
