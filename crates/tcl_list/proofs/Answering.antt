-- What a function returned, carried from one fact about outcomes to another.
use Rattle.std.proofs.Common.{◌≡◌, ℕ, ◌+◌, List, [], ◌∷◌, ◌++◌, length, false, Result, Ok, Err, refl, ap, sym, subst, append_assoc}
use Rattle.txt_core.specs.declared.stop.Stop.{Stop}
use Rattle.txt_core.specs.declared.stop.Stop.TheVariants as stop
use Rattle.txt_core.specs.Counting.{braced}
use Rattle.txt_core.specs.Lists.{Outcome, done, bad, put, BracedAt, QuotedAt, ElementAt, in_braces, in_quotes}
use Rattle.txt_core.specs.Listing.{close_brace, counted, quoted_by}
use Rattle.tcl_list.specs.Answers.{Stopped, Gives, QuoteGives}

pub stopped_map : {Y Z : Type 0} (P : Outcome Y → Type 0) (Q : Outcome Z → Type 0) → ((n : ℕ) → P (bad n) → Q (bad n)) → (e : Stop ℕ) → Stopped e P → Stopped e Q
stopped_map P Q f stop.NoMemory h = tt
stopped_map P Q f (stop.Fault n) h = f n h

pub gives_map : {X Y : Type 0} (view : X → Y) (rest : X → List ℕ) (P Q : Outcome Y → Type 0) → ((o : Outcome Y) → P o → Q o) → (r : Result X (Stop ℕ)) → Gives view rest r P → Gives view rest r Q
gives_map view rest P Q f (Ok x) h = f (done (view x) (rest x)) h
gives_map view rest P Q f (Err stop.NoMemory) h = tt
gives_map view rest P Q f (Err (stop.Fault n)) h = f (bad n) h

pub element_braces : (b : ℕ) (t u : List ℕ) (o : Outcome (List ℕ)) → t ≡ b ∷ u → b ≡ 123 → close_brace (length u + 1) (braced false 0 u) ≡ o → ElementAt t o
element_braces b t u o et eb e =
    let h : BracedAt u o = subst (BracedAt u) e (counted u) in
    let w : ElementAt (123 ∷ u) o = in_braces refl h in
    rw (et, eb) w

pub element_quotes : (b : ℕ) (t u : List ℕ) (o : Outcome (List ℕ)) → t ≡ b ∷ u → b ≡ 34 → QuoteGives u o → ElementAt t o
element_quotes b t u o et eb q =
    let h : QuotedAt u o = subst (QuotedAt u) (sym q.3) (quoted_by u q.0 q.1 q.2) in
    let w : ElementAt (34 ∷ u) o = in_quotes refl h in
    rw (et, eb) w

-- these elements in front
abbrev pub front : List (List ℕ) → Outcome (List (List ℕ)) → Outcome (List (List ℕ))
front xs (done ys r) = done (xs ++ ys) r
front xs (bad n) = bad n

pub front-none : (o : Outcome (List (List ℕ))) → front [] o ≡ o
front-none (done ys r) = refl
front-none (bad n) = refl

pub front-push : (xs : List (List ℕ)) (x : List ℕ) (o : Outcome (List (List ℕ))) → front (xs ++ (x ∷ [])) o ≡ front xs (put x o)
front-push xs x (done ys r) = ap (λ zs. done zs r) (append_assoc xs (x ∷ []) ys)
front-push xs x (bad n) = refl
