-- Lists that grow at their end as stacks.
use Rattle.std.proofs.Common.{◌≡◌, ℕ, ◌≤◌, List, [], ◌∷◌, ◌++◌, map, reverse, Option, None, Some, ap, ◌∙◌, subst}
use Rattle.std.proofs.lemmas.List.{reverse-append, map-append}
use Rattle.std.specs.Option.{MatchOption, option_to_list}
use Rattle.tcl_expr.specs.declared.reading.Pending.{Pending}
use Rattle.tcl_expr.specs.declared.reading.Asked.{Asked}
use Rattle.tcl_expr.specs.Tokens.{level}
use Rattle.tcl_expr.specs.Stack.{frame_of, stack, IsLoose, part_of, parts}

reversed_push : {A : Type 0} (xs : List A) (x : A) → reverse (xs ++ x ∷ []) ≡ x ∷ reverse xs
reversed_push xs x = reverse-append xs (x ∷ [])

pub stack_push : (ps ps' : List Pending) (p : Pending) → ps' ≡ ps ++ p ∷ [] → stack ps' ≡ frame_of p ∷ stack ps
stack_push ps ps' p e = ap stack e ∙ ap reverse (map-append frame_of ps (p ∷ [])) ∙ reversed_push (map frame_of ps) (frame_of p)

pub parts_push : (ps ps' : List Asked) (p : Asked) → ps' ≡ ps ++ p ∷ [] → parts ps' ≡ part_of p ∷ parts ps
parts_push ps ps' p e = ap parts e ∙ ap reverse (map-append part_of ps (p ∷ [])) ∙ reversed_push (map part_of ps) (part_of p)

pub pops_tight : (most : ℕ) (old new : List Pending) (r : Option Pending) (last : Pending) → old ≡ new ++ option_to_list r → r ≡ Some last → level last.op ≤ most
    → MatchOption r ((new ≡ old) × IsLoose most (stack new)) (λ p. (stack old ≡ frame_of p ∷ stack new) × (level p.op ≤ most))
pops_tight most old new None last e s le = absurd (cc)
pops_tight most old new (Some p) last e s le =
    let same : last ≡ p = cc in
    (stack_push new old p e, subst (λ q. level q.op ≤ most) same le)
