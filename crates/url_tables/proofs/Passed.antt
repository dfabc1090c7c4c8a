-- What is kept of definitions, one definition more at the end.
use Rattle.std.proofs.Common.{◌≡◌, ℕ, Bool, true, false, not, List, [], ◌∷◌, ◌++◌, length, append_assoc, refl, sym, ap, ◌∙◌, arith}
use Rattle.std.proofs.lemmas.List.{append-nil}
use Rattle.cmd_table.specs.declared.definition.When.{When}
use Rattle.cmd_table.specs.declared.definition.Def.{Def}
use Rattle.cmd_table.specs.declared.definition.Def.TheVariants.{Proc, Rename, Route, Filter, Cleanup, Set}
use Rattle.std.proofs.lemmas.Bool.Decides.{nat_tests}
use Rattle.url_tables.specs.declared.site.Site.{Site}
use Rattle.url_tables.specs.declared.filters.Passing.{Passing}
use Rattle.url_tables.specs.Filters.{Filters, put_if}
use Rattle.std.specs.Prelude.{Result, Ok, Err, OnOk, ◌==◌}
use Rattle.url_tables.specs.declared.routes.Routes.{Routes}
use Rattle.url_tables.specs.Tables.{kept, sites_at, passing, passings, found, IsBuiltOf}
use Rattle.url_tables.specs.Searching.{is_passed, passed}

pub sites_more : (plain : List (List ℕ)) (defs : List Def) (def : Def) → sites_at plain (defs ++ def ∷ []) ≡ sites_at plain defs ++ kept plain def
sites_more plain [] def = append-nil (kept plain def)
sites_more plain (first ∷ defs) def = ap (λ (s : List Site). kept plain first ++ s) (sites_more plain defs def) ∙ sym (append_assoc (kept plain first) (sites_at plain defs) (kept plain def))

pub passings_more : (defs : List Def) (def : Def) → passings (defs ++ def ∷ []) ≡ passings defs ++ passing def
passings_more [] def = append-nil (passing def)
passings_more (first ∷ defs) def = ap (λ (s : List Passing). passing first ++ s) (passings_more defs def) ∙ sym (append_assoc (passing first) (passings defs) (passing def))

-- the filters that are passed are those of the definitions
pub passed_is : (when : When) (method path : List ℕ) (defs : List Def) → passed when method path (passings defs) ≡ Filters when method path defs
passed_is when method path [] = refl
passed_is when method path (Filter stage registered pattern words ∷ defs) = ap (put_if (is_passed when method path (record { when = stage; method = registered; pattern = pattern; words = words })) words) (passed_is when method path defs)
passed_is when method path (Proc name params body ∷ defs) = passed_is when method path defs
passed_is when method path (Rename old new ∷ defs) = passed_is when method path defs
passed_is when method path (Route registered url inherit words ∷ defs) = passed_is when method path defs
passed_is when method path (Cleanup script ∷ defs) = passed_is when method path defs
passed_is when method path (Set name value ∷ defs) = passed_is when method path defs

put_more : (t : Bool) (words : List (List ℕ)) (others more : List (List (List ℕ))) → put_if t words (others ++ more) ≡ put_if t words others ++ more
put_more true words others more = refl
put_more false words others more = refl

-- one filter more at the end
pub passed_more : (when : When) (method path : List ℕ) (filters : List Passing) (filter : Passing)
    → passed when method path (filters ++ filter ∷ []) ≡ passed when method path filters ++ put_if (is_passed when method path filter) filter.words []
passed_more when method path [] filter = refl
passed_more when method path (first ∷ filters) filter =
    ap (put_if (is_passed when method path first) first.words) (passed_more when method path filters filter)
    ∙ put_more (is_passed when method path first) first.words (passed when method path filters) (put_if (is_passed when method path filter) filter.words [])

-- tables to which what is kept of one definition more was added
pub adds : (old now : Routes) (defs : List Def) (def : Def) → ((plain : List (List ℕ)) → found now.sites plain ≡ found old.sites plain ++ kept plain def) → now.filters.items ≡ old.filters.items ++ passing def
    → IsBuiltOf old defs → IsBuiltOf now (defs ++ def ∷ [])
adds old now defs def sites filters b = record {
  sites = λ plain. sites plain ∙ ap (λ (s : List Site). s ++ kept plain def) (b.sites plain) ∙ sym (sites_more plain defs def);
  filters = filters ∙ ap (λ (s : List Passing). s ++ passing def) b.filters ∙ sym (passings_more defs def);
}

adds_nothing : (old : Routes) (defs : List Def) (def : Def) → ((plain : List (List ℕ)) → kept plain def ≡ []) → passing def ≡ [] → IsBuiltOf old defs → IsBuiltOf old (defs ++ def ∷ [])
adds_nothing old defs def sites filters b =
    adds old old defs def (λ plain. sym (ap (λ (s : List Site). found old.sites plain ++ s) (sites plain) ∙ append-nil (found old.sites plain)))
    (sym (ap (λ (s : List Passing). old.filters.items ++ s) filters ∙ append-nil old.filters.items)) b

-- of a definition that is neither a registration nor a filter nothing is kept
pub nothing_more : (old : Routes) (defs : List Def) (def : Def)
    → ((method url : List ℕ) (inherit : Bool) (words : List (List ℕ)) → def ≡ Route method url inherit words → ⊥)
    → ((when : When) (method pattern : List ℕ) (words : List (List ℕ)) → def ≡ Filter when method pattern words → ⊥)
    → IsBuiltOf old defs → IsBuiltOf old (defs ++ def ∷ [])
nothing_more old defs (Route method url inherit words) r f b = absurd (r method url inherit words refl)
nothing_more old defs (Filter when method pattern words) r f b = absurd (f when method pattern words refl)
nothing_more old defs (Proc name params body) r f b = adds_nothing old defs (Proc name params body) (λ plain. refl) refl b
nothing_more old defs (Rename from to) r f b = adds_nothing old defs (Rename from to) (λ plain. refl) refl b
nothing_more old defs (Cleanup script) r f b = adds_nothing old defs (Cleanup script) (λ plain. refl) refl b
nothing_more old defs (Set name value) r f b = adds_nothing old defs (Set name value) (λ plain. refl) refl b

pub on_ok : {A E P Q : Type 0} (r : Result A E) → (P → Q) → OnOk r P → OnOk r Q
on_ok (Ok x) f h = f h
on_ok (Err e) f h = tt

-- a list of which it isn't said that it holds something
pub none_there : (filters : List Passing) (empty : Bool) → empty ≡ (length filters == 0) → not empty ≡ false → filters ≡ []
none_there [] empty is lacks = refl
none_there (first ∷ filters) true is lacks = absurd (grind (arith, nat_tests))
none_there (first ∷ filters) false is lacks = absurd (cc)
