-- What a run writes, of which what was written stays within.
use Rattle.std.proofs.Common.{◌≡◌, ℕ, ◌+◌, ◌-◌, ◌*◌, ◌≤◌, List, [], ◌∷◌, ◌++◌, refl, sym, ap, ◌∙◌, subst, append_assoc, arith}
use Rattle.std.proofs.lemmas.List.{append-nil, append_cancel_left}
use Rattle.outside.specs.declared.question.Answer.{Answer}
use Rattle.outside.specs.declared.question.Question.{Question}
use Rattle.cmd_table.specs.Commands.{Writes}
use Rattle.ictl.specs.Interps.{gives, UnlessNoMemory, GoesOn, Stands, IsWithin, all_written, own_written, interp_state, interp_written, taken}
use Rattle.ictl.specs.Main.{Progress, asks, writes, ends}
use Rattle.ictl.specs.declared.interp.Interp.{Interp}
use Rattle.ictl.specs.declared.next.Next.{Next}
use Rattle.ictl.specs.declared.next.Next.TheVariants as next
use Rattle.worker.specs.Asking.{StandsFor, StaysWithin}
use Rattle.worker.specs.Cost.{run_cost}

-- ---- a call more

-- of a call behind others, whose interpreter had written so much when it began
within_more : (written before inside s0 s1 s2 w0 w1 : ℕ) (new : Interp) (run : Progress) → s0 + written ≤ before + inside + w0 → s0 + w1 ≤ s1 + w0
    → IsWithin ((inside + ((s1 + w0) - (s0 + w1))) + w1) s1 s2 new run → IsWithin written before s2 new run
within_more written before inside s0 s1 s2 w0 w1 new run start counts w = record {
  all = let a = w.all in omega (arith, start, counts, a);
  own = w.own;
}

-- what a run goes on as behind an answer
stands_more : (names : List (List ℕ)) (run : List Answer → Progress) (given : List Answer) (answer : Answer) (question : Question) (after : Next) (inside took : ℕ) (old new : Interp)
    → Stands names run (next.Asks question) inside old given → GoesOn names after took new old answer → Stands names run after (inside + took) new (given ++ answer ∷ [])
stands_more names run given answer question (next.Asks other) inside took old new goes on =
    λ further. ap run (append_assoc given (answer ∷ []) further) ∙ (goes (answer ∷ further) ∙ sym (on question inside further))
stands_more names run given answer question (next.Write response) inside took old new goes on =
    λ further. ap run (append_assoc given (answer ∷ []) further) ∙ (goes (answer ∷ further) ∙ sym (on question inside further))
stands_more names run given answer question (next.Ended outcome) inside took old new goes on =
    λ further. ap run (append_assoc given (answer ∷ []) further) ∙ (goes (answer ∷ further) ∙ sym (on question inside further))
stands_more names run given answer question next.NoMemory inside took old new goes on = tt

-- ---- a stretch of a run

stands_same : (names : List (List ℕ)) (run : List Answer → Progress) (now : Next) (inside within : ℕ) (interp : Interp) (given : List Answer) → within ≡ inside → Stands names run now inside interp given → Stands names run now within interp given
stands_same names run now inside within interp given is s = subst (λ (n : ℕ). Stands names run now n interp given) (sym is) s

pub stays_at_first : (names : List (List ℕ)) (run : List Answer → Progress) (answers : List Answer) (first : Next) (inside inside_now : ℕ) (interp : Interp) (written before steps : ℕ)
    → inside_now ≡ inside → StandsFor names run first inside interp → IsWithin written before steps interp (run []) → StaysWithin names run answers first inside_now interp answers written before steps
stays_at_first names run answers first inside inside_now interp written before steps is stands within = record {
  given = [];
  all_are = sym (append-nil answers);
  within = within;
  goes = stands_same names run first inside inside_now interp [] is stands.stands;
}

-- an answer more, and what came of it
pub stays_more : (names : List (List ℕ)) (run : List Answer → Progress) (answers : List Answer) (question : Question) (inside inside_now inside_then : ℕ) (old new : Interp) (all more : List Answer) (answer : Answer) (came : Next) (took written before s0 s1 s2 w0 w1 : ℕ)
    → StaysWithin names run answers (next.Asks question) inside_now old all written before s1 → inside_now ≡ inside + ((s1 + w0) - (s0 + w1)) → s0 + written ≤ before + inside + w0 → s0 + w1 ≤ s1 + w0
    → more ≡ all ++ answer ∷ [] → GoesOn names came took new old answer → inside_then ≡ inside_now + took
    → IsWithin (inside_now + w1) s1 s2 new (gives names (next.Asks question) inside_now old (answer ∷ []))
    → StaysWithin names run answers came inside_then new more written before s2
stays_more names run answers question inside inside_now inside_then old new all more answer came took written before s0 s1 s2 w0 w1 s is start counts adds on then most = record {
  given = s.given ++ answer ∷ [];
  all_are = adds ∙ (ap (λ (l : List Answer). l ++ answer ∷ []) s.all_are ∙ append_assoc answers s.given (answer ∷ []));
  within = within_more written before inside s0 s1 s2 w0 w1 new (run (s.given ++ answer ∷ [])) start counts
      (subst (λ (n : ℕ). IsWithin (n + w1) s1 s2 new (run (s.given ++ answer ∷ []))) is
      (subst (λ (p : Progress). IsWithin (inside_now + w1) s1 s2 new p) (sym (s.goes (answer ∷ []))) most));
  goes = stands_same names run came (inside_now + took) inside_then new (s.given ++ answer ∷ []) then (stands_more names run s.given answer question came inside_now took old new s.goes on);
}

-- the answer was lost
pub stays_lost : (names : List (List ℕ)) (run : List Answer → Progress) (answers : List Answer) (now : Next) (inside inside_now : ℕ) (old new : Interp) (all more : List Answer) (written before s1 s2 : ℕ)
    → StaysWithin names run answers now inside old all written before s1 → more ≡ all → s2 ≡ s1 → new ≡ old → StaysWithin names run answers next.NoMemory inside_now new more written before s2
stays_lost names run answers now inside inside_now old new all more written before s1 s2 s same steps is = record {
  given = s.given;
  all_are = same ∙ s.all_are;
  within = subst (λ (n : ℕ). IsWithin written before n new (run s.given)) (sym steps) (subst (λ (i : Interp). IsWithin written before s1 i (run s.given)) (sym is) s.within);
  goes = tt;
}

-- what was answered in a stretch keeps within any run for which its beginning stands
abbrev pub KeepsWithin : (names : List (List ℕ)) (first : Next) (old : Interp) (s0 : ℕ) (answers : List Answer) (came : Next) (new : Interp) (s1 : ℕ) (all : List Answer) → Type 0
KeepsWithin names first old s0 answers came new s1 all =
    (run : List Answer → Progress) (inside written before : ℕ) → StandsFor names run first inside old → s0 + written ≤ before + inside + interp_written names old → IsWithin written before s0 old (run [])
    → StaysWithin names run answers came (inside + taken names s1 s0 new old) new all written before s1

-- ---- what it costs

run_cost_of : (run : Progress) → run_cost run ≡ own_written run + all_written run
run_cost_of (asks question state inside) = omega arith
run_cost_of (writes response ending state inside left) = omega arith
run_cost_of (ends outcome state inside left) = omega arith

-- of a run from its beginning on: what is its own is taken back behind it
pub cost_within : (interp : Interp) (run : Progress) (before after : ℕ) → IsWithin 0 before after interp run → after + Writes (interp_state interp).made ≤ before + run_cost run
cost_within interp run before after w = let e = run_cost_of run in let a = w.all in let b = w.own in omega (arith, e, a, b)

-- of what comes behind a response, with what was written up to that
pub cost_behind : (interp : Interp) (run : Progress) (s0 s1 s2 s4 w0 w1 w2 made : ℕ) → w0 ≡ 0 → w2 ≡ made + 0 → s0 + w1 ≤ s1 + w0 → s1 + w2 ≤ s2 + w1
    → IsWithin ((((s1 + w0) - (s0 + w1)) + ((s2 + w1) - (s1 + w2))) + made) s2 s4 interp run → s4 + Writes (interp_state interp).made ≤ s0 + run_cost run
cost_behind interp run s0 s1 s2 s4 w0 w1 w2 made none own g h w = let e = run_cost_of run in let a = w.all in let b = w.own in omega (arith, none, own, g, h, e, a, b)

-- the answers that were had in all, where none were had before
pub within_all : (names : List (List ℕ)) (run : List Answer → Progress) (answers : List Answer) (now : Next) (inside : ℕ) (interp : Interp) (all : List Answer) (written before steps : ℕ)
    → StaysWithin names run answers now inside interp all written before steps → answers ≡ [] → IsWithin written before steps interp (run all)
within_all names run answers now inside interp all written before steps s none =
    subst (λ (l : List Answer). IsWithin written before steps interp (run l)) (sym (s.all_are ∙ ap (λ (l : List Answer). l ++ s.given) none)) s.within

-- those that were had behind others
pub within_left : (names : List (List ℕ)) (run : List Answer → Progress) (answers left : List Answer) (now : Next) (inside : ℕ) (interp : Interp) (all : List Answer) (written before steps : ℕ)
    → StaysWithin names run answers now inside interp all written before steps → all ≡ answers ++ left → IsWithin written before steps interp (run left)
within_left names run answers left now inside interp all written before steps s are =
    subst (λ (l : List Answer). IsWithin written before steps interp (run l)) (append_cancel_left answers s.given left (sym s.all_are ∙ are)) s.within

-- ---- where a stretch begins

pub first_within : (s0 s1 w0 w1 : ℕ) → s1 + 0 ≤ s0 + ((s1 + w0) - (s0 + w1)) + w1
first_within s0 s1 w0 w1 = omega arith

pub define_within : (s0 s1 m0 m1 w1 : ℕ) → s1 + m0 ≡ s0 + m1 → m1 ≤ w1 → s1 + 0 ≤ s0 + 0 + w1
define_within s0 s1 m0 m1 w1 is own = omega (arith, is, own)

pub behind_within : (s2 s3 w2 w3 inside made : ℕ) → w2 ≡ made + 0 → s3 + (inside + made) ≤ s2 + (inside + ((s3 + w2) - (s2 + w3))) + w3
behind_within s2 s3 w2 w3 inside made own = omega (arith, own)
