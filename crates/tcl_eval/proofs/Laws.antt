-- What every run comes to: what its questions cost, how few they are, and what it makes.
use Rattle.std.proofs.Common.{◌≡◌, ◌≤◌, ◌<◌, ℕ, suc, ◌+◌, ◌-◌, ◌*◌, List, [], ◌∷◌, length, drop, nat_lt, refl, arith}
use Rattle.std.specs.List.{AllByRecursion}
use Rattle.std.proofs.lemmas.Nat.{mul-le, column_fits}
use Rattle.outside.specs.declared.question.Answer.{Answer}
use Rattle.tcl_eval.specs.declared.outcome.Work.{Work}
use Rattle.tcl_eval.specs.declared.outcome.Work.TheVariants as work
use Rattle.tcl_eval.specs.Words.{arg}
use Rattle.tcl_eval.specs.Costs.{answer_cost}
use Rattle.tcl_eval.specs.Messages.{unknown_command}
use Rattle.tcl_eval.specs.Going.{Inner, with_host}
use Rattle.tcl_eval.specs.Eval.{resumed, leaf, onward, eval}
use Rattle.tcl_eval.specs.State.{State, Leaf, says, wants, defines, stores, not_mine, Onward, goes, enters, LeafTable, Given, Out, done, asks, spent, too_deep, Next}
use Rattle.tcl_eval.specs.Laws.{LeavesLess, QuestionsCost, IsRanked, AsksFew, QuestionsAreFew}
use Rattle.tcl_eval.proofs.Every as every
use Rattle.tcl_eval.proofs.Every.{Closed}

-- any word
abbrev pub AnyWord : List ℕ → Type 0
AnyWord word = Unit {0}

-- words of which nothing is said
pub any_words : (words : List (List ℕ)) → AllByRecursion AnyWord words
any_words [] = tt
any_words (w ∷ words) = (tt, any_words words)

-- ---- numbers

le_self : (n : ℕ) → n ≤ n
le_self n = omega arith

le_both : (l b' b : ℕ) → b' ≤ b → l ≤ b' → l ≤ b
le_both l b' b le h = omega (arith, le, h)

lt_both : (l b' b : ℕ) → b' ≤ b → l < b' → l < b
lt_both l b' b le h = omega (arith, le, h)

le_below : (l b' b : ℕ) → b' < b → l ≤ b' → l < b
le_below l b' b less h = omega (arith, less, h)

lt_le : (l b : ℕ) → l < b → l ≤ b
lt_le l b h = omega (arith, h)

less_by : (b cost : ℕ) → b - cost ≤ b
less_by b cost = omega arith

sum_ended : (l g b' m' b m e : ℕ) → b' + m' ≤ b + m → l + g ≤ b' + m' + e → l + g ≤ b + m + e
sum_ended l g b' m' b m e le h = omega (arith, le, h)

sum_asked : (l r g b' m' b m : ℕ) → b' + m' ≤ b + m → l + r + g < b' + m' → l + r + g < b + m
sum_asked l r g b' m' b m le h = omega (arith, le, h)

answer_ended : (l g b' m' b m e : ℕ) → b' + m' + 1 ≤ b + m → l + g ≤ b' + m' + e → l + suc g ≤ b + m + e
answer_ended l g b' m' b m e le h = omega (arith, le, h)

answer_asked : (l r g b' m' b m : ℕ) → b' + m' + 1 ≤ b + m → l + r + g < b' + m' → l + r + suc g < b + m
answer_asked l r g b' m' b m le h = omega (arith, le, h)

no_more : (l g b e : ℕ) → l + g ≤ b + 0 + e → l + g ≤ b + e
no_more l g b e h = omega (arith, h)

no_more_asked : (n b : ℕ) → n < b + 0 → n < b
no_more_asked n b h = omega (arith, h)

none_both : (x y : ℕ) → x ≤ y → x + 0 ≤ y + 0
none_both x y h = omega (arith, h)

none_behind : (x y : ℕ) → x ≤ y → x ≤ y + 0
none_behind x y h = omega (arith, h)

none_or_more : (x w : ℕ) → x + 0 ≤ x + w
none_or_more x w = omega arith

both_more : (x s w : ℕ) → s ≤ w → x + s ≤ x + w
both_more x s w h = omega (arith, h)

ended_none : (x g : ℕ) → x + g ≤ x + 0 + g
ended_none x g = omega arith

asked_one : (x r : ℕ) → x + r + 0 < x + (r + 1)
asked_one x r = omega arith

slack_less : (x y s r : ℕ) → x ≤ y → s + 1 ≤ r → x + s + 1 ≤ y + r
slack_less x y s r h i = omega (arith, h, i)

rank_less : (a b : ℕ) → a < b → a + 1 + 1 ≤ b + 1
rank_less a b h = omega (arith, h)

rank_one : (r : ℕ) → 0 + 1 ≤ r + 1
rank_one r = omega arith

rank_most : (r m : ℕ) → r ≤ m → r + 1 ≤ m + 1
rank_most r m h = omega (arith, h)

none_most : (m : ℕ) → 0 ≤ m
none_most m = omega arith

-- ---- what a question costs

-- where a run asks, or has ended, no more is left than this
abbrev LeavesAtMost : {H : Type 0} → Out H → ℕ → Type 0
LeavesAtMost (done code result state left given) budget = left ≤ budget
LeavesAtMost (asks question state left) budget = left ≤ budget
LeavesAtMost (spent state) budget = Unit {0}
LeavesAtMost (too_deep state) budget = Unit {0}

module _ {H : Type 0} where
  less_lower : (x : Out H) (b b' : ℕ) → b' ≤ b → LeavesLess x b' → LeavesLess x b
  less_lower (done code result state left given) b b' le h = le_both left b' b le h
  less_lower (asks question state left) b b' le h = lt_both left b' b le h
  less_lower (spent state) b b' le h = tt
  less_lower (too_deep state) b b' le h = tt

  most_lower : (x : Out H) (b b' : ℕ) → b' ≤ b → LeavesAtMost x b' → LeavesAtMost x b
  most_lower (done code result state left given) b b' le h = le_both left b' b le h
  most_lower (asks question state left) b b' le h = le_both left b' b le h
  most_lower (spent state) b b' le h = tt
  most_lower (too_deep state) b b' le h = tt

  most_paid : (x : Out H) (b b' : ℕ) → b' < b → LeavesAtMost x b' → LeavesLess x b
  most_paid (done code result state left given) b b' le h = lt_le left b (le_below left b' b le h)
  most_paid (asks question state left) b b' le h = le_below left b' b le h
  most_paid (spent state) b b' le h = tt
  most_paid (too_deep state) b b' le h = tt

  less_most : (x : Out H) (b : ℕ) → LeavesLess x b → LeavesAtMost x b
  less_most (done code result state left given) b h = h
  less_most (asks question state left) b h = lt_le left b h
  less_most (spent state) b h = tt
  less_most (too_deep state) b h = tt

abbrev Costs : {H : Type 0} → State H → ℕ → Given → Out H → Type 0
Costs s b g x = LeavesLess x b

abbrev CostsPaid : {H : Type 0} → State H → ℕ → Given → Out H → Type 0
CostsPaid s b g x = LeavesAtMost x b

module _ {H : Type 0} where
  costs : Closed H Costs CostsPaid AnyWord
  costs = record {
    falls = λ s b b' g x le h. less_lower x b b' le h;
    moves = λ s s' b g x same h. h;
    procs = λ s words all b g x is short four h. h;
    renames = λ s words b g x short three h. h;
    ends = λ code result s b g. le_self b;
    spends = λ s b g. tt;
    sinks = λ s b g. tt;
    pays = λ s b b' g x less h. most_paid x b b' less h;
    weakens = λ s b g x h. less_most x b h;
    shortens = λ value le. tt;
  }

module _ {H : Type 0} (t : LeafTable H) (inner : Inner H) (run : every.Runs Costs CostsPaid AnyWord costs t inner) where
  resumed_costs : (said : Onward H) (go : Leaf H → Out H) (k : Next H) (s : State H) (b : ℕ) (g : Given) → ((l : Leaf H) → LeavesAtMost (go l) b) → every.GoodNext Costs CostsPaid AnyWord costs t k → LeavesAtMost (resumed t inner said go k s b g) b
  resumed_costs (goes said) go k s b g on h = on said
  resumed_costs (enters page host) go k s b g on h =
      less_most (resumed t inner (enters page host) go k s b g) b (every.run_page_good Costs CostsPaid AnyWord costs t inner run page k h (with_host s host) b g)

  leaf_costs : (words : List (List ℕ)) (said : Leaf H) (k : Next H) → every.GoodNext Costs CostsPaid AnyWord costs t k → (s : State H) (b : ℕ) (g : Given) → LeavesAtMost (leaf t inner words said k s b g) b
  leaf_costs words (says code result host) k h s b g = less_most (leaf t inner words (says code result host) k s b g) b (h code result (with_host s host) b g)
  leaf_costs words (defines def host) k h s b g =
      less_most (leaf t inner words (defines def host) k s b g) b (every.define_good Costs CostsPaid AnyWord costs t def (λ yes s b g x put. put) words k h (with_host s host) b g)
  leaf_costs words (stores name value result host) k h s b g =
      less_most (leaf t inner words (stores name value result host) k s b g) b (every.write_variable_good Costs CostsPaid AnyWord costs t name value result k h (with_host s host) b g)
  leaf_costs words (not_mine host) k h s b g =
      less_most (leaf t inner words (not_mine host) k s b g) b (every.fails_good Costs CostsPaid AnyWord costs t (unknown_command (arg words 0)) k h (with_host s host) b g)
  leaf_costs words (wants question host) k h s b [] = le_self b
  leaf_costs words (wants question host) k h s b (answer ∷ g) =
      let cost : ℕ = answer.1 + answer_cost answer.0 in
      let s' : State H = with_host s host in
      let x : Out H = onward t inner words (t.answers words answer.0 host) k s' (b - cost) g in
      every.either (λ (x : Out H). LeavesAtMost x b) (nat_lt b cost) (spent s') x tt
      (most_lower x b (b - cost) (less_by b cost)
      (resumed_costs (t.answers words answer.0 host) (λ said. leaf t inner words said k s' (b - cost) g) k s' (b - cost) g
      (λ said. leaf_costs words said k h s' (b - cost) g) h))

module _ {H : Type 0} (P Q : State H → ℕ → Given → Out H → Type 0) (c : Closed H P Q AnyWord) (t : LeafTable H) where
  pub any_call : (w : Work) → every.ShortWork P Q AnyWord c t w
  any_call (work.Script bytes) = tt
  any_call (work.Call words) = any_words (drop 1 words)
  any_call (work.Page page) = tt

pub questions_cost : {H : Type 0} (t : LeafTable H) → QuestionsCost t
questions_cost t names depth w s b g =
    every.eval_good Costs CostsPaid AnyWord costs t
    (λ inner run words short k h s b g. leaf_costs t inner run words (t.calls words s.host) k h s b g)
    names depth w (any_call Costs CostsPaid costs t w) s b g

-- ---- how few questions are asked

-- so much for each unit of the budget, with so much more
abbrev Within : {H : Type 0} → (H → ℕ) → ℕ → ℕ → ℕ → Given → Out H → Type 0
Within rank most more b g (done code result state left behind) = (most + 1) * left + length g ≤ (most + 1) * b + more + length behind
Within rank most more b g (asks question state left) = (most + 1) * left + rank state.host + length g < (most + 1) * b + more
Within rank most more b g (spent state) = Unit {0}
Within rank most more b g (too_deep state) = Unit {0}

module _ {H : Type 0} (rank : H → ℕ) (most : ℕ) where
  within_lower : (x : Out H) (more more' b b' : ℕ) (g : Given) → (most + 1) * b' + more' ≤ (most + 1) * b + more → Within rank most more' b' g x → Within rank most more b g x
  within_lower (done code result state left behind) more more' b b' g le h = sum_ended ((most + 1) * left) (length g) ((most + 1) * b') more' ((most + 1) * b) more (length behind) le h
  within_lower (asks question state left) more more' b b' g le h = sum_asked ((most + 1) * left) (rank state.host) (length g) ((most + 1) * b') more' ((most + 1) * b) more le h
  within_lower (spent state) more more' b b' g le h = tt
  within_lower (too_deep state) more more' b b' g le h = tt

  -- an answer more is within one more
  within_answer : (x : Out H) (more more' b b' : ℕ) (answer : _) (g : Given) → (most + 1) * b' + more' + 1 ≤ (most + 1) * b + more → Within rank most more' b' g x → Within rank most more b (answer ∷ g) x
  within_answer (done code result state left behind) more more' b b' answer g le h = answer_ended ((most + 1) * left) (length g) ((most + 1) * b') more' ((most + 1) * b) more (length behind) le h
  within_answer (asks question state left) more more' b b' answer g le h = answer_asked ((most + 1) * left) (rank state.host) (length g) ((most + 1) * b') more' ((most + 1) * b) more le h
  within_answer (spent state) more more' b b' answer g le h = tt
  within_answer (too_deep state) more more' b b' answer g le h = tt

  times_lower : (b b' : ℕ) → b' ≤ b → (most + 1) * b' ≤ (most + 1) * b
  times_lower b b' le = mul-le (most + 1) b' (most + 1) b (le_self (most + 1)) le

  times_paid : (b b' : ℕ) → b' < b → (most + 1) * b' + (most + 1) ≤ (most + 1) * b
  times_paid b b' less = column_fits (most + 1) b' (most + 1) b less (le_self (most + 1))

  within_few : (x : Out H) (b : ℕ) (g : Given) → Within rank most 0 b g x → AsksFew rank most x b g
  within_few (done code result state left behind) b g h = no_more ((most + 1) * left) (length g) ((most + 1) * b) (length behind) h
  within_few (asks question state left) b g h = no_more_asked ((most + 1) * left + rank state.host + length g) ((most + 1) * b) h
  within_few (spent state) b g h = tt
  within_few (too_deep state) b g h = tt

abbrev Few : {H : Type 0} → (H → ℕ) → ℕ → State H → ℕ → Given → Out H → Type 0
Few rank most s b g x = Within rank most 0 b g x

abbrev FewPaid : {H : Type 0} → (H → ℕ) → ℕ → State H → ℕ → Given → Out H → Type 0
FewPaid rank most s b g x = Within rank most (most + 1) b g x

-- how many answers more a command that said this may take
abbrev slack : {H : Type 0} → (H → ℕ) → Leaf H → ℕ
slack rank (says code result host) = 0
slack rank (wants question host) = rank host + 1
slack rank (defines def host) = 0
slack rank (stores name value result host) = 0
slack rank (not_mine host) = 0

abbrev slack_on : {H : Type 0} → (H → ℕ) → Onward H → ℕ
slack_on rank (goes said) = slack rank said
slack_on rank (enters page host) = 0

module _ {H : Type 0} (t : LeafTable H) (rank : H → ℕ) (most : ℕ) (ranked : IsRanked H t rank most) where
  few : Closed H (Few rank most) (FewPaid rank most) AnyWord
  few = record {
    falls = λ s b b' g x le h. within_lower rank most x 0 0 b b' g (none_both ((most + 1) * b') ((most + 1) * b) (times_lower rank most b b' le)) h;
    moves = λ s s' b g x same h. h;
    procs = λ s words all b g x is short four h. h;
    renames = λ s words b g x short three h. h;
    ends = λ code result s b g. ended_none ((most + 1) * b) (length g);
    spends = λ s b g. tt;
    sinks = λ s b g. tt;
    pays = λ s b b' g x less h. within_lower rank most x 0 (most + 1) b b' g (none_behind ((most + 1) * b' + (most + 1)) ((most + 1) * b) (times_paid rank most b b' less)) h;
    weakens = λ s b g x h. within_lower rank most x (most + 1) 0 b b g (none_or_more ((most + 1) * b) (most + 1)) h;
    shortens = λ value le. tt;
  }

  -- a command that asks again may take one answer less
  slack_falls : (words : List (List ℕ)) (answer : Answer) (host : H) (said : Onward H) → t.answers words answer host ≡ said → slack_on rank said + 1 ≤ rank host + 1
  slack_falls words answer host (goes (says code result new)) e = rank_one (rank host)
  slack_falls words answer host (goes (wants question new)) e = rank_less (rank new) (rank host) (ranked.falls words answer host new question e)
  slack_falls words answer host (goes (defines def new)) e = rank_one (rank host)
  slack_falls words answer host (goes (stores name value result new)) e = rank_one (rank host)
  slack_falls words answer host (goes (not_mine new)) e = rank_one (rank host)
  slack_falls words answer host (enters page new) e = rank_one (rank host)

  slack_most : (said : Leaf H) → slack rank said ≤ most + 1
  slack_most (says code result new) = none_most (most + 1)
  slack_most (wants question new) = rank_most (rank new) most (ranked.bounded new)
  slack_most (defines def new) = none_most (most + 1)
  slack_most (stores name value result new) = none_most (most + 1)
  slack_most (not_mine new) = none_most (most + 1)

module _ {H : Type 0} (t : LeafTable H) (rank : H → ℕ) (most : ℕ) (ranked : IsRanked H t rank most) (inner : Inner H) (run : every.Runs (Few rank most) (FewPaid rank most) AnyWord (few t rank most ranked) t inner) where
  resumed_few : (said : Onward H) (go : Leaf H → Out H) (k : Next H) (s : State H) (b : ℕ) (g : Given) → ((l : Leaf H) → Within rank most (slack rank l) b g (go l)) → every.GoodNext (Few rank most) (FewPaid rank most) AnyWord (few t rank most ranked) t k → Within rank most (slack_on rank said) b g (resumed t inner said go k s b g)
  resumed_few (goes said) go k s b g on h = on said
  resumed_few (enters page host) go k s b g on h =
      every.run_page_good (Few rank most) (FewPaid rank most) AnyWord (few t rank most ranked) t inner run page k h (with_host s host) b g

  leaf_few : (words : List (List ℕ)) (said : Leaf H) (k : Next H) → every.GoodNext (Few rank most) (FewPaid rank most) AnyWord (few t rank most ranked) t k → (s : State H) (b : ℕ) (g : Given) → Within rank most (slack rank said) b g (leaf t inner words said k s b g)
  leaf_few words (says code result host) k h s b g = h code result (with_host s host) b g
  leaf_few words (defines def host) k h s b g =
      every.define_good (Few rank most) (FewPaid rank most) AnyWord (few t rank most ranked) t def (λ yes s b g x put. put) words k h (with_host s host) b g
  leaf_few words (stores name value result host) k h s b g =
      every.write_variable_good (Few rank most) (FewPaid rank most) AnyWord (few t rank most ranked) t name value result k h (with_host s host) b g
  leaf_few words (not_mine host) k h s b g =
      every.fails_good (Few rank most) (FewPaid rank most) AnyWord (few t rank most ranked) t (unknown_command (arg words 0)) k h (with_host s host) b g
  leaf_few words (wants question host) k h s b [] = asked_one ((most + 1) * b) (rank host)
  leaf_few words (wants question host) k h s b (answer ∷ g) =
      let cost : ℕ = answer.1 + answer_cost answer.0 in
      let s' : State H = with_host s host in
      let said : Onward H = t.answers words answer.0 host in
      let x : Out H = onward t inner words said k s' (b - cost) g in
      every.either (λ (x : Out H). Within rank most (rank host + 1) b (answer ∷ g) x) (nat_lt b cost) (spent s') x tt
      (within_answer rank most x (rank host + 1) (slack_on rank said) b (b - cost) answer g
      (slack_less ((most + 1) * (b - cost)) ((most + 1) * b) (slack_on rank said) (rank host + 1) (times_lower rank most b (b - cost) (less_by b cost)) (slack_falls t rank most ranked words answer.0 host said refl))
      (resumed_few said (λ said. leaf t inner words said k s' (b - cost) g) k s' (b - cost) g
      (λ said. leaf_few words said k h s' (b - cost) g) h))

pub questions_are_few : {H : Type 0} (t : LeafTable H) → QuestionsAreFew t
questions_are_few t rank most ranked names depth w s b g =
    within_few rank most (eval names t depth w s b g) b g
    (every.eval_good (Few rank most) (FewPaid rank most) AnyWord (few t rank most ranked) t
    (λ inner run words short k h s b g.
    within_lower rank most (leaf t inner words (t.calls words s.host) k s b g) (most + 1) (slack rank (t.calls words s.host)) b b g
    (both_more ((most + 1) * b) (slack rank (t.calls words s.host)) (most + 1) (slack_most t rank most ranked (t.calls words s.host)))
    (leaf_few t rank most ranked inner run words (t.calls words s.host) k h s b g))
    names depth w (any_call (Few rank most) (FewPaid rank most) (few t rank most ranked) t w) s b g)
