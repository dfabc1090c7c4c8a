-- Scripts that run.
use Rattle.std.proofs.Common.{◌≡◌, inl, inr, ℕ, ◌+◌, ◌-◌, ◌*◌, ◌<◌, ◌≤◌, List, [], ◌∷◌, length, ap, subst, sym, ◌∙◌, arith, add-zero}
use Rattle.txt_core.specs.Limits.{bucket_count}
use Rattle.outside.specs.declared.question.Answer.{Answer}
use Rattle.outside.specs.declared.question.Question.{Question}
use Rattle.server_host.specs.Hosts.{HostState}
use Rattle.server_host.specs.Leaf.{host_table}
use Rattle.tcl_eval.specs.State.{State, Given}
use Rattle.tcl_eval.specs.Eval.{eval}
use Rattle.tcl_eval.specs.Engine.{IfRan, Leaves, Stands, Answered, FellTo, Falls, with_more, open_words, comes_to as engine_comes_to}
use Rattle.tcl_eval.specs.declared.engine.Engine.{Engine}
use Rattle.tcl_eval.specs.declared.outcome.Work.{Work}
use Rattle.tcl_eval.specs.declared.outcome.Outcome.{Outcome}
use Rattle.tcl_eval.specs.declared.outcome.Outcome.TheVariants as outcomes
use Rattle.ictl.specs.Standing.{outcome_at, comes_to}
use Rattle.ictl.specs.Falls.{askable, suffices, Suffices, StopAsks}
use Rattle.ictl.specs.declared.running.Running.{Running}
use Rattle.ictl.specs.declared.running.Stop.{Stop}
use Rattle.ictl.specs.declared.running.Stop.TheVariants.{Ended, Asks, Spent, TooDeep}
use Rattle.ictl.proofs.Asking.{Gathered, asks_again}

-- where a run stopped, memory didn't want
ran_at : (stop : Stop) (fact : Type 0) → IfRan (outcome_at stop) fact → fact
ran_at (Ended code result) fact h = h
ran_at (Asks question) fact h = h
ran_at Spent fact h = h
ran_at TooDeep fact h = h

pub ran : (outcome : Outcome) (stop : Stop) (fact : Outcome → Type 0) → outcome ≡ outcome_at stop → IfRan outcome (fact outcome) → fact (outcome_at stop)
ran outcome stop fact is h = ran_at stop (fact (outcome_at stop)) (subst (λ (o : Outcome). IfRan o (fact o)) is h)

-- what was begun comes to what the engine comes to
pub began : (names : List (List ℕ)) (outcome : Outcome) (stop : Stop) (depth budget : ℕ) (work : Work) (from state : State HostState) (new : Running) (given : Given)
    → outcome ≡ outcome_at stop → from ≡ state
    → IfRan outcome (Stands names host_table outcome new.engine (record { work = work; depth = depth; budget = budget; state = from }) [])
    → eval names host_table depth work state budget given ≡ comes_to names stop new given
began names outcome stop depth budget work from state new given is same stands =
    ap (λ (s : State HostState). eval names host_table depth work s budget given) (sym same)
    ∙ ran outcome stop (λ o. Stands names host_table o new.engine (record { work = work; depth = depth; budget = budget; state = from }) []) is stands given

-- what goes on with an answer comes to what the engine comes to
pub went_on : (names : List (List ℕ)) (outcome : Outcome) (stop : Stop) (new : Running) (charged : Engine HostState) (old : Running) (answer : Answer) (charge : ℕ)
    → outcome ≡ outcome_at stop → with_more charged charge ≡ old.engine
    → IfRan outcome (Answered names host_table outcome new.engine charged answer)
    → (question : Question) (given : Given) → comes_to names stop new given ≡ comes_to names (Asks question) old ((answer, charge) ∷ given)
went_on names outcome stop new charged old answer charge is same step question given =
    ran outcome stop (λ o. Answered names host_table o new.engine charged answer) is step question charge given
    ∙ ap (λ (e : Engine HostState). engine_comes_to names host_table (outcomes.Asks question) e ((answer, charge) ∷ given)) same

-- nothing was charged
pub uncharged : (engine : Engine HostState) → with_more engine 0 ≡ engine
uncharged engine = ap (λ (n : ℕ). record engine { budget = n }) (add-zero engine.budget)

-- what was charged was left
pub charged_back : (charged engine : Engine HostState) (used : ℕ) → used ≤ engine.budget → charged ≡ record engine { budget = engine.budget - used } → with_more charged used ≡ engine
charged_back charged engine used within is =
    let back : engine.budget - used + used ≡ engine.budget = omega arith in
    ap (λ (e : Engine HostState). with_more e used) is ∙ ap (λ (n : ℕ). record engine { budget = n }) back

leaves_asks : (stop : Stop) (run : Running) → Leaves (outcome_at stop) run.engine → StopAsks stop run
leaves_asks (Ended code result) run h = tt
leaves_asks (Asks question) run h = h
leaves_asks Spent run h = tt
leaves_asks TooDeep run h = tt

-- a run that stopped at a question has it open
pub asks_at : (outcome : Outcome) (stop : Stop) (run : Running) → outcome ≡ outcome_at stop → Leaves outcome run.engine → StopAsks stop run
asks_at outcome stop run is h = leaves_asks stop run (subst (λ (o : Outcome). Leaves o run.engine) is h)

-- ---- questions suffice

fell_suffices : (stop : Stop) (run : Running) (budget questions : ℕ) → FellTo (outcome_at stop) run.engine budget → suffices budget questions → Suffices stop run questions
fell_suffices (Ended code result) run budget questions fell enough = omega (arith, fell, enough)
fell_suffices (Asks question) run budget questions fell enough = omega (arith, fell, enough)
fell_suffices Spent run budget questions fell enough = tt
fell_suffices TooDeep run budget questions fell enough = tt

pub began_suffices : (outcome : Outcome) (stop : Stop) (run : Running) (budget : ℕ) → outcome ≡ outcome_at stop → IfRan outcome (FellTo outcome run.engine budget)
    → (questions : ℕ) → suffices budget questions → Suffices stop run questions
began_suffices outcome stop run budget is fell questions enough =
    fell_suffices stop run budget questions (ran outcome stop (λ o. FellTo o run.engine budget) is fell) enough

fewer_by_cost : (new old gathered had questions : ℕ) → new < old → (bucket_count + 1) * old + (bucket_count - had) ≤ questions → (bucket_count + 1) * new + (bucket_count - gathered) < questions
fewer_by_cost new old gathered had questions less enough = omega (arith, less, enough)

fewer_by_bucket : (new old gathered had questions : ℕ) → new ≤ old → had < gathered → gathered < bucket_count
    → (bucket_count + 1) * old + (bucket_count - had) ≤ questions → (bucket_count + 1) * new + (bucket_count - gathered) < questions
fewer_by_bucket new old gathered had questions le more within enough = omega (arith, le, more, within, enough)

budget_suffices : (new old had questions : ℕ) → new ≤ old → (bucket_count + 1) * old + (bucket_count - had) ≤ questions → (bucket_count + 1) * new ≤ questions
budget_suffices new old had questions le enough = omega (arith, le, enough)

asked_suffices : (question : Question) (new old : Running) (answer : Answer) (questions : ℕ) → Falls host_table (outcomes.Asks question) new.engine old.engine answer → askable old ≤ questions → askable new < questions
asked_suffices question new old answer questions (inl less) enough =
    fewer_by_cost new.engine.budget old.engine.budget (length new.engine.host.gathered) (length old.engine.host.gathered) questions less enough
asked_suffices question new old answer questions (inr again) enough =
    let g : Gathered old.engine.host new.engine.host = asks_again (open_words old.engine) answer old.engine.host new.engine.host again.2.0 again.2.1 in
    fewer_by_bucket new.engine.budget old.engine.budget (length new.engine.host.gathered) (length old.engine.host.gathered) questions again.0 g.more g.within enough

falls_suffices : (stop : Stop) (new old : Running) (answer : Answer) (questions : ℕ) → Falls host_table (outcome_at stop) new.engine old.engine answer → askable old ≤ questions → Suffices stop new questions
falls_suffices (Ended code result) new old answer questions fell enough =
    budget_suffices new.engine.budget old.engine.budget (length old.engine.host.gathered) questions fell enough
falls_suffices (Asks question) new old answer questions fell enough = asked_suffices question new old answer questions fell enough
falls_suffices Spent new old answer questions fell enough = tt
falls_suffices TooDeep new old answer questions fell enough = tt

pub went_on_suffices : (outcome : Outcome) (stop : Stop) (new old : Running) (answer : Answer) → outcome ≡ outcome_at stop → Falls host_table outcome new.engine old.engine answer
    → (questions : ℕ) → askable old ≤ questions → Suffices stop new questions
went_on_suffices outcome stop new old answer is fell questions enough =
    falls_suffices stop new old answer questions (subst (λ (o : Outcome). Falls host_table o new.engine old.engine answer) is fell) enough

-- what was charged makes no question more
pub charged_suffices : (outcome : Outcome) (stop : Stop) (new charged old : Running) (answer : Answer) (used : ℕ) → outcome ≡ outcome_at stop
    → charged.engine ≡ record old.engine { budget = old.engine.budget - used } → Falls host_table outcome new.engine charged.engine answer
    → (questions : ℕ) → askable old ≤ questions → Suffices stop new questions
charged_suffices outcome stop new charged old answer used is same fell questions enough =
    went_on_suffices outcome stop new charged answer is fell questions
    (let budget : charged.engine.budget ≡ old.engine.budget - used = ap (λ (e : Engine HostState). e.budget) same in
    let gathered : length charged.engine.host.gathered ≡ length old.engine.host.gathered = ap (λ (e : Engine HostState). length e.host.gathered) same in
    omega (arith, budget, gathered, enough))
