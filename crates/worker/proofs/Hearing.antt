-- How questions are answered, one after the other.
use Rattle.std.proofs.Common.{◌≡◌, ◌⊎◌, inl, inr, ⊎_elim, ℕ, ◌+◌, ◌-◌, ◌<◌, ◌≤◌, Bool, true, false, List, [], ◌∷◌, ◌++◌, Option, None, Some, Result, Ok, Err, IfOk, refl, sym, ap, ◌∙◌, subst, append_assoc, arith}
use Rattle.std.proofs.lemmas.List.{append-nil}
use Rattle.outside.specs.Faults.{Rose, last_count}
use Rattle.outside.specs.Paging.{PageMap}
use Rattle.outside.specs.declared.question.Answer.{Answer}
use Rattle.outside.specs.declared.question.Question.{Question}
use Rattle.tcl_eval.specs.declared.outcome.Outcome.{Outcome}
use Rattle.tcl_eval.specs.declared.outcome.Outcome.TheVariants as outcomes
use Rattle.tcl_eval.specs.State.{State}
use Rattle.server_host.specs.Hosts.{HostState}
use Rattle.ictl.specs.Main.{Progress, asks, writes, ends}
use Rattle.ictl.specs.Falls.{StandsAt as IsAt, IsEnd, Falls, number_of}
use Rattle.ictl.specs.Interps.{gives, taken, Counts, interp_written, UnlessNoMemory, GoesOn, interp_state}
use Rattle.ictl.specs.Laws.{QuestionsAreAsked}
use Rattle.ictl.specs.declared.interp.Interp.{Interp}
use Rattle.ictl.specs.declared.next.Next.{Next}
use Rattle.ictl.specs.declared.next.Next.TheVariants as next
use Rattle.shared_state.specs.declared.shared.Passes.{Passes}
use Rattle.worker.specs.Turns.{Turn, ProgressAsks, IsTurnOf, answer_of, AreAsked, AtMostOneMore, GainsTurns}
use Rattle.worker.specs.Outside.{IsHeldTurn, AreHeldBy, AreHeld, fault_of, page_faults, RoseBy}
use Rattle.worker.specs.Asking.{published_at, published_after, CameByTurns, AsksOne, MayStand, Hears}
use Rattle.worker.proofs.Turning.{gains_none, gains_more}

-- ---- pages

pub held_none : (held : Option PageMap) → AreHeld held []
held_none None = tt
held_none (Some map) = tt

pub held_one : (held : Option PageMap) (turn : Turn) → ((map : PageMap) → held ≡ Some map → IsHeldTurn map turn) → AreHeld held (turn ∷ [])
held_one None turn f = tt
held_one (Some map) turn f = (f map refl, tt)

by_more : (map : PageMap) (ts us : List Turn) → AreHeldBy map ts → AreHeldBy map us → AreHeldBy map (ts ++ us)
by_more map [] us g h = h
by_more map (t ∷ ts) us g h = (g.0, by_more map ts us g.1 h)

pub held_more : (held : Option PageMap) (ts us : List Turn) → AreHeld held ts → AreHeld held us → AreHeld held (ts ++ us)
held_more None ts us g h = tt
held_more (Some map) ts us g h = by_more map ts us g h

pub faults_more : (ts us : List Turn) → page_faults (ts ++ us) ≡ page_faults ts + page_faults us
faults_more [] us = omega arith
faults_more (t ∷ ts) us = let e = faults_more ts us in omega (arith, e)

pub rose_more : (m n a b c : ℕ) → RoseBy m a b → RoseBy n b c → RoseBy (m + n) a c
rose_more m n a b c (inl g) (inl h) = inl (omega (arith, g, h))
rose_more m n a b c (inl g) (inr h) = inr h
rose_more m n a b c (inr g) (inl h) = inr (omega (arith, g, h))
rose_more m n a b c (inr g) (inr h) = inr h

pub rose_two : (ts us : List Turn) (a b c : ℕ) → RoseBy (page_faults ts) a b → RoseBy (page_faults us) b c → RoseBy (page_faults (ts ++ us)) a c
rose_two ts us a b c g h = subst (λ (n : ℕ). RoseBy n a c) (sym (faults_more ts us)) (rose_more (page_faults ts) (page_faults us) a b c g h)

pub rose_none : (a : ℕ) → RoseBy 0 a a
rose_none a = inl (omega arith)

-- ---- one question

pub put_to : {E : Type 0} (moment : ℕ) (question : Question) (p q : Passes) (held : Option PageMap) (before after : ℕ) (turn : Turn) (result : Result Answer E) (now : Option ℕ)
    → GainsTurns p (turn ∷ []) q → IsTurnOf moment question.service question.words turn
    → IfOk result (λ answer. answer_of question turn ≡ Some answer) → AreHeld held (turn ∷ []) → RoseBy (page_faults (turn ∷ [])) before after
    → now ≡ published_at turn → AsksOne moment question p held before result q after now
put_to moment question p q held before after turn (Ok answer) now gains is answers pages counts known =
    record { turns = turn ∷ []; gains = gains; came = (is, answers); pages = pages; counts = counts; published = known }
put_to moment question p q held before after turn (Err e) now gains is answers pages counts known =
    record { turns = turn ∷ []; gains = gains; came = is; pages = pages; counts = counts; published = tt }

pub put_nowhere : {E : Type 0} (moment : ℕ) (question : Question) (p : Passes) (held : Option PageMap) (before : ℕ) (e : E) (now : Option ℕ)
    → AsksOne moment question p held before (Err e) p before now
put_nowhere moment question p held before e now =
    record { turns = []; gains = gains_none p; came = tt; pages = held_none held; counts = rose_none before; published = tt }

-- ---- many questions

pub asked_more : (moment : ℕ) (f : List Answer → Progress) (ts : List Turn) (given : List Answer) (turn : Turn) (answer : Answer) (question : Question)
    → AreAsked moment f ts given → ProgressAsks (f given) question → IsTurnOf moment question.service question.words turn → answer_of question turn ≡ Some answer
    → AreAsked moment f (ts ++ turn ∷ []) (given ++ answer ∷ [])
asked_more moment f [] [] turn answer question g stands is answers = (question, stands, is, answers, tt)
asked_more moment f [] (a ∷ bs) turn answer question g stands is answers = absurd g
asked_more moment f (t ∷ ts) [] turn answer question g stands is answers = absurd g
asked_more moment f (t ∷ ts) (a ∷ bs) turn answer question g stands is answers =
    (g.0, g.1, g.2, g.3, asked_more moment (λ given. f (a ∷ given)) ts bs turn answer question g.4 stands is answers)

-- what is given the same asks the same
pub asked_same : (moment : ℕ) (f g : List Answer → Progress) (ts : List Turn) (given : List Answer) → ((further : List Answer) → f further ≡ g further) → AreAsked moment f ts given → AreAsked moment g ts given
asked_same moment f g [] [] same h = h
asked_same moment f g [] (a ∷ bs) same h = absurd h
asked_same moment f g (t ∷ ts) [] same h = absurd h
asked_same moment f g (t ∷ ts) (a ∷ bs) same h =
    (h.0, (h.1.0, h.1.1, sym (same []) ∙ h.1.2), h.2, h.3, asked_same moment (λ given. f (a ∷ given)) (λ given. g (a ∷ given)) ts bs (λ further. same (a ∷ further)) h.4)

pub more_same : (moment : ℕ) (f g : List Answer → Progress) (given other : List Answer) (more : List Turn) → f given ≡ g other → AtMostOneMore moment f given more → AtMostOneMore moment g other more
more_same moment f g given other [] same h = h
more_same moment f g given other (t ∷ []) same h = (h.0, (h.1.0, h.1.1, sym same ∙ h.1.2), h.2)
more_same moment f g given other (t ∷ u ∷ ts) same h = absurd h

-- what has ended asks nothing
ended_asks : (outcome : Outcome) (state : State HostState) (inside : ℕ) (left : List Answer) (question : Question) → ProgressAsks (ends outcome state inside left) question → ⊥
ended_asks outcome state inside left question h = let e = h.2 in cc

pub ended_turns : (moment : ℕ) (outcome : Outcome) (state : State HostState) (inside : ℕ) (ts : List Turn) (given : List Answer) → AreAsked moment (λ further. ends outcome state inside further) ts given → (ts ≡ []) × (given ≡ [])
ended_turns moment outcome state inside [] [] h = (refl, refl)
ended_turns moment outcome state inside [] (a ∷ bs) h = absurd h
ended_turns moment outcome state inside (t ∷ ts) [] h = absurd h
ended_turns moment outcome state inside (t ∷ ts) (a ∷ bs) h = absurd (ended_asks outcome state inside [] h.0 h.1)

pub ended_more : (moment : ℕ) (outcome : Outcome) (state : State HostState) (inside : ℕ) (given : List Answer) (more : List Turn) → AtMostOneMore moment (λ further. ends outcome state inside further) given more → more ≡ []
ended_more moment outcome state inside given [] h = refl
ended_more moment outcome state inside given (t ∷ []) h = absurd (ended_asks outcome state inside given h.0 h.1)
ended_more moment outcome state inside given (t ∷ u ∷ ts) h = absurd h

published_last : (known : Option ℕ) (ts : List Turn) (t : Turn) → published_after known (ts ++ t ∷ []) ≡ published_at t
published_last known [] t = refl
published_last known (u ∷ ts) t = published_last (published_at u) ts t

-- ---- a stretch of a run

-- what was asked so far, and what the run goes on as
pub record SoFar (names : List (List ℕ)) (moment : ℕ) (f : List Answer → Progress) (p : Passes) (held : Option PageMap) (before : ℕ) (known : Option ℕ)
    (answers : List Answer) (now : Next) (inside : ℕ) (interp : Interp) (q : Passes) (after : ℕ) (noted : Option ℕ) (all : List Answer) : Type 0 where
  pub turns : List Turn
  pub given : List Answer
  pub all_are : all ≡ answers ++ given
  pub gains : GainsTurns p turns q
  pub asked : AreAsked moment f turns given
  pub pages : AreHeld held turns
  pub counts : RoseBy (page_faults turns) before after
  pub published : noted ≡ published_after known turns
  pub goes : UnlessNoMemory now ((further : List Answer) → f (given ++ further) ≡ gives names now inside interp further)

unless_all : (now : Next) {P : Type 0} → P → UnlessNoMemory now P
unless_all (next.Asks question) x = x
unless_all (next.Write response) x = x
unless_all (next.Ended outcome) x = x
unless_all next.NoMemory x = tt

pub so_far_begins : (names : List (List ℕ)) (moment : ℕ) (first : Next) (inside within : ℕ) (interp : Interp) (p : Passes) (held : Option PageMap) (before : ℕ) (known : Option ℕ) (answers : List Answer)
    → within ≡ inside → SoFar names moment (λ further. gives names first inside interp further) p held before known answers first within interp p before known answers
so_far_begins names moment first inside within interp p held before known answers same = record {
  turns = [];
  given = [];
  all_are = sym (append-nil answers);
  gains = gains_none p;
  asked = tt;
  pages = held_none held;
  counts = rose_none before;
  published = refl;
  goes = unless_all first (λ further. ap (λ (n : ℕ). gives names first n interp further) (sym same));
}

-- where it stands at a question, that is open to it
pub so_far_stands : (names : List (List ℕ)) (law : QuestionsAreAsked) (f : List Answer → Progress) (given : List Answer) (question : Question) (inside : ℕ) (interp : Interp)
    → ((further : List Answer) → f (given ++ further) ≡ gives names (next.Asks question) inside interp further) → ProgressAsks (f given) question
so_far_stands names law f given question inside interp goes =
    let l = law names question interp inside in (l.0, l.1, ap f (sym (append-nil given)) ∙ (goes [] ∙ l.2))

came_one : (E : Type 0) (moment : ℕ) (question : Question) (ts : List Turn) (answer : Answer) → CameByTurns {E = E} moment question ts (Ok answer)
    → (turn : Turn) × (ts ≡ turn ∷ []) × IsTurnOf moment question.service question.words turn × (answer_of question turn ≡ Some answer)
came_one E moment question [] answer h = absurd h
came_one E moment question (t ∷ []) answer h = (t, refl, h.0, h.1)
came_one E moment question (t ∷ u ∷ ts) answer h = absurd h

came_lost : {E : Type 0} (moment : ℕ) (question : Question) (f : List Answer → Progress) (given : List Answer) (ts : List Turn) (e : E) → CameByTurns {E = E} moment question ts (Err e) → ProgressAsks (f given) question → AtMostOneMore moment f given ts
came_lost moment question f given [] e h stands = tt
came_lost moment question f given (t ∷ []) e h stands = (question, stands, h)
came_lost moment question f given (t ∷ u ∷ ts) e h stands = absurd h

-- what is counted in two calls
pub taken_both : (a0 a1 a2 w0 w1 w2 inside : ℕ) → a0 + w1 ≤ a1 + w0 → a1 + w2 ≤ a2 + w1 → (inside + ((a1 + w0) - (a0 + w1))) + ((a2 + w1) - (a1 + w2)) ≡ inside + ((a2 + w0) - (a0 + w2))
taken_both a0 a1 a2 w0 w1 w2 inside g h = omega (arith, g, h)

goes_far : (names : List (List ℕ)) (f : List Answer → Progress) (given : List Answer) (answer : Answer) (question : Question) (after : Next) (inside took : ℕ) (old new : Interp)
    → ((further : List Answer) → f (given ++ further) ≡ gives names (next.Asks question) inside old further) → GoesOn names after took new old answer
    → UnlessNoMemory after ((further : List Answer) → f ((given ++ answer ∷ []) ++ further) ≡ gives names after (inside + took) new further)
goes_far names f given answer question (next.Asks other) inside took old new goes on =
    λ further. ap f (append_assoc given (answer ∷ []) further) ∙ (goes (answer ∷ further) ∙ sym (on question inside further))
goes_far names f given answer question (next.Write response) inside took old new goes on =
    λ further. ap f (append_assoc given (answer ∷ []) further) ∙ (goes (answer ∷ further) ∙ sym (on question inside further))
goes_far names f given answer question (next.Ended outcome) inside took old new goes on =
    λ further. ap f (append_assoc given (answer ∷ []) further) ∙ (goes (answer ∷ further) ∙ sym (on question inside further))
goes_far names f given answer question next.NoMemory inside took old new goes on = tt

pub so_far_more : {E : Type 0} (names : List (List ℕ)) (law : QuestionsAreAsked) (moment : ℕ) (f : List Answer → Progress) (p : Passes) (held : Option PageMap) (before : ℕ) (known : Option ℕ) (answers : List Answer)
    (question : Question) (inside within : ℕ) (old new : Interp) (q r : Passes) (middle after : ℕ) (published now : Option ℕ) (all more : List Answer) (answer : Answer) (came : Next) (took : ℕ)
    → SoFar names moment f p held before known answers (next.Asks question) inside old q middle published all
    → AsksOne {E = E} moment question q held middle (Ok answer) r after now → more ≡ all ++ answer ∷ [] → GoesOn names came took new old answer → within ≡ inside + took
    → SoFar names moment f p held before known answers came within new r after now more
so_far_more {E} names law moment f p held before known answers question inside within old new q r middle after published now all more answer came took s o adds on is =
    let stands = so_far_stands names law f s.given question inside old s.goes in
    let c = came_one E moment question o.turns answer o.came in
    record {
      turns = s.turns ++ o.turns;
      given = s.given ++ answer ∷ [];
      all_are = adds ∙ (ap (λ (l : List Answer). l ++ answer ∷ []) s.all_are ∙ append_assoc answers s.given (answer ∷ []));
      gains = gains_more p q r s.turns o.turns s.gains o.gains;
      asked = subst (λ (us : List Turn). AreAsked moment f (s.turns ++ us) (s.given ++ answer ∷ [])) (sym c.1) (asked_more moment f s.turns s.given c.0 answer question s.asked stands c.2 c.3);
      pages = held_more held s.turns o.turns s.pages o.pages;
      counts = rose_two s.turns o.turns before middle after s.counts o.counts;
      published = o.published ∙ (ap (λ (us : List Turn). published_after None us) c.1 ∙ (sym (published_last known s.turns c.0) ∙ ap (λ (us : List Turn). published_after known (s.turns ++ us)) (sym c.1)));
      goes = subst (λ (n : ℕ). UnlessNoMemory came ((further : List Answer) → f ((s.given ++ answer ∷ []) ++ further) ≡ gives names came n new further)) (sym is) (goes_far names f s.given answer question came inside took old new s.goes on);
    }

-- it ends where the answer was lost
pub so_far_lost : {E : Type 0} (names : List (List ℕ)) (law : QuestionsAreAsked) (moment : ℕ) (f : List Answer → Progress) (p : Passes) (held : Option PageMap) (before : ℕ) (known : Option ℕ) (answers : List Answer)
    (question : Question) (inside within : ℕ) (old new : Interp) (q r : Passes) (middle after : ℕ) (published now : Option ℕ) (all more : List Answer) (e : E)
    → SoFar names moment f p held before known answers (next.Asks question) inside old q middle published all
    → AsksOne moment question q held middle (Err e) r after now → more ≡ all
    → Hears names moment f p held before known answers next.NoMemory within new r after now more
so_far_lost names law moment f p held before known answers question inside within old new q r middle after published now all more e s o same =
    let stands = so_far_stands names law f s.given question inside old s.goes in
    record {
      turns = s.turns;
      given = s.given;
      more = o.turns;
      all_are = same ∙ s.all_are;
      gains = gains_more p q r s.turns o.turns s.gains o.gains;
      asked = s.asked;
      behind = came_lost moment question f s.given o.turns e o.came stands;
      pages = held_more held s.turns o.turns s.pages o.pages;
      counts = rose_two s.turns o.turns before middle after s.counts o.counts;
      published = tt;
      goes = tt;
    }

-- it ends where something else comes of it
no_more : (moment : ℕ) (f : List Answer → Progress) (given : List Answer) (came : Next) → ((question : Question) → came ≡ next.Asks question → ⊥) → MayStand moment f given [] came
no_more moment f given (next.Asks question) none = absurd (none question refl)
no_more moment f given (next.Write response) none = refl
no_more moment f given (next.Ended outcome) none = refl
no_more moment f given next.NoMemory none = tt

pub so_far_ends : (names : List (List ℕ)) (moment : ℕ) (f : List Answer → Progress) (p : Passes) (held : Option PageMap) (before : ℕ) (known : Option ℕ) (answers : List Answer)
    (came : Next) (inside : ℕ) (interp : Interp) (q : Passes) (after : ℕ) (published : Option ℕ) (all : List Answer)
    → SoFar names moment f p held before known answers came inside interp q after published all → ((question : Question) → came ≡ next.Asks question → ⊥)
    → Hears names moment f p held before known answers came inside interp q after published all
so_far_ends names moment f p held before known answers came inside interp q after published all s none = record {
  turns = s.turns;
  given = s.given;
  more = [];
  all_are = s.all_are;
  gains = subst (λ (ts : List Turn). GainsTurns p ts q) (sym (append-nil s.turns)) s.gains;
  asked = s.asked;
  behind = no_more moment f s.given came none;
  pages = subst (λ (ts : List Turn). AreHeld held ts) (sym (append-nil s.turns)) s.pages;
  counts = subst (λ (ts : List Turn). RoseBy (page_faults ts) before after) (sym (append-nil s.turns)) s.counts;
  published = unless_all came s.published;
  goes = s.goes;
}

-- ---- the number that falls

-- how many questions may still go out
abbrev pub steps_left : Next → Interp → ℕ
steps_left (next.Asks question) interp = number_of interp + 1
steps_left (next.Write response) interp = 0
steps_left (next.Ended outcome) interp = 0
steps_left next.NoMemory interp = 0

pub steps_fall : (came : Next) (interp : Interp) (before : ℕ) → Falls came interp before → steps_left came interp < before + 1
steps_fall (next.Asks question) interp before h = omega (arith, h)
steps_fall (next.Write response) interp before h = omega arith
steps_fall (next.Ended outcome) interp before h = omega arith
steps_fall next.NoMemory interp before h = omega arith

-- ---- a stretch of another run

impossible : (names : List (List ℕ)) (moment : ℕ) (f : List Answer → Progress) (given : List Answer) (more : List Turn) (came : Next) (inside within : ℕ) (old new : Interp) (state : State HostState)
    → ((further : List Answer) → f further ≡ ends outcomes.NoMemory state within further) → MayStand moment f given more came → IsAt came new
    → UnlessNoMemory came ((further : List Answer) → f (given ++ further) ≡ gives names came inside new further) → came ≡ next.NoMemory
impossible names moment f given more (next.Asks question) inside within old new state is stand at goes = absurd stand
impossible names moment f given more (next.Write response) inside within old new state is stand at goes = let a = is (given ++ []) in let b = goes [] in absurd (cc)
impossible names moment f given more (next.Ended outcome) inside within old new state is stand at goes =
    let a = is (given ++ []) in let b = goes [] in let c : outcome ≡ outcomes.NoMemory = cc in absurd (subst IsEnd c at.0)
impossible names moment f given more next.NoMemory inside within old new state is stand at goes = refl

stand_same : (moment : ℕ) (f g : List Answer → Progress) (given : List Answer) (more : List Turn) (came : Next) → f given ≡ g given → MayStand moment f given more came → MayStand moment g given more came
stand_same moment f g given more (next.Asks question) same h = h
stand_same moment f g given more (next.Write response) same h = h
stand_same moment f g given more (next.Ended outcome) same h = h
stand_same moment f g given more next.NoMemory same h = more_same moment f g given given more same h

goes_same : (names : List (List ℕ)) (run f : List Answer → Progress) (given : List Answer) (came : Next) (within : ℕ) (new : Interp) → ((further : List Answer) → run further ≡ f further)
    → UnlessNoMemory came ((further : List Answer) → f (given ++ further) ≡ gives names came within new further) → UnlessNoMemory came ((further : List Answer) → run (given ++ further) ≡ gives names came within new further)
goes_same names run f given (next.Asks question) within new same h = λ further. same (given ++ further) ∙ h further
goes_same names run f given (next.Write response) within new same h = λ further. same (given ++ further) ∙ h further
goes_same names run f given (next.Ended outcome) within new same h = λ further. same (given ++ further) ∙ h further
goes_same names run f given next.NoMemory within new same h = tt

hears_same : (names : List (List ℕ)) (moment : ℕ) (run f : List Answer → Progress) (p : Passes) (held : Option PageMap) (before : ℕ) (known : Option ℕ) (answers : List Answer)
    (came : Next) (within : ℕ) (new : Interp) (q : Passes) (after : ℕ) (published : Option ℕ) (all : List Answer)
    → ((further : List Answer) → run further ≡ f further) → Hears names moment f p held before known answers came within new q after published all
    → Hears names moment run p held before known answers came within new q after published all
hears_same names moment run f p held before known answers came within new q after published all same h = record {
  turns = h.turns;
  given = h.given;
  more = h.more;
  all_are = h.all_are;
  gains = h.gains;
  asked = asked_same moment f run h.turns h.given (λ further. sym (same further)) h.asked;
  behind = stand_same moment f run h.given h.more came (sym (same h.given)) h.behind;
  pages = h.pages;
  counts = h.counts;
  published = h.published;
  goes = goes_same names run f h.given came within new same h.goes;
}

no_turns : (ts more : List Turn) → ts ≡ [] → more ≡ [] → ts ++ more ≡ []
no_turns ts more a b = ap (λ (l : List Turn). l ++ more) a ∙ b

stands_none : (moment : ℕ) (f : List Answer → Progress) (given : List Answer) (more : List Turn) (came : Next) → came ≡ next.NoMemory → MayStand moment f given more came → AtMostOneMore moment f given more
stands_none moment f given more (next.Asks question) is h = absurd h
stands_none moment f given more (next.Write response) is h = absurd (cc)
stands_none moment f given more (next.Ended outcome) is h = absurd (cc)
stands_none moment f given more next.NoMemory is h = h

-- memory wanted at once: nothing was asked
hears_nothing : (names : List (List ℕ)) (moment : ℕ) (run : List Answer → Progress) (inside : ℕ) (old : Interp) (p : Passes) (held : Option PageMap) (before : ℕ) (known : Option ℕ) (answers : List Answer)
    (came : Next) (within : ℕ) (new : Interp) (q : Passes) (after : ℕ) (published : Option ℕ) (all : List Answer)
    → IsAt came new → Hears names moment (λ further. gives names next.NoMemory inside old further) p held before known answers came within new q after published all
    → Hears names moment run p held before known answers came within new q after published all
hears_nothing names moment run inside old p held before known answers came within new q after published all at h =
    let is : came ≡ next.NoMemory = impossible names moment (λ further. gives names next.NoMemory inside old further) h.given h.more came within inside old new (interp_state old) (λ further. refl) h.behind at h.goes in
    let none = ended_turns moment outcomes.NoMemory (interp_state old) inside h.turns h.given h.asked in
    let lost = ended_more moment outcomes.NoMemory (interp_state old) inside h.given h.more (stands_none moment (λ further. gives names next.NoMemory inside old further) h.given h.more came is h.behind) in
    let nothing = no_turns h.turns h.more none.0 lost in
    subst (λ (n : Next). Hears names moment run p held before known answers n within new q after published all) (sym is) (record {
      turns = [];
      given = [];
      more = [];
      all_are = h.all_are ∙ ap (λ (l : List Answer). answers ++ l) none.1;
      gains = subst (λ (ts : List Turn). GainsTurns p ts q) nothing h.gains;
      asked = tt;
      behind = tt;
      pages = held_none held;
      counts = subst (λ (ts : List Turn). RoseBy (page_faults ts) before after) nothing h.counts;
      published = tt;
      goes = tt;
    })

-- What was heard from what an interpreter gives that answered so is heard of the run for which it stands.
pub hears_of : (names : List (List ℕ)) (moment : ℕ) (run : List Answer → Progress) (first : Next) (inside : ℕ) (old : Interp) (p : Passes) (held : Option PageMap) (before : ℕ) (known : Option ℕ) (answers : List Answer)
    (came : Next) (within : ℕ) (new : Interp) (q : Passes) (after : ℕ) (published : Option ℕ) (all : List Answer)
    → UnlessNoMemory first ((further : List Answer) → run further ≡ gives names first inside old further) → IsAt came new
    → Hears names moment (λ further. gives names first inside old further) p held before known answers came within new q after published all
    → Hears names moment run p held before known answers came within new q after published all
hears_of names moment run first inside old p held before known answers came within new q after published all stands at h =
    elim first as (λ first. UnlessNoMemory first ((further : List Answer) → run further ≡ gives names first inside old further)
    → Hears names moment (λ further. gives names first inside old further) p held before known answers came within new q after published all
    → Hears names moment run p held before known answers came within new q after published all) [
      | next.Asks question ↦ λ stands h. hears_same names moment run (λ further. gives names (next.Asks question) inside old further) p held before known answers came within new q after published all stands h
      | next.Write response ↦ λ stands h. hears_same names moment run (λ further. gives names (next.Write response) inside old further) p held before known answers came within new q after published all stands h
      | next.Ended outcome ↦ λ stands h. hears_same names moment run (λ further. gives names (next.Ended outcome) inside old further) p held before known answers came within new q after published all stands h
      | next.NoMemory ↦ λ stands h. hears_nothing names moment run inside old p held before known answers came within new q after published all at h
    ] stands h

-- where something else than want of memory came, the run was begun
pub begun : (names : List (List ℕ)) (moment : ℕ) (fact : Type 0) (first : Next) (inside : ℕ) (old : Interp) (p : Passes) (held : Option PageMap) (before : ℕ) (known : Option ℕ) (answers : List Answer)
    (came : Next) (within : ℕ) (new : Interp) (q : Passes) (after : ℕ) (published : Option ℕ) (all : List Answer)
    → UnlessNoMemory first fact → IsAt came new → (came ≡ next.NoMemory → ⊥)
    → Hears names moment (λ further. gives names first inside old further) p held before known answers came within new q after published all → fact
begun names moment fact (next.Asks question) inside old p held before known answers came within new q after published all f at some h = f
begun names moment fact (next.Write response) inside old p held before known answers came within new q after published all f at some h = f
begun names moment fact (next.Ended outcome) inside old p held before known answers came within new q after published all f at some h = f
begun names moment fact next.NoMemory inside old p held before known answers came within new q after published all f at some h =
    absurd (some (impossible names moment (λ further. gives names next.NoMemory inside old further) h.given h.more came within inside old new (interp_state old) (λ further. refl) h.behind at h.goes))
