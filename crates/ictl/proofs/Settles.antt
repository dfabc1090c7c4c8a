-- Runs whose questions get their answers from a list.
use Rattle.std.proofs.Common.{◌≡◌, ℕ, zero, suc, List, [], ◌∷◌, refl, ap, ◌∙◌}
use Rattle.outside.specs.declared.question.Answer.{Answer}
use Rattle.outside.specs.declared.question.Question.{Question}
use Rattle.outside.specs.declared.question.Service.{Service}
use Rattle.outside.specs.declared.question.Service.TheVariants.{Page, Nsv, Schedule, Publish, Save, Inner}
use Rattle.server_host.specs.Hosts.{HostState}
use Rattle.tcl_eval.specs.State.{State, Given, Out, done, asks, spent, too_deep}
use Rattle.ictl.specs.Settle.{Run, Account, account_of, ended, exhausted, nested, Defined, said, stands, gone, sunk, Handler, Onward, behind_inner, behind_other, by_service, come_to, cut, settle}

-- two ways to go on that come to the same
abbrev Alike : Onward → Onward → Type 0
Alike go go' = (a : Answer × ℕ) (inside : ℕ) (left : List Answer) → go a inside left ≡ go' a inside left

inner_alike : (build : ℕ) (x : Defined) (s : State HostState) (acc : Account) (go go' : Onward) → Alike go go'
    → behind_inner build x s acc go ≡ behind_inner build x s acc go'
inner_alike build (said a b' t left) s acc go go' e = e _ _ left
inner_alike build (stands q t) s acc go go' e = refl
inner_alike build (gone t left) s acc go go' e = refl
inner_alike build (sunk t left) s acc go go' e = refl

other_alike : (q : Question) (s : State HostState) (inside : ℕ) (answers : List Answer) (go go' : Onward) → Alike go go'
    → behind_other q s inside answers go ≡ behind_other q s inside answers go'
other_alike q s inside [] go go' e = refl
other_alike q s inside (a ∷ left) go go' e = e _ _ left

service_alike : (inner : Handler) (q : Question) (v : Service) (s : State HostState) (acc : Account) (answers : List Answer) (go go' : Onward) → Alike go go'
    → by_service inner q v s acc answers go ≡ by_service inner q v s acc answers go'
service_alike inner q Inner s acc answers go go' e = inner_alike inner.build (inner.runs q.words acc.budget acc.questions answers) s acc go go' e
service_alike inner q Page s acc answers go go' e = other_alike q s acc.inside answers go go' e
service_alike inner q Nsv s acc answers go go' e = other_alike q s acc.inside answers go go' e
service_alike inner q Schedule s acc answers go go' e = other_alike q s acc.inside answers go go' e
service_alike inner q Publish s acc answers go go' e = other_alike q s acc.inside answers go go' e
service_alike inner q Save s acc answers go go' e = other_alike q s acc.inside answers go go' e

come_alike : (inner : Handler) (o : Out HostState) (n inside : ℕ) (answers : List Answer) (go go' : Onward) → Alike go go'
    → come_to inner o n inside answers go ≡ come_to inner o n inside answers go'
come_alike inner (done code result s b given) n inside answers go go' e = refl
come_alike inner (asks q s b) n inside answers go go' e = service_alike inner q q.service s (account_of b n inside) answers go go' e
come_alike inner (spent s) n inside answers go go' e = refl
come_alike inner (too_deep s) n inside answers go go' e = refl

-- two runs that come to the same with whatever is given settle in the same way
pub settle_same : (inner : Handler) (n inside : ℕ) (f g : Run) → ((given : Given) → f given ≡ g given) → (answers : List Answer)
    → settle inner n inside f answers ≡ settle inner n inside g answers
settle_same inner zero inside f g e answers = ap (λ (o : Out HostState). cut o inside answers) (e [])
settle_same inner (suc n) inside f g e answers =
    ap (λ (o : Out HostState). come_to inner o n inside answers (λ a t left. settle inner n t (λ given. f (a ∷ given)) left)) (e [])
    ∙ come_alike inner (g []) n inside answers (λ a t left. settle inner n t (λ given. f (a ∷ given)) left) (λ a t left. settle inner n t (λ given. g (a ∷ given)) left)
    (λ a t left. settle_same inner n t (λ given. f (a ∷ given)) (λ given. g (a ∷ given)) (λ given. e (a ∷ given)) left)

-- a run that has ended takes no answer, and asks nothing
pub done_settles : (inner : Handler) (n inside : ℕ) (run : Run) (answers : List Answer) (code : ℕ) (result : List ℕ) (s : State HostState) (b : ℕ) (given : Given)
    → run [] ≡ done code result s b given → settle inner n inside run answers ≡ ended code result s (account_of b n inside) answers
done_settles inner zero inside run answers code result s b given e = ap (λ (o : Out HostState). cut o inside answers) e
done_settles inner (suc n) inside run answers code result s b given e =
    ap (λ (o : Out HostState). come_to inner o n inside answers (λ a t left. settle inner n t (λ given. run (a ∷ given)) left)) e

pub spent_settles : (inner : Handler) (n inside : ℕ) (run : Run) (answers : List Answer) (s : State HostState)
    → run [] ≡ spent s → settle inner n inside run answers ≡ exhausted s inside answers
spent_settles inner zero inside run answers s e = ap (λ (o : Out HostState). cut o inside answers) e
spent_settles inner (suc n) inside run answers s e =
    ap (λ (o : Out HostState). come_to inner o n inside answers (λ a t left. settle inner n t (λ given. run (a ∷ given)) left)) e

pub deep_settles : (inner : Handler) (n inside : ℕ) (run : Run) (answers : List Answer) (s : State HostState)
    → run [] ≡ too_deep s → settle inner n inside run answers ≡ nested s inside answers
deep_settles inner zero inside run answers s e = ap (λ (o : Out HostState). cut o inside answers) e
deep_settles inner (suc n) inside run answers s e =
    ap (λ (o : Out HostState). come_to inner o n inside answers (λ a t left. settle inner n t (λ given. run (a ∷ given)) left)) e

-- one that asks goes on with an answer
pub asks_settle : (inner : Handler) (n m inside : ℕ) (run : Run) (answers : List Answer) (q : Question) (s : State HostState) (b : ℕ) → n ≡ suc m → run [] ≡ asks q s b
    → settle inner n inside run answers ≡ by_service inner q q.service s (account_of b m inside) answers (λ a t left. settle inner m t (λ given. run (a ∷ given)) left)
asks_settle inner n m inside run answers q s b is e =
    ap (λ (k : ℕ). settle inner k inside run answers) is
    ∙ ap (λ (o : Out HostState). come_to inner o m inside answers (λ a t left. settle inner m t (λ given. run (a ∷ given)) left)) e
