-- What is answered, from what was received.
use Rattle.std.proofs.Common.{◌≡◌, ℕ, List, [], ◌++◌, drop, Option, Some, None, Result, Ok, Err, refl, sym, ap, ◌∙◌, subst, append_assoc, append-nil}
use Rattle.std.proofs.lemmas.List.{drop-append-le}
use Rattle.outside.specs.Faults.{Rose}
use Rattle.http_req.specs.declared.request.Request.{Request}
use Rattle.http_req.specs.declared.request.Got.{Got}
use Rattle.http_req.specs.declared.request.Got.TheVariants as got
use Rattle.http_req.specs.Outcomes.{Whole, End, Truncated, Refused, ended, Gets}
use Rattle.http_req.specs.Readings.{left_of, Says, Answers, Consumes, OnReadFault, Stops, Received}
use Rattle.http_req.proofs.Receiving.{gets_more, whole_within, whole_decided, refused_decided}

some_is : {A : Type 0} (x y : A) → Some x ≡ Some y → x ≡ y
some_is x y e = cc

-- the bytes that are told, as those that came and those that are left
told : (a : List ℕ) (r s : Option (List ℕ)) (peer : List ℕ) (result : Result Request Got) (f g : ℕ) (b : List ℕ) → (received : Received a r f peer result b s g)
    → (input : List ℕ) → left_of a r ≡ Some input
    → (left : List ℕ) × (input ≡ (a ++ received.given) ++ left) × (s ≡ Some left) × ((rest : List ℕ) × (r ≡ Some rest))
told a None s peer result f g b received input is = absurd (cc)
told a (Some rest) s peer result f g b received input is =
    let given = received.gives rest refl in (
      given.0,
      sym (some_is (a ++ rest) input is) ∙ ap (λ (t : List ℕ). a ++ t) given.1 ∙ sym (append_assoc a received.given given.0),
      given.2,
      (rest, refl),
    )

pub answers_request : (a : List ℕ) (r : Option (List ℕ)) (f : ℕ) (peer : List ℕ) (request : Request) (b : List ℕ) (s : Option (List ℕ)) (g : ℕ)
    → Received a r f peer (Ok request) b s g → Answers (left_of a r) peer (got.Request request) (left_of b s)
answers_request a r f peer request b s g received input is =
    let parts = told a r s peer (Ok request) f g b received input is in
    let all = a ++ received.given in
    let used = received.receives.0 in
    let gets = received.receives.1 in
    let within = whole_within all peer request used gets in (
      b ++ parts.0,
      ap (left_of b) parts.2,
      (
        used,
        subst (λ (t : List ℕ). Gets t peer (Whole request used)) (sym parts.1) (gets_more all parts.0 peer (Whole request used) (whole_decided request used) gets),
        ap (λ (t : List ℕ). t ++ parts.0) received.receives.2 ∙ sym (drop-append-le used all parts.0 within) ∙ ap (drop used) (sym parts.1),
      ),
    )

-- at the end of the input nothing is left
at_end : (a : List ℕ) (r s : Option (List ℕ)) (rest left all input : List ℕ) → r ≡ Some rest → s ≡ Some left → input ≡ all ++ left
    → ((given : List ℕ) → r ≡ Some given → s ≡ Some []) → all ≡ input
at_end a r s rest left all input told is parts ends =
    let none : [] ≡ left = some_is [] left (sym (ends rest told) ∙ is) in
    sym (parts ∙ ap (λ (t : List ℕ). all ++ t) (sym none) ∙ append-nil all)

pub answers_other : (a : List ℕ) (r : Option (List ℕ)) (f : ℕ) (peer : List ℕ) (answer : Got) (b : List ℕ) (s : Option (List ℕ)) (g : ℕ)
    → Received a r f peer (Err answer) b s g → Answers (left_of a r) peer answer (left_of b s)
answers_other a r f peer answer b s g received input is =
    let parts = told a r s peer (Err answer) f g b received input is in
    let kept : b ++ parts.0 ≡ input = ap (λ (t : List ℕ). t ++ parts.0) received.receives.1 ∙ sym parts.1 in (
      b ++ parts.0,
      ap (left_of b) parts.2,
      go answer (a ++ received.given) parts.0 parts.1 kept parts.3.0 parts.3.1 parts.2 received.receives.0,
    )
  where
    go : (answer : Got) (all left : List ℕ) → input ≡ all ++ left → b ++ left ≡ input → (rest : List ℕ) → r ≡ Some rest → s ≡ Some left
        → Stops all peer r f s g answer → Says input peer answer (b ++ left)
    go (got.Request request) all left parts kept rest told is stops = absurd stops
    go got.End all left parts kept rest told is stops =
        (subst (λ (t : List ℕ). Gets t peer End) (at_end a r s rest left all input told is parts stops.1) stops.0, kept)
    go (got.Truncated have) all left parts kept rest told is stops =
        (subst (λ (t : List ℕ). Gets t peer (Truncated have)) (at_end a r s rest left all input told is parts stops.1) stops.0, kept)
    go (got.Refused status) all left parts kept rest told is stops =
        (subst (λ (t : List ℕ). Gets t peer (Refused status)) (sym parts) (gets_more all left peer (Refused status) (refused_decided status) stops), kept)
    go got.ReadFault all left parts kept rest told is stops = kept
    go got.NoMemory all left parts kept rest told is stops = kept

pub consumes_request : (a : List ℕ) (r : Option (List ℕ)) (f : ℕ) (peer : List ℕ) (request : Request) (b : List ℕ) (s : Option (List ℕ)) (g : ℕ)
    → Received a r f peer (Ok request) b s g → Consumes a r peer (got.Request request) b s
consumes_request a r f peer request b s g received =
    record { given = received.given; gives = received.gives; says = received.receives }

pub consumes_other : (a : List ℕ) (r : Option (List ℕ)) (f : ℕ) (peer : List ℕ) (answer : Got) (b : List ℕ) (s : Option (List ℕ)) (g : ℕ)
    → Received a r f peer (Err answer) b s g → Consumes a r peer answer b s
consumes_other a r f peer answer b s g received =
    record { given = received.given; gives = received.gives; says = go answer received.receives.0 }
  where
    go : (answer : Got) → Stops (a ++ received.given) peer r f s g answer → Says (a ++ received.given) peer answer b
    go (got.Request request) stops = absurd stops
    go got.End stops = (stops.0, received.receives.1)
    go (got.Truncated have) stops = (stops.0, received.receives.1)
    go (got.Refused status) stops = (stops, received.receives.1)
    go got.ReadFault stops = received.receives.1
    go got.NoMemory stops = received.receives.1

pub undecided_other : (a : List ℕ) (r : Option (List ℕ)) (f : ℕ) (peer : List ℕ) (answer : Got) (b : List ℕ) (s : Option (List ℕ)) (g : ℕ)
    → Received a r f peer (Err answer) b s g → OnReadFault answer (Gets b peer (ended b)) × OnReadFault answer (Rose f g)
undecided_other a r f peer answer b s g received = go answer received.receives.0
  where
    go : (answer : Got) → Stops (a ++ received.given) peer r f s g answer → OnReadFault answer (Gets b peer (ended b)) × OnReadFault answer (Rose f g)
    go (got.Request request) stops = (tt, tt)
    go got.End stops = (tt, tt)
    go (got.Truncated have) stops = (tt, tt)
    go (got.Refused status) stops = (tt, tt)
    go got.ReadFault stops =
        (subst (λ (t : List ℕ). Gets t peer (ended t)) (sym received.receives.1) stops.0, stops.1)
    go got.NoMemory stops = (tt, tt)
