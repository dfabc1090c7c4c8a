-- Fetches, one after another.
use Rattle.std.proofs.Common.{ℕ, ◌≤◌, inl, inr, List, [], ◌++◌, length, Option, Result, Ok, Err, refl, sym, ap, ◌∙◌, arith, append_assoc, append-nil, length-append}
use Rattle.outside.specs.Reading.{Gives}
use Rattle.http_req.specs.declared.carry.Stop.{Stop}
use Rattle.http_req.specs.declared.carry.Stop.TheVariants as stop
use Rattle.http_req.specs.Fetching.{Moves, Stopped}

pub moves_none : (carry : List ℕ) (rest : Option (List ℕ)) (faults : ℕ) → Moves carry rest faults carry rest faults
moves_none carry rest faults = record {
  given = [];
  gives = λ input told. (input, refl, told);
  kept = sym (append-nil carry);
  counts = omega arith;
}

pub gives_then : {r s t : Option (List ℕ)} (x y : List ℕ) → Gives r x s → Gives s y t → Gives r (x ++ y) t
gives_then x y first second = λ input told.
    let one = first input told in
    let two = second one.0 one.2 in
    (two.0, one.1 ∙ ap (λ (l : List ℕ). x ++ l) two.1 ∙ sym (append_assoc x y two.0), two.2)

pub moves_then : {a b c : List ℕ} {r s t : Option (List ℕ)} {f g h : ℕ} → Moves a r f b s g → Moves b s g c t h → Moves a r f c t h
moves_then {a} first second = record {
  given = first.given ++ second.given;
  gives = gives_then first.given second.given first.gives second.gives;
  kept = second.kept ∙ ap (λ (l : List ℕ). l ++ second.given) first.kept ∙ append_assoc a first.given second.given;
  counts = omega (arith, first.counts, second.counts);
}

pub moves_longer : {a b : List ℕ} {r s : Option (List ℕ)} {f g : ℕ} → Moves a r f b s g → length a ≤ length b
moves_longer {a} moves = omega (arith, ap length moves.kept, length-append a moves.given)

pub stopped_then : {a b : List ℕ} {r s : Option (List ℕ)} {f g : ℕ} → Moves a r f b s g → (t : Option (List ℕ)) (h : ℕ) (how : Stop)
    → Stopped s g how t h → Stopped r f how t h
stopped_then moves t h stop.End stopped = λ input told. let one = moves.gives input told in stopped one.0 one.2
stopped_then moves t h stop.Fault (inl rose) = inl (omega (arith, rose, moves.counts))
stopped_then moves t h stop.Fault (inr last) = inr last
stopped_then moves t h stop.NoMemory stopped = tt

-- one more turn, unless a fetch has stopped
abbrev pub turns_left : Result (Unit {0}) Stop → ℕ
turns_left (Ok done) = 1
turns_left (Err how) = 0
