-- What reading in pieces keeps.
use Rattle.std.proofs.Common.{◌≡◌, ◌≢◌, ℕ, zero, suc, ◌+◌, ◌<◌, ◌≤◌, List, [], ◌++◌, length, take, drop, replicate, Bool, true, false, Option, Some, None, refl, sym, subst, ap, ◌∙◌, append_assoc, append-nil, arith}
use Rattle.std.proofs.lemmas.List.{take_all, drop-append-le}
use Rattle.std.proofs.Math.Seq.{take-add, take-append_seam}
use Rattle.outside.specs.Faults.{Rose}
use Rattle.outside.specs.Reading.{Gives, GivesBytes, Reads}
use Rattle.outside.specs.declared.source.ReadAnswer.{ReadAnswer}
use Rattle.outside.specs.declared.source.ReadAnswer.TheVariants.{Bytes, Failed}
use Rattle.rehearse.specs.declared.intake.Stopped.{Stopped}
use Rattle.rehearse.specs.declared.intake.Stopped.TheVariants as stops
use Rattle.rehearse.specs.Intakes.{IntakeState}
use Rattle.outside.specs.Reading.{count_of}
use Rattle.rehearse.specs.Playing.{stop_of, StopsAt, Fetches, Took}
use Rattle.rehearse.proofs.Giving.{gives_none, gives_more, stays_at_end, rose_since}

-- nothing was read
pub fetched_none : (s : IntakeState) (rest : Option (List ℕ)) (faults : ℕ) → Fetches s rest faults s rest faults
fetched_none s rest faults = record {
  given = [];
  gives = gives_none rest;
  left = sym (append-nil s.left);
  place = refl;
  counts = omega arith;
  stops = λ told all first g le h. h;
}

-- first this was read and then that
pub fetched_more : (a b c : IntakeState) (r s t : Option (List ℕ)) (m n o : ℕ) → Fetches a r m b s n → Fetches b s n c t o → Fetches a r m c t o
fetched_more a b c r s t m n o h k = record {
  given = h.given ++ k.given;
  gives = gives_more r s t h.given k.given h.gives k.gives;
  left = k.left ∙ ap (λ (x : List ℕ). x ++ k.given) h.left ∙ append_assoc a.left h.given k.given;
  place = k.place ∙ h.place;
  counts = omega (arith, h.counts, k.counts);
  stops = λ told all first g le x.
      k.stops told (all ++ h.given) first (gives_more told r s all h.given g h.gives) (omega (arith, le, h.counts)) (h.stops told all first g le x);
}

-- a piece came
pub fetched_piece : (a b : IntakeState) (rest rest_after : Option (List ℕ)) (faults faults_after count : ℕ) (before after : List ℕ)
    → GivesBytes rest before count after rest_after → faults ≤ faults_after
    → b.left ≡ a.left ++ take count after → b.place ≡ a.place → b.stopped ≡ None
    → Fetches a rest faults b rest_after faults_after
fetched_piece a b rest rest_after faults faults_after count before after g le left place stopped = record {
  given = take count after;
  gives = g.given;
  left = left;
  place = place;
  counts = le;
  stops = λ told all first h low x. subst (λ (s : Option Stopped). StopsAt s told rest_after first faults_after) (sym stopped) tt;
}

-- the input ended
pub fetched_end : (a b : IntakeState) (rest rest_after : Option (List ℕ)) (faults faults_after count : ℕ) (before after : List ℕ)
    → count ≡ 0 → GivesBytes rest before count after rest_after → faults ≤ faults_after
    → b.left ≡ a.left ++ take count after → b.place ≡ a.place → b.stopped ≡ Some stops.AtEnd
    → Fetches a rest faults b rest_after faults_after
fetched_end a b rest rest_after faults faults_after count before after none g le left place stopped = record {
  given = take count after;
  gives = g.given;
  left = left;
  place = place;
  counts = le;
  stops = λ told all first h low x.
      subst (λ (s : Option Stopped). StopsAt s told rest_after first faults_after) (sym stopped)
      (λ input is. stays_at_end told rest rest_after all before after count none h g input is);
}

-- the source failed
pub fetched_fault : (a b : IntakeState) (rest rest_after : Option (List ℕ)) (faults faults_after : ℕ)
    → rest_after ≡ rest → faults ≤ faults_after → Rose faults faults_after
    → b.left ≡ a.left → b.place ≡ a.place → b.stopped ≡ Some stops.AtFault
    → Fetches a rest faults b rest_after faults_after
fetched_fault a b rest rest_after faults faults_after same le rose left place stopped = record {
  given = [];
  gives = subst (λ (r : Option (List ℕ)). Gives rest [] r) (sym same) (gives_none rest);
  left = left ∙ sym (append-nil a.left);
  place = place;
  counts = le;
  stops = λ told all first h low x.
      subst (λ (s : Option Stopped). StopsAt s told rest_after first faults_after) (sym stopped) (rose_since first faults faults_after low rose);
}

-- a read was answered so
pub fetched_by : (a b : IntakeState) (answer : ReadAnswer) (rest rest_after : Option (List ℕ)) (faults faults_after : ℕ) (before after : List ℕ)
    → Reads rest faults before answer after rest_after faults_after
    → b.left ≡ a.left ++ take (count_of answer) after → b.place ≡ a.place → b.stopped ≡ stop_of answer
    → Fetches a rest faults b rest_after faults_after
fetched_by a b (Bytes zero) rest rest_after faults faults_after before after r left place stopped =
    fetched_end a b rest rest_after faults faults_after 0 before after refl r.0 r.1 left place stopped
fetched_by a b (Bytes (suc count)) rest rest_after faults faults_after before after r left place stopped =
    fetched_piece a b rest rest_after faults faults_after (suc count) before after r.0 r.1 left place stopped
fetched_by a b Failed rest rest_after faults faults_after before after r left place stopped =
    fetched_fault a b rest rest_after faults faults_after r.1 r.2 r.3 (left ∙ append-nil a.left) place stopped

-- what is left behind what was played, with so many bytes more: the buffer begins with what was there
pub left_at : (items old buffer : List ℕ) (used start count end k : ℕ) → start ≡ length items → used ≤ length items → start ≤ end
    → old ≡ take end items ++ replicate k 0 → take start buffer ≡ take start old
    → drop used (take (start + count) buffer) ≡ drop used items ++ take count (drop start buffer)
left_at items old buffer used start count end k e within room is same =
    let fits : length items ≤ end = omega arith in
    let front : take start buffer ≡ items =
    same ∙ ap (take start) (is ∙ ap (λ (t : List ℕ). t ++ replicate k 0) (take_all end items fits))
    ∙ ap (λ (n : ℕ). take n (items ++ replicate k 0)) e ∙ take-append_seam items (replicate k 0) in
    ap (drop used) (take-add start count buffer ∙ ap (λ (t : List ℕ). t ++ take count (drop start buffer)) front)
    ∙ drop-append-le used items (take count (drop start buffer)) within

-- what was lent is what there is
pub written_back : (n : ℕ) (buffer items : List ℕ) → n ≡ length buffer → take n (buffer ++ drop (length buffer) items) ≡ buffer
written_back n buffer items e =
    ap (λ (k : ℕ). take k (buffer ++ drop (length buffer) items)) e ∙ take-append_seam buffer (drop (length buffer) items)

-- a read gives no more than there is room for
pub count_low : (answer : ReadAnswer) (rest rest_after : Option (List ℕ)) (faults faults_after : ℕ) (before after : List ℕ)
    → Reads rest faults before answer after rest_after faults_after → count_of answer ≤ length before
count_low (Bytes count) rest rest_after faults faults_after before after r = r.0.fits
count_low Failed rest rest_after faults faults_after before after r = omega arith

-- nothing changed
pub fetched_kept : (a b : IntakeState) (rest : Option (List ℕ)) (faults : ℕ) → b ≡ a → Fetches a rest faults b rest faults
fetched_kept a b rest faults same = subst (λ (s : IntakeState). Fetches a rest faults s rest faults) (sym same) (fetched_none a rest faults)

-- whether a piece came
pub took_true : (a b : IntakeState) (came : Bool) → came ≡ true → Took came a b → (length a.left < length b.left) × (b.stopped ≡ None)
took_true a b came is h = subst (λ (c : Bool). Took c a b) is h

pub took_false : (a b : IntakeState) (came : Bool) → came ≡ false → Took came a b → (b.left ≡ a.left) × (b.stopped ≢ None)
took_false a b came is h = subst (λ (c : Bool). Took c a b) is h
