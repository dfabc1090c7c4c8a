-- What several calls tell, one after the other.
use Rattle.std.proofs.Common.{◌≡◌, ℕ, List, [], ◌∷◌, ◌++◌, append_assoc, append-nil, refl, sym, ap, ◌∙◌}
use Rattle.std.specs.Prelude.{Result, Ok, Err, OnOk}
use Rattle.rehearse.specs.Lines.{Line, told, listing_of}
use Rattle.rehearse.specs.Summary.{with_line, with_lines}
use Rattle.rehearse.specs.declared.listing.Listing.{Listing}
use Rattle.rehearse.specs.declared.tally.Tally.{Tally}
use Rattle.rehearse.specs.Playing.{Tells}

pub listing_more : (lines others : List Line) → listing_of (lines ++ others) ≡ listing_of lines ++ listing_of others
listing_more [] others = refl
listing_more (line ∷ lines) others =
    ap (λ (t : List ℕ). told line ++ t) (listing_more lines others) ∙ sym (append_assoc (told line) (listing_of lines) (listing_of others))

pub tally_more : (tally : Tally) (lines others : List Line) → with_lines tally (lines ++ others) ≡ with_lines (with_lines tally lines) others
tally_more tally [] others = refl
tally_more tally (line ∷ lines) others = tally_more (with_line tally line) lines others

pub tells_none : (listing : Listing) → Tells listing [] listing
tells_none listing = (sym (append-nil listing.text), refl)

pub tells_more : (before between after : Listing) (lines others : List Line) → Tells before lines between → Tells between others after
    → Tells before (lines ++ others) after
tells_more before between after lines others h k = (
  k.0
      ∙ ap (λ (t : List ℕ). t ++ listing_of others) h.0
      ∙ append_assoc before.text (listing_of lines) (listing_of others)
      ∙ ap (λ (t : List ℕ). before.text ++ t) (sym (listing_more lines others)),
  k.1
      ∙ ap (λ (t : Tally). with_lines t others) h.1
      ∙ sym (tally_more before.tally lines others),
)

-- ---- what comes of a call that may want memory

pub on_ok : {T E P Q : Type 0} (r : Result T E) → (P → Q) → OnOk r P → OnOk r Q
on_ok (Ok x) f p = f p
on_ok (Err e) f p = tt

pub on_ok_two : {T E P Q R : Type 0} (r : Result T E) → (P → Q → R) → OnOk r P → OnOk r Q → OnOk r R
on_ok_two (Ok x) f p q = f p q
on_ok_two (Err e) f p q = tt

pub on_ok_three : {T E P Q R S : Type 0} (r : Result T E) → (P → Q → R → S) → OnOk r P → OnOk r Q → OnOk r R → OnOk r S
on_ok_three (Ok x) f p q r = f p q r
on_ok_three (Err e) f p q r = tt
