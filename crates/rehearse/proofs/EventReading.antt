-- Reading the event that some bytes spell.
use Rattle.std.proofs.Common.{◌≡◌, ℕ, List, ◌∷◌, ◌++◌, append_assoc, true, Option, None, Some, sym, subst, ap, ◌∙◌}
use Rattle.std.specs.List.{list_all, join_with_byte}
use Rattle.rehearse.specs.declared.head.Head.{Head}
use Rattle.rehearse.specs.Events.{Event, line_end, block_of, block_end, spelled}
use Rattle.rehearse.specs.Numbers.{Finds}
use Rattle.rehearse.specs.Reading.{is_other, CutAt, head_words, IsHead, IsShort, HasHead}
use Rattle.rehearse.proofs.Cutting.{cuts_same}
use Rattle.rehearse.proofs.Spelling.{line_words, line_clean, words_same, short_of, head_for, head_for_is, event_has}

pub whole_cut : (e : Event) (bytes : List ℕ) → IsShort e → bytes ≡ spelled e → CutAt 10 bytes (line_words e, block_end (block_of e))
whole_cut e bytes h is = (line_clean e h, is ∙ append_assoc (line_words e) line_end (block_end (block_of e)))

pub no_line : (bytes : List ℕ) → ((x : List ℕ × List ℕ) → ¬ (CutAt 10 bytes x)) → (e : Event) → ¬ (IsShort e × (bytes ≡ spelled e))
no_line bytes never e h = never (line_words e, block_end (block_of e)) (whole_cut e bytes h.0 h.1)

pub no_head : (bytes line behind : List ℕ) → CutAt 10 bytes (line, behind) → ((h : Head) → ¬ (IsHead h line)) → (e : Event) → ¬ (IsShort e × (bytes ≡ spelled e))
no_head bytes line behind cut never e h =
    let same : line ≡ line_words e = (cuts_same 10 bytes (line, behind) (line_words e, block_end (block_of e)) cut (whole_cut e bytes h.0 h.1)).0 in
    never (head_for e) (subst (IsHead (head_for e)) (sym same) (head_for_is e h.0))

-- what was found behind the line
pub event_found : (bytes line behind : List ℕ) (h : Head) (found : Option Event) → CutAt 10 bytes (line, behind) → IsHead h line
    → Finds (λ e. HasHead h e × (behind ≡ block_end (block_of e))) found → Finds (λ e. IsShort e × (bytes ≡ spelled e)) found
event_found bytes line behind h None cut head never = λ e k.
    let same : (line ≡ line_words e) × (behind ≡ block_end (block_of e)) =
    cuts_same 10 bytes (line, behind) (line_words e, block_end (block_of e)) cut (whole_cut e bytes k.0 k.1) in
    never e (event_has e h line k.0 head (sym same.0), same.1)
event_found bytes line behind h (Some e) cut head is =
    let words : line_words e ≡ line = ap (join_with_byte 32) (words_same h e is.0) ∙ sym head.1 in
    let clean : list_all (is_other 10) (join_with_byte 32 (head_words h)) ≡ true = ap (list_all (is_other 10)) (sym head.1) ∙ cut.0 in (
      short_of h e is.0 head.0 clean,
      cut.1 ∙ ap (λ (t : List ℕ). t ++ 10 ∷ behind) (sym words) ∙ ap (λ (t : List ℕ). line_words e ++ 10 ∷ t) is.1
          ∙ sym (append_assoc (line_words e) line_end (block_end (block_of e))),
    )
