use Rattle.std.proofs.Common.{◌≡◌, ◌∙◌, ap, sym, ℕ, List, ◌+◌, ◌∷◌, [], ◌++◌, drop, get_or, drop-cons, add-one, Bool, true, false, arith, rules}
use Rattle.natives.specs.Cutting.{pieces}
use Rattle.tcl_string.specs.Sets.{set_has}
use Rattle.tcl_string.proofs.Pieces.{glue, glue_none, at_cut, at_byte}
use Rattle.tcl_string.proofs.cutting.pieces.Goals as goal
use Rattle.tcl_string.proofs.cutting.pieces.Goals.{then-has+in_ok-add, else-has+in_ok-push}

pub loop-byte-init : goal.loop-byte-init
loop-byte-init c = rw (c.new-words.ensures, c.new-piece.ensures.items) (sym (glue_none (set_has c.args.cuts.now.holds) c.args.bytes.now))

pub loop-byte-preserved : goal.loop-byte-preserved
loop-byte-preserved c =
    let cuts : ℕ → Bool = set_has c.args.cuts.now.holds in
    let bytes : List ℕ = c.args.bytes.now in
    let i : ℕ = c.loop-byte.byte-index in
    let b : ℕ = get_or c.args.bytes.now c.loop-byte.byte-index 0 in
    let next : drop i bytes ≡ b ∷ drop (i + 1) bytes = drop-cons c.args.bytes.now c.loop-byte.byte-index 0 (omega arith) ∙ ap (λ (n : ℕ). get_or c.args.bytes.now c.loop-byte.byte-index 0 ∷ drop n c.args.bytes.now) (sym (add-one c.loop-byte.byte-index)) in
    let so_far = c.loop-byte.invariant ∙ ap (λ (t : List ℕ). c.loop-byte.words ++ glue c.loop-byte.piece.items (pieces (set_has c.args.cuts.now.holds) t)) next in
    elim c.if-has.branch [
      | then-has+in_ok-add w ↦
          let test : set_has c.args.cuts.now.holds (get_or c.args.bytes.now c.loop-byte.byte-index 0) ≡ true = search rules in
          let words_now : c.if-has.words ≡ c.loop-byte.words ++ c.loop-byte.piece.items ∷ [] = search rules in
          let piece_now : c.if-has.piece.items ≡ [] = search rules in
          rw (words_now, piece_now) (so_far ∙ at_cut (set_has c.args.cuts.now.holds) c.loop-byte.words c.loop-byte.piece.items b (drop (c.loop-byte.byte-index + 1) c.args.bytes.now) test)
      | else-has+in_ok-push w ↦
          let test : set_has c.args.cuts.now.holds (get_or c.args.bytes.now c.loop-byte.byte-index 0) ≡ false = search rules in
          let words_now : c.if-has.words ≡ c.loop-byte.words = search rules in
          let piece_now : c.if-has.piece.items ≡ c.loop-byte.piece.items ++ b ∷ [] = search rules in
          rw (words_now, piece_now) (so_far ∙ at_byte (set_has c.args.cuts.now.holds) c.loop-byte.words c.loop-byte.piece.items b (drop (c.loop-byte.byte-index + 1) c.args.bytes.now) test)
    ]
