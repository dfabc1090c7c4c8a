use Rattle.std.proofs.Common.{subst, length, ◌-◌, ◌≡◌, [], ◌∷◌, sym, rules, false, true, map, append-nil}
use Rattle.std.proofs.lemmas.Result.{err_from_is_err_and}
use Rattle.std.proofs.lemmas.List.{map_push}
use Rattle.tcl_parse.specs.declared.fault.Fault.{Fault}
use Rattle.tcl_parse.specs.Gaps.{at_end, skip, between}
use Rattle.tcl_parse.specs.View.{part_of, word_of, command_of}
use Rattle.tcl_parse.specs.Outcome.{done, fault, put, put_text}
use Rattle.tcl_parse.specs.Steps.{index}
use Rattle.tcl_parse.specs.Grammar.{InBracket, InIndex, PartIs, opening, bare, PartsAt, no_part, some_bytes, EnclosedAt, WordAt, enclosed, in_nothing, WordsAt, no_word, bad_word, one_word, ScriptAt, no_command, bad_command, one_command}
use Rattle.tcl_parse.specs.Answers.{BraceGives, BracketGives, IndexGives, QuoteGives, mode_of, substitution_of}
use Rattle.txt_core.specs.Forms.{form_of}
use Rattle.tcl_parse.proofs.Answering.{stopped_map, gives_map}
use Rattle.tcl_parse.proofs.Front.{front-push, joined-text}
use Rattle.tcl_parse.proofs.Closing.{deep_bracket, deep_index, bracket_fault, bracket_open, bracket_closed, index_fault, index_open, index_closed, bad_at, more_parts, shorter, enclosed_braces, enclosed_quotes, word_ended, word_extra}
use Rattle.tcl_parse.specs.Laws.Some.{none_enclosed}
use Rattle.tcl_parse.proofs.reading.+reader.Goals as goal

pub bracket-returns-then-room-eq0-clause-same : goal.bracket-returns-then-room-eq0-clause-same
bracket-returns-then-room-eq0-clause-same t c =
    subst (λ (f : Fault). BracketGives c.args.room c.args.bytes.now (fault f.kind f.left)) (sym c.before-then-room-eq0.ensures) (deep_bracket c.args.room c.args.bytes.now c.if-room-eq0.true)

pub bracket-returns-in_err-script-clause-same : goal.bracket-returns-in_err-script-clause-same
bracket-returns-in_err-script-clause-same t c =
    let p = err_from_is_err_and c.from_residual.result c.from_residual.ensures.1 in
    rw (p.1, p.2) (stopped_map (ScriptAt (InBracket (c.args.room - 1)) (InIndex (c.args.room - 1)) true (skip between c.args.bytes.now)) (BracketGives c.args.room c.args.bytes.now)
    (λ k n h. bracket_fault c.args.room c.args.bytes.now k n c.if-room-eq0.false h) c.in_err-script.field-0.0 c.in_err-script.ensures.same)

pub bracket-returns-in-None-clause-same : goal.bracket-returns-in-None-clause-same
bracket-returns-in-None-clause-same t c =
    subst (λ (f : Fault). BracketGives c.args.room c.args.bytes.now (fault f.kind f.left)) (sym c.before-in-None.ensures)
    (bracket_open c.args.room c.args.bytes.now c.in_ok-script.rest.now _ c.if-room-eq0.false c.in-None.ensures.cases c.in_ok-script.ensures.same)

pub bracket-returns-in_ok-piece-in-Some-clause-same : goal.bracket-returns-in_ok-piece-in-Some-clause-same
bracket-returns-in_ok-piece-in-Some-clause-same t c =
    bracket_closed c.args.room _ c.args.bytes.now c.in_ok-script.rest.now c.in-Some.rest.now _ (part_of c.in_ok-piece-in-Some.piece) c.if-room-eq0.false c.in-Some.ensures.cases.0 c.in_ok-piece-in-Some.ensures c.in_ok-script.ensures.same

pub index-returns-then-room-eq0-clause-same : goal.index-returns-then-room-eq0-clause-same
index-returns-then-room-eq0-clause-same t c =
    subst (λ (f : Fault). IndexGives c.args.room c.args.left c.args.name.now c.args.bytes.now (fault f.kind f.left)) (sym c.before-then-room-eq0.ensures)
    (deep_index c.args.room c.args.left c.args.name.now c.args.bytes.now c.if-room-eq0.true)

pub index-returns-in_err-index-clause-same : goal.index-returns-in_err-index-clause-same
index-returns-in_err-index-clause-same t c =
    let p = err_from_is_err_and c.from_residual.result c.from_residual.ensures.1 in
    rw (p.1, p.2) (stopped_map (PartsAt (InBracket (c.args.room - 1)) (InIndex (c.args.room - 1)) index c.args.bytes.now) (IndexGives c.args.room c.args.left c.args.name.now c.args.bytes.now)
    (λ k n h. index_fault c.args.room c.args.left c.args.name.now c.args.bytes.now k n c.if-room-eq0.false h) c.in_err-index.field-0.0 c.in_err-index.ensures.same)

pub index-returns-in-None-clause-same : goal.index-returns-in-None-clause-same
index-returns-in-None-clause-same t c =
    index_open c.args.room c.args.left c.args.name.now c.args.bytes.now c.in_ok-index.rest.now _ c.if-room-eq0.false c.in-None.ensures.cases c.in_ok-index.ensures.same

pub index-returns-in_ok-piece-in-Some-clause-same : goal.index-returns-in_ok-piece-in-Some-clause-same
index-returns-in_ok-piece-in-Some-clause-same t c =
    index_closed c.args.room c.args.left _ c.args.name.now c.args.bytes.now c.in_ok-index.rest.now c.in-Some.rest.now _ (part_of c.in_ok-piece-in-Some.piece) c.if-room-eq0.false c.in-Some.ensures.cases.0 c.in_ok-piece-in-Some.ensures c.in_ok-index.ensures.same

pub parts-returns-in-Ends-clause-same : goal.parts-returns-in-Ends-clause-same
parts-returns-in-Ends-clause-same t c =
    rw c.in_ok-word-in-Ends.ensures (c.parts.invariant.same (done [] c.parts.rest.now) (no_part (sym c.in-Ends.ensures.same)))

pub parts-parts-preserved-in-Byte : goal.parts-parts-preserved-in-Byte
parts-parts-preserved-in-Byte t c = record {
  same = λ o q. rw (c.in_ok-push-in-Byte.ensures.items, joined-text) (c.parts.invariant.same (put_text (c.in-Byte.b ∷ []) o) (some_bytes (sym c.in-Byte.ensures.same) q));
  goes = search rules;
}

pub parts-parts-preserved-in-Escaped : goal.parts-parts-preserved-in-Escaped
parts-parts-preserved-in-Escaped t c = record {
  same = λ o q. rw (c.in_ok-extend_from_slice-in-Escaped.ensures.items, joined-text) (c.parts.invariant.same (put_text (form_of c.in-Escaped.form) o) (some_bytes (sym c.in-Escaped.ensures.same) q));
  goes = search rules;
}

pub parts-returns-in_err-piece-in-Substituted-clause-same : goal.parts-returns-in_err-piece-in-Substituted-clause-same
parts-returns-in_err-piece-in-Substituted-clause-same t c =
    let p = err_from_is_err_and c.from_residual-in_err-piece-in-Substituted.result c.from_residual-in_err-piece-in-Substituted.ensures.1 in
    rw (p.1, p.2) (stopped_map (PartIs (InBracket c.args.room) (InIndex c.args.room) (length c.parts.rest.now) (substitution_of c.in-Substituted.found)) (PartsAt (InBracket c.args.room) (InIndex c.args.room) (mode_of c.args.mode) c.args.bytes.now)
    (λ k n h. c.parts.invariant.same (fault k n) (bad_at (InBracket c.args.room) (InIndex c.args.room) (mode_of c.args.mode) c.parts.rest.now (substitution_of c.in-Substituted.found) k n c.in-Substituted.ensures.same h))
    c.in_err-piece-in-Substituted.field-0.0 c.in_err-piece-in-Substituted.ensures.same)

pub parts-parts-preserved : goal.parts-parts-preserved
parts-parts-preserved t c = record {
  same = more_parts (InBracket c.args.room) (InIndex c.args.room) (mode_of c.args.mode) c.args.bytes.now c.parts.rest.now c.in_ok-piece-in-Substituted.after.now
      (substitution_of c.in-Substituted.found) (map part_of c.parts.pieces.items) _ c.parts.text.items _ (part_of c.in_ok-piece-in-Substituted.piece)
      c.parts.invariant.same c.in-Substituted.ensures.same c.in_ok-piece-in-Substituted.ensures.same c.in_ok-add_piece-in-Substituted.ensures.ok c.in_ok-add_piece-in-Substituted.ensures.empty;
  goes = shorter c.in_ok-piece-in-Substituted.after.now c.parts.rest.now c.args.bytes.now (c.in_ok-piece-in-Substituted.ensures.goes (length c.parts.rest.now) c.in-Substituted.ensures.shorter) c.parts.invariant.goes;
}

pub parts-parts-smaller : goal.parts-parts-smaller
parts-parts-smaller t c = c.in_ok-piece-in-Substituted.ensures.goes (length c.parts.rest.now) c.in-Substituted.ensures.shorter

pub read_enclosed-returns-in_err-word-in-Some-clause-same : goal.read_enclosed-returns-in_err-word-in-Some-clause-same
read_enclosed-returns-in_err-word-in-Some-clause-same t c =
    let p = err_from_is_err_and c.from_residual.result c.from_residual.ensures.1 in
    rw (p.1, p.2) (stopped_map (BraceGives c.in-Some.tail.now) (EnclosedAt (InBracket c.args.room) (InIndex c.args.room) c.args.bytes.now)
    (λ k n h. enclosed_braces (InBracket c.args.room) (InIndex c.args.room) c.in-Some.b.now c.args.bytes.now c.in-Some.tail.now (fault k n) c.in-Some.ensures.cases.0 c.if-b-eq123.true h)
    c.in_err-word-in-Some.field-0.0 c.in_err-word-in-Some.ensures.same)

pub read_enclosed-returns-then-b-eq123-clause-same : goal.read_enclosed-returns-then-b-eq123-clause-same
read_enclosed-returns-then-b-eq123-clause-same t c =
    enclosed_braces (InBracket c.args.room) (InIndex c.args.room) c.in-Some.b.now c.args.bytes.now c.in-Some.tail.now _ c.in-Some.ensures.cases.0 c.if-b-eq123.true c.in_ok-word-in-Some.ensures.same

pub read_enclosed-returns-in_err-word-in-Some-2-clause-same : goal.read_enclosed-returns-in_err-word-in-Some-2-clause-same
read_enclosed-returns-in_err-word-in-Some-2-clause-same t c =
    let p = err_from_is_err_and c.from_residual-in_err-word-in-Some-2.result c.from_residual-in_err-word-in-Some-2.ensures.1 in
    rw (p.1, p.2) (stopped_map (QuoteGives c.args.room c.in-Some.tail.now) (EnclosedAt (InBracket c.args.room) (InIndex c.args.room) c.args.bytes.now)
    (λ k n h. enclosed_quotes (InBracket c.args.room) (InIndex c.args.room) c.in-Some.b.now c.args.bytes.now c.in-Some.tail.now h.0 (fault k n) c.in-Some.ensures.cases.0 c.if-b-eq34.true h.1 h.2)
    c.in_err-word-in-Some-2.field-0.0 c.in_err-word-in-Some-2.ensures.same)

pub read_enclosed-returns-then-b-eq34-clause-same : goal.read_enclosed-returns-then-b-eq34-clause-same
read_enclosed-returns-then-b-eq34-clause-same t c =
    let h = c.in_ok-word-in-Some-2.ensures.same in
    enclosed_quotes (InBracket c.args.room) (InIndex c.args.room) c.in-Some.b.now c.args.bytes.now c.in-Some.tail.now h.0 _ c.in-Some.ensures.cases.0 c.if-b-eq34.true h.1 h.2

pub word-returns-in_err-read_enclosed-clause-same : goal.word-returns-in_err-read_enclosed-clause-same
word-returns-in_err-read_enclosed-clause-same t c =
    let p = err_from_is_err_and c.from_residual.result c.from_residual.ensures.1 in
    rw (p.1, p.2) (stopped_map (EnclosedAt (InBracket c.args.room) (InIndex c.args.room) c.args.bytes.now) (WordAt (InBracket c.args.room) (InIndex c.args.room) c.args.nested c.args.bytes.now)
    (λ k n h. enclosed h) c.in_err-read_enclosed.field-0.0 c.in_err-read_enclosed.ensures.same)

pub word-returns-in-None-clause-same : goal.word-returns-in-None-clause-same
word-returns-in-None-clause-same t c =
    let begins : opening c.args.bytes.now ≡ bare = none_enclosed c.args.room c.args.bytes.now (rw c.in-None.is at c.in_ok-read_enclosed.ensures.same) in
    gives_map _ _ _ _ (λ o h. in_nothing begins h) c.parts.result c.parts.ensures.same

pub word-returns-then-not-word_ends-clause-same : goal.word-returns-then-not-word_ends-clause-same
word-returns-then-not-word_ends-clause-same t c =
    word_extra (InBracket c.args.room) (InIndex c.args.room) c.args.nested c.args.bytes.now c.in-Some.rest.now (word_of c.in-Some.word) (search rules) (rw c.in-Some.is at c.in_ok-read_enclosed.ensures.same)

pub word-returns-else-not-word_ends-clause-same : goal.word-returns-else-not-word_ends-clause-same
word-returns-else-not-word_ends-clause-same t c =
    word_ended (InBracket c.args.room) (InIndex c.args.room) c.args.nested c.args.bytes.now c.in-Some.rest.now (word_of c.in-Some.word) (search rules) (rw c.in-Some.is at c.in_ok-read_enclosed.ensures.same)

pub command-returns-in_err-word-clause-same : goal.command-returns-in_err-word-clause-same
command-returns-in_err-word-clause-same t c =
    let p = err_from_is_err_and c.from_residual.result c.from_residual.ensures.1 in
    let goes_on : at_end c.args.nested c.words.rest.now ≡ false = search rules in
    rw (p.1, p.2) (stopped_map (WordAt (InBracket c.args.room) (InIndex c.args.room) c.args.nested c.words.rest.now) (WordsAt (InBracket c.args.room) (InIndex c.args.room) c.args.nested c.args.bytes.now)
    (λ k n h. c.words.invariant.same (fault k n) (bad_word goes_on h)) c.in_err-word.field-0.0 c.in_err-word.ensures.same)

pub command-words-preserved : goal.command-words-preserved
command-words-preserved t c =
    let goes_on : at_end c.args.nested c.words.rest.now ≡ false = search rules in
    record {
      same = λ o h.
          let later = rw c.to_word-rest.ensures.same at h in
          rw (c.in_ok-push.ensures.items, map_push, front-push) (c.words.invariant.same (put (word_of c.in_ok-word.word) o) (one_word goes_on c.in_ok-word.ensures.same later));
      stands = search rules;
      goes = search rules;
    }

pub command-returns-clause-same : goal.command-returns-clause-same
command-returns-clause-same t c =
    let stops : at_end c.args.nested c.words.rest.now ≡ true = search rules in
    rw (c.command_of_words.ensures, ← append-nil (map word_of c.words.words.items)) (c.words.invariant.same (done [] c.words.rest.now) (no_word stops))

pub script-returns-in_err-command-clause-same : goal.script-returns-in_err-command-clause-same
script-returns-in_err-command-clause-same t c =
    let p = err_from_is_err_and c.from_residual.result c.from_residual.ensures.1 in
    let goes_on : at_end c.args.nested c.commands.rest.now ≡ false = search rules in
    rw (p.1, p.2) (stopped_map (WordsAt (InBracket c.args.room) (InIndex c.args.room) c.args.nested c.commands.rest.now) (ScriptAt (InBracket c.args.room) (InIndex c.args.room) c.args.nested _)
    (λ k n h. c.commands.invariant.same (fault k n) (bad_command goes_on h)) c.in_err-command.field-0.0 c.in_err-command.ensures.same)

pub script-commands-preserved : goal.script-commands-preserved
script-commands-preserved t c =
    let goes_on : at_end c.args.nested c.commands.rest.now ≡ false = search rules in
    record {
      same = λ o h.
          let later = rw c.to_command-rest-in-commands.ensures.same at h in
          rw (c.in_ok-push.ensures.items, map_push, front-push) (c.commands.invariant.same (put (command_of c.in_ok-command.command) o) (one_command goes_on c.in_ok-command.ensures.same later));
      stands = search rules;
      begins = search rules;
      goes = search rules;
    }

pub script-returns-clause-same : goal.script-returns-clause-same
script-returns-clause-same t c =
    let stops : at_end c.args.nested c.commands.rest.now ≡ true = search rules in
    rw (c.script_of_commands.ensures, ← append-nil (map command_of c.commands.commands.items)) (c.commands.invariant.same (done [] c.commands.rest.now) (no_command stops))
