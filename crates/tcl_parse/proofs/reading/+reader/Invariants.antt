use Rattle.std.proofs.Common.{◌≡◌, ◌+◌, ◌*◌, ◌<◌, ◌≤◌, ◌⊎◌, length, [], map, true, false}
use Rattle.tcl_parse.specs.Outcome.{Outcome}
use Rattle.tcl_parse.specs.Gaps.{ends_word, at_end, skip, between}
use Rattle.tcl_parse.specs.Tree.{Word, Command, Script}
use Rattle.tcl_parse.specs.View.{part_of, word_of, command_of}
use Rattle.tcl_parse.specs.Grammar.{InBracket, InIndex, PartsAt, WordsAt, ScriptAt}
use Rattle.tcl_parse.specs.Answers.{mode_of}
use Rattle.tcl_parse.proofs.Front.{front, joined}
use Rattle.tcl_parse.proofs.reading.+reader.Given as goal

abbrev pub decreases-bracket : goal.decreases-bracket
decreases-bracket l = 8 * l.room

abbrev pub decreases-index : goal.decreases-index
decreases-index l = 8 * l.room

abbrev pub decreases-substitution : goal.decreases-substitution
decreases-substitution l = 8 * l.room + 1

abbrev pub decreases-parts : goal.decreases-parts
decreases-parts l = 8 * l.room + 2

abbrev pub decreases-quoted_word : goal.decreases-quoted_word
decreases-quoted_word l = 8 * l.room + 3

abbrev pub decreases-read_enclosed : goal.decreases-read_enclosed
decreases-read_enclosed l = 8 * l.room + 4

abbrev pub decreases-word : goal.decreases-word
decreases-word l = 8 * l.room + 5

abbrev pub decreases-command : goal.decreases-command
decreases-command l = 8 * l.room + 6

abbrev pub decreases-script : goal.decreases-script
decreases-script l = 8 * l.room + 7

abbrev pub invariant-parts-parts : goal.invariant-parts-parts
invariant-parts-parts l = record {
  same : (o : Outcome Word) → PartsAt (InBracket l.room) (InIndex l.room) (mode_of l.mode) l.rest o → PartsAt (InBracket l.room) (InIndex l.room) (mode_of l.mode) l.bytes (joined (map part_of l.pieces.items) l.text.items o);
  goes : (l.rest ≡ l.bytes) ⊎ (length l.rest < length l.bytes);
}

abbrev pub decreases-parts-parts : goal.decreases-parts-parts
decreases-parts-parts l = length l.rest

abbrev pub invariant-command-words : goal.invariant-command-words
invariant-command-words l = record {
  same : (o : Outcome Command) → WordsAt (InBracket l.room) (InIndex l.room) l.nested l.rest o → WordsAt (InBracket l.room) (InIndex l.room) l.nested l.bytes (front (map word_of l.words.items) o);
  stands : ends_word l.nested l.rest ≡ at_end l.nested l.rest;
  goes : (l.rest ≡ l.bytes) ⊎ (length l.rest < length l.bytes);
}

abbrev pub decreases-command-words : goal.decreases-command-words
decreases-command-words l = length l.rest

abbrev pub invariant-script-commands : goal.invariant-script-commands
invariant-script-commands l = record {
  same : (o : Outcome Script) → ScriptAt (InBracket l.room) (InIndex l.room) l.nested l.rest o → ScriptAt (InBracket l.room) (InIndex l.room) l.nested (skip between l.bytes) (front (map command_of l.commands.items) o);
  stands : ends_word l.nested l.rest ≡ at_end l.nested l.rest;
  begins : at_end false l.rest ≡ true → l.rest ≡ [];
  goes : length l.rest ≤ length l.bytes;
}

abbrev pub decreases-script-commands : goal.decreases-script-commands
decreases-script-commands l = length l.rest
