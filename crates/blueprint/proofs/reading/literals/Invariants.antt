use Rattle.std.proofs.Common.{◌≡◌, drop, map}
use Rattle.tcl_parse.specs.View.{word_of}
use Rattle.blueprint.specs.Reading.{literals_of}
use Rattle.blueprint.specs.Kept.{put_words}
use Rattle.blueprint.proofs.reading.literals.Given as goal

-- the words so far, in front of those that are left
abbrev pub invariant-words : goal.invariant-words
invariant-words l = put_words l.texts (literals_of (map word_of (drop l.word-index l.words))) ≡ literals_of (map word_of l.words)
