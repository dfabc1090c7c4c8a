use Rattle.std.proofs.Common.{◌≡◌, map, take}
use Rattle.std.specs.List.{All}
use Rattle.std.specs.Str.{IsUtf8}
use Rattle.serve_options.proofs.reading.as_texts.Given as goal

abbrev pub invariant-loop-word : goal.invariant-loop-word
invariant-loop-word l = record {
  same : map (λ s. s.now) l.texts.items ≡ take l.word-index l.words;
  utf8 : All IsUtf8 (map (λ s. s.now) l.texts.items);
}
