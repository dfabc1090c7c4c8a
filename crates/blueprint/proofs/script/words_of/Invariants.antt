use Rattle.std.proofs.Common.{◌≡◌, take, map}
use Rattle.blueprint.proofs.script.words_of.Given as goal

abbrev pub invariant-words : goal.invariant-words
invariant-words l = l.list ≡ map (λ word. word.now) (take l.word-index l.words)
