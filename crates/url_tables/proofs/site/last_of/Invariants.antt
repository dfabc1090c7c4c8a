use Rattle.std.proofs.Common.{◌≡◌, take}
use Rattle.url_tables.specs.Urls.{last_of}
use Rattle.url_tables.proofs.site.last_of.Given as goal

abbrev pub invariant-loop-text : goal.invariant-loop-text
invariant-loop-text l = l.last ≡ last_of (take l.text-index l.texts)
