use Rattle.std.proofs.Common.{◌≡◌, map}
use Rattle.std.specs.Prelude.{filter}
use Rattle.txt_core.specs.Texts.{is_filled}
use Rattle.url_tables.proofs.url.segments.Given as goal

abbrev pub invariant-loop-piece : goal.invariant-loop-piece
invariant-loop-piece l = l.segments.items ≡ filter is_filled (map (λ piece. piece.now) l.yielded)
