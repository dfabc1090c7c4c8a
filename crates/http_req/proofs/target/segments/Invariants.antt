use Rattle.std.proofs.Common.{◌≡◌, map}
use Rattle.std.specs.Prelude.{filter}
use Rattle.txt_core.specs.Texts.{is_filled}
use Rattle.percent_encoding.specs.Percent.{percent_decode}
use Rattle.http_req.proofs.target.segments.Given as goal

abbrev pub invariant-loop-part : goal.invariant-loop-part
invariant-loop-part l = l.segments ≡ map percent_decode (filter is_filled (map (λ part. part.now) l.yielded))
