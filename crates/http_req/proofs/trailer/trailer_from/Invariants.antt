use Rattle.std.proofs.Common.{◌≡◌, ◌<◌, ◌+◌, drop}
use Rattle.http_req.specs.Trailers.{trailer_from}
use Rattle.http_req.proofs.trailer.trailer_from.Given as goal

abbrev pub invariant-loop-byte : goal.invariant-loop-byte
invariant-loop-byte l = record {
  goes : trailer_from l.fn.from l.before l.text ≡ trailer_from l.spot l.at (drop l.byte-index l.text);
  place : l.at ≡ l.before + l.byte-index;
  room : l.at < 16384;
}
