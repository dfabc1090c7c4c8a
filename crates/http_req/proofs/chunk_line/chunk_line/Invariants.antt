use Rattle.std.proofs.Common.{◌≡◌, ◌<◌, ◌^◌, drop}
use Rattle.http_req.specs.declared.chunk_line.LineSpot.TheVariants as spot
use Rattle.http_req.specs.ChunkLines.{line_from, chunk_line}
use Rattle.http_req.proofs.chunk_line.chunk_line.Given as goal

abbrev pub invariant-loop-byte : goal.invariant-loop-byte
invariant-loop-byte l = record {
  goes : chunk_line l.text ≡ line_from l.spot l.at l.size (drop l.byte-index l.text);
  place : l.at ≡ l.byte-index;
  small : l.spot ≡ spot.Size → l.size < 16 ^ l.at;
}
