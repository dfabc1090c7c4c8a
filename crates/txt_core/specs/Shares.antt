-- What is shared out in units: each pass to an object that threads have in common holds some of them.
use Rattle.std.specs.Prelude.{ℕ}

-- the units of the whole share
abbrev pub WHOLE : ℕ
WHOLE = 65536
