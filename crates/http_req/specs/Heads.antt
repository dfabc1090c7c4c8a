-- Where an input has no head. What a head is, the grammar of `httparse` says (RFC 9112, sections 2 to 5).
use Rattle.std.specs.Prelude.{◌≡◌, [], ◌∷◌, ◌++◌, take}
use Rattle.httparse.specs.Ascii.{line_feed}
use Rattle.httparse.specs.Grammar.{RequestHead, ReadsRequest}
use Rattle.txt_core.specs.Names.{Bytes}
use Rattle.http_req.specs.Limits.{head_limit}

-- the bytes in which a head is to stand
unfoldable pub front : Bytes → Bytes
front input = take head_limit input

-- the text can't go on in any way that makes it a head
abbrev pub NeverBecomesHead : Bytes → Type 0
NeverBecomesHead text = (more : Bytes) (head : RequestHead) → ¬ (ReadsRequest (text ++ more) head [])

-- a line of the text ends where it is plain that this will be no head
pub record IsMalformed (text : Bytes) : Type 0 where
  pub before : Bytes
  pub after : Bytes
  pub parts : text ≡ before ++ line_feed ∷ after
  pub never : NeverBecomesHead (before ++ line_feed ∷ [])
