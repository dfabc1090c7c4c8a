-- What the front of an input is found to be.
use Rattle.std.specs.Prelude.{◌≡◌, ◌<◌, List, [], ◌∷◌, ◌++◌, length, All, ◌≢◌, ◌⊎◌}
use Rattle.httparse.specs.declared.spans.HeaderSpan.{HeaderSpan}
use Rattle.httparse.specs.declared.spans.RequestSpans.{RequestSpans}
use Rattle.httparse.specs.Ascii.{line_feed}
use Rattle.httparse.specs.Spans.{IsRequestWithin, IsRequestOf, RequestExceeds}
use Rattle.txt_core.specs.Names.{Bytes}
use Rattle.http_req.specs.declared.head.Front.{Front}
use Rattle.http_req.specs.declared.head.Front.TheVariants as found
use Rattle.http_req.specs.Heads.{front}
use Rattle.http_req.specs.Limits.{head_limit}
use Rattle.http_req.specs.Outcomes.{Gets, Refused, ended}

-- these are the lines of the text that have ended: none, or all up to the last line feed
pub record AreWholeLines (text lines : Bytes) : Type 0 where
  pub rest : Bytes
  pub parts : text ≡ lines ++ rest
  pub none : All (λ byte. byte ≢ line_feed) rest
  pub ends : (lines ≡ []) ⊎ ((before : Bytes) × (lines ≡ before ++ line_feed ∷ []))

-- a head stands at the front, and the spans cover its parts
pub record HeadStands (text : Bytes) (spans : List HeaderSpan) (head : RequestSpans) : Type 0 where
  pub within : IsRequestWithin text spans head
  pub of : IsRequestOf text spans head

-- a head; what is refused, whatever follows; what ends too early, if it ends here; or more fields than there is room for
abbrev pub FindsFront : Bytes → List HeaderSpan → Front → Type 0
FindsFront input spans (found.Head head) = HeadStands (front input) spans head
FindsFront input spans (found.Refused status) = (peer : Bytes) → Gets input peer (Refused status)
FindsFront input spans found.Cut = ((peer : Bytes) → Gets input peer (ended input)) × (length input < head_limit)
FindsFront input spans found.Crowded = RequestExceeds (length spans) (front input)
