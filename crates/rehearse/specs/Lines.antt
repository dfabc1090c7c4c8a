-- What a rehearsal tells: the entries of its listing, and how they are written.
use Rattle.std.specs.Prelude.{ℕ, List, [], ◌∷◌, ◌++◌, length, decimal, codes, Option, Some, None}
use Rattle.txt_core.specs.Names.{Bytes, Words}
use Rattle.rehearse.specs.Events.{line_of, block_end}

-- why a connection was closed
pub data Closing : Type 0 where
  -- at the end of its input
  ended : Closing
  -- behind a request that asked so
  closing : Closing
  -- the input ended inside a request, of which so many bytes were there
  truncated : (have : ℕ) → Closing
  -- a request was refused with this status
  refused : (status : ℕ) → Closing
  -- it had all that a connection may
  spent : Closing

pub data Line : Type 0 where
  -- A block ended well: the epoch behind its publication, or, where nothing was published, that of the blueprint on which it ran.
  defined : (epoch : ℕ) → Line
  -- a block ended in this error, or spent its budget, or nested too deep
  define_error : (text : Bytes) → Line
  define_spent : Line
  define_deep : Line
  -- a worker wrote a response of this status, in these bytes, on the blueprint of this epoch; a refusal has none
  response : (number : ℕ) (epoch : Option ℕ) (status : ℕ) (bytes : Bytes) → Line
  -- a worker closed its connection
  closed : (number : ℕ) (why : Closing) → Line
  -- a scheduled script ended with this code and result, on the blueprint of this epoch, or spent its budget, or nested too deep
  script : (id epoch code : ℕ) (result : Bytes) → Line
  script_spent : (id epoch : ℕ) → Line
  script_deep : (id epoch : ℕ) → Line

-- ---- how they are written

abbrev pub closing_words : Closing → Words
closing_words ended = codes "ended" ∷ []
closing_words closing = codes "closing" ∷ []
closing_words (truncated have) = codes "truncated" ∷ decimal have ∷ []
closing_words (refused status) = codes "refused" ∷ decimal status ∷ []
closing_words spent = codes "spent" ∷ []

-- no epoch is a dash
abbrev pub epoch_word : Option ℕ → Bytes
epoch_word (Some epoch) = decimal epoch
epoch_word None = codes "-"

-- the words of an entry's line; where there is a block, the last word is its length
abbrev pub line_words : Line → Words
line_words (defined epoch) = codes "defined" ∷ decimal epoch ∷ []
line_words (define_error text) = codes "define" ∷ codes "error" ∷ decimal (length text) ∷ []
line_words define_spent = codes "define" ∷ codes "spent" ∷ []
line_words define_deep = codes "define" ∷ codes "deep" ∷ []
line_words (response number epoch status bytes) = codes "response" ∷ decimal number ∷ epoch_word epoch ∷ decimal (length bytes) ∷ []
line_words (closed number why) = codes "closed" ∷ decimal number ∷ closing_words why
line_words (script id epoch code result) = codes "script" ∷ decimal id ∷ decimal epoch ∷ decimal code ∷ decimal (length result) ∷ []
line_words (script_spent id epoch) = codes "script" ∷ decimal id ∷ decimal epoch ∷ codes "spent" ∷ []
line_words (script_deep id epoch) = codes "script" ∷ decimal id ∷ decimal epoch ∷ codes "deep" ∷ []

abbrev pub line_block : Line → Option Bytes
line_block (defined epoch) = None
line_block (define_error text) = Some text
line_block define_spent = None
line_block define_deep = None
line_block (response number epoch status bytes) = Some bytes
line_block (closed number why) = None
line_block (script id epoch code result) = Some result
line_block (script_spent id epoch) = None
line_block (script_deep id epoch) = None

abbrev pub told : Line → Bytes
told line = line_of (line_words line) ++ block_end (line_block line)

-- a listing as it is written: its entries, one behind the other
abbrev pub listing_of : List Line → Bytes
listing_of [] = []
listing_of (line ∷ lines) = told line ++ listing_of lines
