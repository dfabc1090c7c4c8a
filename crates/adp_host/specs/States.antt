-- What the host of pages knows.
use Rattle.std.specs.Prelude.{ℕ, Bool, nat_lt, ◌-◌, List, [], ◌∷◌, ◌++◌, length, take, slice_index_or}
use Rattle.txt_core.specs.Names.{Bytes, Words}

-- The state of the host.
pub record PageState : Type 0 where
  -- what the pages have put out
  pub output : Bytes
  -- how many blocks of pages ended in an error; the count stands still where counters stop
  pub errors : ℕ
  -- the open pages, each by its arguments: its file as it was written, and the words behind it; the innermost is the last
  pub pages : List Words

-- The host as it begins: nothing was put out, no block ended in an error, and no page is open.
abbrev pub no_page_yet : PageState
no_page_yet = record { output = []; errors = 0; pages = [] }

-- a page is open
abbrev pub has_page : PageState → Bool
has_page host = nat_lt 0 (length host.pages)

-- the arguments of the innermost open page; none where no page is open
abbrev pub arguments : PageState → Words
arguments host = slice_index_or host.pages (length host.pages - 1) []

abbrev pub with_output : PageState → Bytes → PageState
with_output host output = record host { output = output }

abbrev pub with_errors : PageState → ℕ → PageState
with_errors host errors = record host { errors = errors }

-- a page with these arguments is open inside the others
abbrev pub with_page : PageState → Words → PageState
with_page host args = record host { pages = host.pages ++ args ∷ [] }

-- the innermost open page is open no more
abbrev pub without_page : PageState → PageState
without_page host = record host { pages = take (length host.pages - 1) host.pages }

-- no page is open any more
abbrev pub without_pages : PageState → PageState
without_pages host = record host { pages = [] }
