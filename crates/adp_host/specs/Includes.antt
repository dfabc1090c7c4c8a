-- Pages in pages.
use Rattle.std.specs.Prelude.{nat_le, length, drop, Result, Ok, Err}
use Rattle.txt_core.specs.Names.{Bytes, Words}
use Rattle.outside.specs.declared.question.Answer.{Answer}
use Rattle.adp_parse.specs.PiecesOf.{pieces_of}
use Rattle.tcl_host.specs.PagePaths.{page_path, is_page_path}
use Rattle.tcl_host.specs.Pages.{page_question, page_told}
use Rattle.tcl_host.specs.Leaf.{Leaf, wants, Onward, goes, enters}
use Rattle.natives.specs.Words.{arg}
use Rattle.adp_host.specs.States.{PageState, with_page}
use Rattle.tcl_host.specs.Checks.{fails, shaped, fitting}
use Rattle.adp_host.specs.Checks.{paged}

-- the page of a path is asked for
abbrev pub asks_page : Bytes → PageState → Leaf PageState
asks_page path host = wants (page_question path) host

-- `ns_adp_include FILE WORD..` asks for the page of the file, with a slash put in front where it lacks one
abbrev pub ns_adp_include : Words → PageState → Leaf PageState
ns_adp_include words host =
    shaped (nat_le 2 (length words)) words
    (paged (fitting (is_page_path (arg words 1)) words 1 (asks_page (page_path (arg words 1))))) host

-- a page is open now, and its pieces are to be run; both have the file as it is written, and the words behind it
abbrev pub enters_page : Words → Bytes → PageState → Onward PageState
enters_page words page host = enters (record { list = pieces_of page; args = drop 1 words }) (with_page host (drop 1 words))

-- the page that the command was told is entered, and with an error none is
abbrev pub told_page : Words → Result Bytes Bytes → PageState → Onward PageState
told_page words (Ok page) host = enters_page words page host
told_page words (Err message) host = goes (fails message host)

-- what comes of the answer to `ns_adp_include`, whether or not a page is open
abbrev pub page_answered : Words → Answer → PageState → Onward PageState
page_answered words answer host = told_page words (page_told (page_path (arg words 1)) answer) host
