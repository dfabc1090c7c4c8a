-- What the commands look at before they do anything, in this order: the number of words, that a page is open, the other words.
use Rattle.txt_core.specs.ErrorTexts.{not_in_page}
use Rattle.tcl_host.specs.Leaf.{Leaf}
use Rattle.tcl_host.specs.Checks.{passing}
use Rattle.adp_host.specs.States.{PageState, has_page}

-- a page is open
abbrev pub paged : (PageState → Leaf PageState) → PageState → Leaf PageState
paged does host = passing (has_page host) not_in_page does host
