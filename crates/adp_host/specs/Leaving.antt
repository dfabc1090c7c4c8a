-- How pages are left.
use Rattle.std.specs.Prelude.{ℕ, Bool, ◌||◌, ◌==◌, ◌+◌, min, [], if◌then◌else◌}
use Rattle.txt_core.specs.Names.{Words}
use Rattle.outside.specs.Faults.{last_count}
use Rattle.tcl_host.specs.Codes.{ok, error, return, break, continue, page_return, page_break, page_abort}
use Rattle.tcl_host.specs.Leaf.{Leaf, says}
use Rattle.adp_host.specs.States.{PageState, has_page, with_output, with_errors, without_page}
use Rattle.tcl_host.specs.Checks.{is_counted, shaped}
use Rattle.adp_host.specs.Checks.{paged}

-- `ns_adp_return`, `ns_adp_break` and `ns_adp_abort` end with their codes and an empty result; they change nothing by themselves
abbrev pub leaves_with : ℕ → Words → PageState → Leaf PageState
leaves_with code words host = shaped (is_counted 1 1 words) words (paged (says code [])) host

-- an error, and a break or a continue outside of a loop
abbrev pub is_error : ℕ → Bool
is_error code = code == error || code == break || code == continue

-- the end of the page's last piece, a return, the end of this page and of all pages. Of all pages too one is left at a time: the
-- command that included it ends with the same code, and so leaves the next.
abbrev pub is_end : ℕ → Bool
is_end code = code == ok || code == return || code == page_return || code == page_break

-- one error more; where counters stop the count stands still
abbrev pub with_error : PageState → PageState
with_error host = with_errors host (min (host.errors + 1) last_count)

-- What an end of a piece does to the innermost open page. After an error the page goes on, and the error is counted. Any other
-- end closes it, and an abort empties the output besides. No other code is one of these, and it changes nothing.
abbrev pub page_left : ℕ → PageState → PageState
page_left code host =
    if is_error code then with_error host
    else if is_end code then without_page host
    else if code == page_abort then with_output (without_page host) []
    else host

-- where no page is open, nothing is left, and nothing changes
abbrev pub left : ℕ → PageState → PageState
left code host = if has_page host then page_left code host else host
