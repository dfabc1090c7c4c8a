use Rattle.std.proofs.Common.{◌≡◌, List, ℕ, not, ap, ◌∙◌, rules, tests}
use Rattle.std.proofs.lemmas.Iterator.Search.{any_from_yields_List}
use Rattle.std.proofs.lemmas.Iterator.Splits.{YieldsList-from_slice_split}
use Rattle.std.specs.List.{list_any, slice_split}
use Rattle.tcl_host.specs.PagePaths.{is_slash, is_bad_segment}
use Rattle.tcl_host.proofs.paths.is_page_path.Goals as goal

pub returns : goal.returns
returns c =
    let found : c.any.result ≡ list_any is_bad_segment (slice_split is_slash c.behind_slash.result.now) = any_from_yields_List is_bad_segment _ _ _ c.any.ensures.ran (YieldsList-from_slice_split _ is_slash c.behind_slash.result.now c.split.ensures.rest c.split.ensures.done c.split.ensures.closure (λ x r q k. search (rules, tests))) (λ x r q k. search (rules, tests)) in
    ap not (found ∙ ap (λ (path : List ℕ). list_any is_bad_segment (slice_split is_slash path)) c.behind_slash.ensures)
