-- Pages in memory.
use Rattle.std.specs.Prelude.{ℕ, ◌≡◌, Some, None, refl}
use Rattle.std.specs.Ordering.{nat_cmp}
use Rattle.std.specs.Cmp.Lexicographic.{slice_cmp}
use Rattle.std.specs.FinMap as map
use Rattle.std.specs.Coded.{Coded, code_by, coded×, coded_list, coded_ℕ}
use Rattle.txt_core.specs.Names.{Bytes}
use Rattle.outside.specs.Calls.{Calls, NextFails, after_good, after_fault}
use Rattle.outside.specs.Paging.{PageMap}
use Rattle.outside.specs.declared.pages.PageAnswer.{PageAnswer}
use Rattle.outside.specs.declared.pages.PageAnswer.TheVariants.{Page, NoPage, Failed, NoMemory}

-- Pages in memory, as contracts see them.
pub record Shelf : Type 0 where
  pub pages : PageMap
  pub calls : Calls

-- how a program keeps one: as its pages, the numbers of the calls that fail, and both counts
abbrev pub shelf_code : Coded Shelf
shelf_code =
    code_by (PageMap × (Bytes × (ℕ × ℕ))) (coded× (map.code {R = slice_cmp nat_cmp} (coded_list coded_ℕ) (coded_list coded_ℕ)) (coded× (coded_list coded_ℕ) (coded× coded_ℕ coded_ℕ)))
    (λ s. (s.pages, (s.calls.fails, (s.calls.made, s.calls.faults)))) (λ p. record { pages = p.0; calls = record { fails = p.1.0; made = p.1.1.0; faults = p.1.1.1 } }) (λ _. refl)

abbrev pub after_asking : Shelf → Shelf
after_asking shelf = record { pages = shelf.pages; calls = after_good shelf.calls }

-- What asking pages in memory does: it fails exactly where its number is listed; else it gives the page at the path, or
-- tells that there is none, but for want of memory.
abbrev pub Hands : Shelf → Bytes → PageAnswer → Shelf → Type 0
Hands before path (Page text) after = ¬ (NextFails before.calls) × (map.get before.pages path ≡ Some text) × (after ≡ after_asking before)
Hands before path NoPage after = ¬ (NextFails before.calls) × (map.get before.pages path ≡ None) × (after ≡ after_asking before)
Hands before path Failed after = NextFails before.calls × (after ≡ record { pages = before.pages; calls = after_fault before.calls })
Hands before path NoMemory after = ¬ (NextFails before.calls) × (after ≡ after_asking before)
