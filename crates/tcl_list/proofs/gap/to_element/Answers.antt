use Rattle.std.proofs.Common.{◌≡◌, sym, subst, ◌≤◌, List, ℕ, length}
use Rattle.txt_core.specs.Number.{trimmed_front}
use Rattle.txt_core.specs.Lists.{skip_gaps, ends_element, is_end}
use Rattle.txt_core.specs.Listing.{gaps_within, gaps_stand}
use Rattle.tcl_list.proofs.gap.to_element.Goals as goal

skipped : (t r : List ℕ) → r ≡ trimmed_front t → r ≡ skip_gaps t
unfolding skip_gaps
skipped t r e = e

pub returns-clause-same : goal.returns-clause-same
returns-clause-same c = skipped c.args.bytes.now c.trim_front.result.now c.trim_front.ensures

pub returns-clause-shorter : goal.returns-clause-shorter
returns-clause-shorter c =
    subst (λ (r : List ℕ). length r ≤ length c.args.bytes.now) (sym (skipped c.args.bytes.now c.trim_front.result.now c.trim_front.ensures)) (gaps_within c.args.bytes.now)

pub returns-clause-stands : goal.returns-clause-stands
returns-clause-stands c =
    subst (λ (r : List ℕ). ends_element r ≡ is_end r) (sym (skipped c.args.bytes.now c.trim_front.result.now c.trim_front.ensures)) (gaps_stand c.args.bytes.now)
