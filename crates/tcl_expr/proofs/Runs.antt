-- Runs of letters and digits.
use Rattle.std.proofs.Common.{◌≡◌, ℕ, ◌<◌, ◌≤◌, List, length, take, drop, get_or, true, false, refl}
use Rattle.std.specs.List.{prefix_len}
use Rattle.std.proofs.lemmas.List.Sums.{prefix_len_is}
use Rattle.tcl_expr.specs.Runs.{is_word, run_at}

-- the run is the first count bytes
pub run_ends : (count : ℕ) (bs : List ℕ) → ((k : ℕ) → k < count → is_word (get_or bs k 0) ≡ true) → count ≤ length bs → (count < length bs → is_word (get_or bs count 0) ≡ false) → run_at bs ≡ (take count bs, drop count bs)
run_ends count bs h le stop =
    let e : prefix_len is_word bs ≡ count = prefix_len_is is_word bs count 0 le h stop in
    rw e refl
