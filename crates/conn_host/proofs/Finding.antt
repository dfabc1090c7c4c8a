-- Checks that stand on other checks.
use Rattle.std.proofs.Common.{◌≡◌, ap, sym, refl, ℕ, Bool, true, false, List, Ok, Err, ◌&&◌}
use Rattle.std.specs.Prelude.{ℤ, pos, negsuc}
use Rattle.tcl_host.specs.Checks.{unfit}
use Rattle.conn_host.specs.Checks.{Checked}
use Rattle.conn_host.specs.Answers.{Finds}
use Rattle.conn_host.proofs.Exits.{not_fit_there}
use Rattle.conn_host.specs.Responding.{status_of}
use Rattle.conn_host.specs.RequestCommands.{bytes_from}
use Rattle.conn_host.specs.TextCommands.{up_to_last}
use Rattle.natives.specs.declared.fault.Fault.{Fault}
use Rattle.natives.specs.declared.fault.Fault.TheVariants.{Error, NoMemory}

pub no_status : (e : Fault) (checked : Checked ℤ) (words : List (List ℕ)) → Finds {A = ℤ} (Err e) checked → Finds {A = ℕ} (Err e) (status_of checked words)
no_status (Error text) (Ok n) words failed = absurd (cc)
no_status (Error text) (Err message) words failed = cc
no_status NoMemory checked words failed = tt

pub no_moment : (e : Fault) (checked : Checked ℕ) (words : List (List ℕ)) → Finds {A = ℕ} (Err e) checked → Finds {A = ℕ} (Err e) (up_to_last checked words)
no_moment (Error text) (Ok n) words failed = absurd (cc)
no_moment (Error text) (Err message) words failed = cc
no_moment NoMemory checked words failed = tt

pub no_first : (e : Fault) (first most : Checked ℕ) (text : List ℕ) → Finds {A = ℕ} (Err e) first → Finds {A = List ℕ} (Err e) (bytes_from first most text)
no_first (Error t) (Ok n) most text failed = absurd (cc)
no_first (Error t) (Err message) (Ok m) text failed = cc
no_first (Error t) (Err message) (Err other) text failed = cc
no_first NoMemory first most text failed = tt

pub no_most : (e : Fault) (n : ℕ) (most : Checked ℕ) (text : List ℕ) → Finds {A = ℕ} (Err e) most → Finds {A = List ℕ} (Err e) (bytes_from (Ok n) most text)
no_most (Error t) n (Ok m) text failed = absurd (cc)
no_most (Error t) n (Err message) text failed = cc
no_most NoMemory n most text failed = tt

pub ruleset missing = (no_status, no_moment, no_first, no_most, not_fit_there)
