-- Commands that a check ends, or lets go on.
use Rattle.std.proofs.Common.{◌≡◌, ap, sym, refl, Bool, true, false, List, ℕ, Option, Some, None, Ok, Err}
use Rattle.std.specs.Prelude.{if◌then◌else◌, is_some}
use Rattle.http_req.specs.declared.request.Request.{Request}
use Rattle.tcl_host.specs.Leaf.{Leaf, says}
use Rattle.tcl_host.specs.Outcomes.{EndsWith}
use Rattle.natives.specs.declared.fault.Fault.{Fault}
use Rattle.natives.specs.declared.fault.Fault.TheVariants.{Error, NoMemory}
use Rattle.conn_host.specs.Conns.{ConnState}
use Rattle.tcl_host.specs.Checks.{fails}
use Rattle.conn_host.specs.Checks.{Checked, given, connected}
use Rattle.txt_core.specs.ErrorTexts.{no_connection}
use Rattle.natives.specs.Answers.{Says}
use Rattle.conn_host.specs.Answers.{Finds, Passes}

-- a refusal is the error
pub refused : (e : Fault) (message : List ℕ) (host : ConnState) → Says message e → EndsWith (Err e) host (fails message host)
refused (Error text) message host same = ap (λ (m : List ℕ). says 1 m host) (sym same)
refused NoMemory message host same = tt

-- a test failed
pub not_passed : (e : Fault) (test : Bool) (message : List ℕ) (host : ConnState) (leaf : Leaf ConnState) → Passes (Err e) test message
    → EndsWith (Err e) host (if test then leaf else fails message host)
not_passed (Error text) true message host leaf failed = absurd (let no : true ≡ false = failed.0 in cc)
not_passed (Error text) false message host leaf failed = ap (λ (m : List ℕ). says 1 m host) (sym failed.1)
not_passed NoMemory test message host leaf failed = tt

-- a test of what a word may be failed
pub not_fit : {A : Type 0} (e : Fault) (test : Bool) (found : A) (message : List ℕ) (does : A → ConnState → Leaf ConnState) (host : ConnState) → Passes (Err e) test message
    → EndsWith (Err e) host (given (if test then Ok found else Err message) does host)
not_fit (Error text) true found message does host failed = absurd (let no : true ≡ false = failed.0 in cc)
not_fit (Error text) false found message does host failed = ap (λ (m : List ℕ). says 1 m host) (sym failed.1)
not_fit NoMemory test found message does host failed = tt

-- the same, where the check is of its own
pub not_fit_there : {A : Type 0} (e : Fault) (test : Bool) (found : A) (message : List ℕ) → Passes (Err e) test message
    → Finds {A = A} (Err e) (if test then Ok found else Err message)
not_fit_there (Error text) true found message failed = absurd (let no : true ≡ false = failed.0 in cc)
not_fit_there (Error text) false found message failed = let same : text ≡ message = failed.1 in cc
not_fit_there NoMemory test found message failed = tt

-- nothing was found
pub not_found : {A : Type 0} (e : Fault) (checked : Checked A) (does : A → ConnState → Leaf ConnState) (host : ConnState) → Finds {A = A} (Err e) checked
    → EndsWith (Err e) host (given checked does host)
not_found (Error text) (Ok found) does host failed = absurd (cc)
not_found (Error text) (Err message) does host failed = cc
not_found NoMemory checked does host failed = tt

-- the run has no connection
pub not_connected : (e : Fault) (request : Option Request) (does : Request → ConnState → Leaf ConnState) (host : ConnState) → Passes (Err e) (is_some request) no_connection
    → EndsWith (Err e) host (given (connected request) does host)
not_connected (Error text) (Some request) does host failed = absurd (let no : true ≡ false = failed.0 in cc)
not_connected (Error text) None does host failed = ap (λ (m : List ℕ). says 1 m host) (sym failed.1)
not_connected NoMemory request does host failed = tt

-- it has one, which the command doesn't look at
pub with_connection : (request : Option Request) (does : ConnState → Leaf ConnState) (host : ConnState) → is_some request ≡ true → given (connected request) (λ r. does) host ≡ does host
with_connection (Some request) does host is = refl
with_connection None does host is = absurd (let no : false ≡ true = is in cc)

pub ruleset exits = (refused, not_passed, not_fit, not_found, not_connected, with_connection)
