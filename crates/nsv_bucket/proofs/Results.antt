-- What follows from a clause on a result.
use Rattle.std.proofs.Common.{Result, Ok, Err}
use Rattle.std.specs.Result.{IfOk, OnOk, OnErr}

pub ok_then : {A E P Q : Type 0} (r : Result A E) → OnOk r P → (P → Q) → OnOk r Q
ok_then (Ok x) p f = f p
ok_then (Err e) p f = tt

pub err_then : {A E P Q : Type 0} (r : Result A E) → OnErr r P → (P → Q) → OnErr r Q
err_then (Ok x) p f = tt
err_then (Err e) p f = f p

pub if_then : {A E : Type 0} {P Q : A → Type 0} (r : Result A E) → IfOk r P → ((x : A) → P x → Q x) → IfOk r Q
if_then (Ok x) p f = f x p
if_then (Err e) p f = tt
