use Rattle.std.proofs.Common.{◌≡◌, sym, List, ℕ}
use Rattle.natives.specs.Checks.{items, list_error, list_found, no_list_found}
use Rattle.txt_core.specs.ErrorTexts.{no_list}
use Rattle.natives.proofs.Saying.{tried_said}
use Rattle.natives.proofs.list.list_in.Goals as goal

pub returns-in-Ok : goal.returns-in-Ok
returns-in-Ok c =
    let found = list_found c.args.word.now c.in-Ok.list c.in-Ok.ensures in
    (found.0, sym found.1)

pub returns-in-Err-Bad : goal.returns-in-Err-Bad
returns-in-Err-Bad c =
    tried_said (λ (list : List (List ℕ)). list ≡ items c.args.word.now) (list_error c.args.word.now) (no_list c.in-Err-Bad.at) c.no_list.result (no_list_found c.args.word.now c.in-Err-Bad.at (rw c.in-Err-Bad.field-0-is at c.in-Err-Bad.ensures)) c.no_list.ensures
