use Rattle.std.proofs.Common.{◌≡◌, ℕ, cond, None, List, ◌∙◌, subst}
use Rattle.std.specs.List.{list_any}
use Rattle.std.specs.Ordering.{eq_by_cmp}
use Rattle.std.specs.Map.{keys_of}
use Rattle.std.specs.BTreeMap.{get}
use Rattle.sched_core.specs.Entries.{key_cmp}
use Rattle.sched_core.proofs.Maps.{taken_in, put_back}
use Rattle.sched_core.proofs.due.take_in.Goals as goal

pub returns-in-Ok-clause-ok : goal.returns-in-Ok-clause-ok
returns-in-Ok-clause-ok c = taken_in c.args.plans.now c.args.later c.append.new.self c.requires.ordered c.append.ensures.other_was_ordered c.append.ensures.ordered c.in-Ok.ensures.inserts_all.0 c.requires.apart

pub returns-clause-err : goal.returns-clause-err
returns-clause-err c =
    let moves = c.append.ensures.moves in
    let all : c.deref.result.now ≡ keys_of c.args.later.entries = c.deref.ensures.value ∙ c.in_ok-keys.ensures in
    put_back c.args.plans.now c.append.new.self c.remove_all.new.plans moves.0 c.append.new.other.entries c.args.later.entries c.requires.ordered c.remove_all.ensures.ordered moves.1 moves.2.0
    (λ q. subst (λ (z : List (ℕ × ℕ)). get key_cmp c.remove_all.new.plans q ≡ cond (list_any (λ k. eq_by_cmp key_cmp k q) z) None (get key_cmp c.append.new.self q)) all (c.remove_all.ensures.found q)) c.requires.apart
