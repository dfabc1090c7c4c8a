use Rattle.std.proofs.Common.{ap, ◌∙◌, ◌%◌, decimal, length, List, ℕ}
use Rattle.std.proofs.lemmas.Result.{on_ok_weaker}
use Rattle.load_gen.specs.Load.{choice, target_of, get_of}
use Rattle.load_gen.proofs.Rounds.{one_round}
use Rattle.load_gen.proofs.push_round.Goals as goal

pub returns : goal.returns
returns c =
    on_ok_weaker c.append-6.result (λ is.
    one_round c.args.file.now c.append.new.self c.push_number.new.text c.append-2.new.self c.push_number-2.new.text c.append-3.new.self c.push_number-3.new.text c.append-4.new.self c.append-5.new.self c.append-6.new.self
    (decimal (c.args.x % 4)) c.bytes.result.now (get_of (target_of (choice c.args.x) c.args.k)) c.len.result
    c.in_ok-append.ensures.ok c.in_ok-push_number.ensures c.in_ok-append-2.ensures.ok c.in_ok-push_number-2.ensures c.in_ok-append-3.ensures.ok c.in_ok-push_number-3.ensures c.in_ok-append-4.ensures.ok c.in_ok-append-5.ensures.ok is
    (c.bytes.ensures ∙ c.in_ok-input.ensures) (c.len.ensures ∙ ap (λ (t : List ℕ). length t) c.in_ok-input.ensures))
    c.append-6.ensures.ok
