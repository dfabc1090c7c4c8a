use Rattle.std.proofs.Common.{◌<◌, ◌+◌, List, ℕ, length, sym, subst}
use Rattle.load_gen.specs.Load.{file_limit}
use Rattle.load_gen.proofs.Rounds.{written_whole, file_short}
use Rattle.load_gen.proofs.load.Goals as goal

pub returns-clause-file : goal.returns-clause-file
returns-clause-file c =
    written_whole c.in_ok-file.file c.push_rounds.new.file c.append.new.self c.args.n (1 + c.args.n) c.from.result c.in_ok-push_rounds.field-0
    c.in_ok-file.ensures c.from.ensures (c.in_ok-push_rounds.ensures.rounds 0) c.in_ok-append.ensures.ok

pub returns-clause-short : goal.returns-clause-short
returns-clause-short c =
    let is =
    written_whole c.in_ok-file.file c.push_rounds.new.file c.append.new.self c.args.n (1 + c.args.n) c.from.result c.in_ok-push_rounds.field-0
    c.in_ok-file.ensures c.from.ensures (c.in_ok-push_rounds.ensures.rounds 0) c.in_ok-append.ensures.ok
    in
    subst (λ (t : List ℕ). length t < file_limit) (sym is) (file_short c.args.n c.requires.most)
