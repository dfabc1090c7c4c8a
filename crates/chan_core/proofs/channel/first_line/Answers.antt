use Rattle.std.proofs.Common.{ap, sym, ◌∙◌, take, drop, ◌+◌}
use Rattle.std.proofs.Math.Seq.{take-length}
use Rattle.chan_core.proofs.Newlines.{found, not_found, behind_all}
use Rattle.chan_core.proofs.channel.first_line.Goals as goal

pub returns-in-Some-clause-line : goal.returns-in-Some-clause-line
returns-in-Some-clause-line c = ap (λ n. take n c.args.bytes.now) (sym (found c.args.bytes.now c.in-Some.at c.in-Some.ensures))

pub returns-in-Some-clause-behind : goal.returns-in-Some-clause-behind
returns-in-Some-clause-behind c = ap (λ n. drop (n + 1) c.args.bytes.now) (sym (found c.args.bytes.now c.in-Some.at c.in-Some.ensures))

pub returns-in-None-clause-line : goal.returns-in-None-clause-line
returns-in-None-clause-line c =
    sym (take-length c.args.bytes.now) ∙ ap (λ n. take n c.args.bytes.now) (sym (not_found c.args.bytes.now c.in-None.ensures))

pub returns-in-None-clause-behind : goal.returns-in-None-clause-behind
returns-in-None-clause-behind c = behind_all c.args.bytes.now (not_found c.args.bytes.now c.in-None.ensures)
