use Rattle.std.proofs.Common.{◌≡◌, ◌<◌, ℕ, List, length, take, drop, ap, ◌∙◌, arith}
use Rattle.chan_core.specs.Chans.{left_in, with_left}
use Rattle.conn_host.proofs.Taken.{all_taken, none_left}
use Rattle.conn_host.proofs.channel.read_all.Goals as goal

pub returns-clause-bytes : goal.returns-clause-bytes
returns-clause-bytes c =
    let most : ℕ = 18446744073709551615 in
    let bytes : List ℕ = left_in c.args.channels.now c.args.number in
    let taken : c.in_ok-bytes.bytes ≡ take most bytes = rw c.in_ok-bytes.ensures.ok at c.read.ensures.bytes in
    let fewer : length c.in_ok-bytes.bytes < most = omega (arith, c.if-prove.false, ap length c.bytes.ensures) in
    all_taken most bytes c.in_ok-bytes.bytes taken fewer

pub returns-clause-left : goal.returns-clause-left
returns-clause-left c =
    let most : ℕ = 18446744073709551615 in
    let bytes : List ℕ = left_in c.args.channels.now c.args.number in
    let taken : c.in_ok-bytes.bytes ≡ take most bytes = rw c.in_ok-bytes.ensures.ok at c.read.ensures.bytes in
    let fewer : length c.in_ok-bytes.bytes < most = omega (arith, c.if-prove.false, ap length c.bytes.ensures) in
    let left : c.read.new.self ≡ with_left c.args.channels.now c.args.number (drop most bytes) = rw c.in_ok-bytes.ensures.ok at c.read.ensures.ok in
    left ∙ ap (λ (bytes : List ℕ). with_left c.args.channels.now c.args.number bytes) (none_left most bytes c.in_ok-bytes.bytes taken fewer)
