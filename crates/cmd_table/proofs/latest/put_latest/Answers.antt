use Rattle.cmd_table.proofs.Latests.{put_or_kept}
use Rattle.cmd_table.proofs.latest.put_latest.Goals as goal

pub returns : goal.returns
returns c = λ table is all.
    put_or_kept c.put.result table c.args.latest.now c.put.new.self c.args.name.now c.bytes.result.now _ c.in_ok-looked.looked
    is all c.put.ensures.put c.put.ensures.kept c.in_ok-looked.ensures.named c.in_ok-looked.ensures.holds
