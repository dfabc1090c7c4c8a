use Rattle.std.proofs.Common.{◌∷◌, [], Some}
use Rattle.std.proofs.lemmas.Bool.Decides.{Decides-eqb}
use Rattle.std.proofs.lemmas.Slice.Eq.{strip_suffix_is}
use Rattle.rehearse.proofs.event.read_block.Goals as goal

pub returns-then-block-size : goal.returns-then-block-size
returns-then-block-size c =
    (c.if-block-size.true, strip_suffix_is Decides-eqb c.args.bytes.now (10 ∷ []) (Some c.in_ok-block.block) c.in_ok-block.ensures.cases)
