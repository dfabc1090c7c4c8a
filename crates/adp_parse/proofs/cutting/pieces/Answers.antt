use Rattle.adp_parse.specs.Cutting.{shorter}
use Rattle.adp_parse.proofs.OneList.{the_pieces}
use Rattle.adp_parse.proofs.Pushing.{next, last}
use Rattle.adp_parse.proofs.cutting.pieces.Goals as goal

pub next_block-init : goal.next_block-init
next_block-init c = λ later are. rw (c.new-list.ensures, ← c.bytes-rest.ensures) are

pub next_block-smaller : goal.next_block-smaller
next_block-smaller c = shorter _ _ _ _ c.in-Some.ensures

pub next_block-preserved : goal.next_block-preserved
next_block-preserved c = next _ _ _ _ _ _ _ _ _ c.next_block.invariant c.in-Some.ensures c.in_ok-push_text.ensures c.in_ok-block.ensures c.in_ok-add.ensures.ok

pub returns-clause-list : goal.returns-clause-list
returns-clause-list c = last _ _ _ _ c.next_block.invariant c.in_default.ensures c.in_ok-push_text-2.ensures

pub returns-clause-named : goal.returns-clause-named
returns-clause-named c = the_pieces _ _ (last _ _ _ _ c.next_block.invariant c.in_default.ensures c.in_ok-push_text-2.ensures)
