use Rattle.std.proofs.Common.{rules}
use Rattle.txt_core.specs.Counting.{front_append}
use Rattle.tcl_parse.specs.Laws.Braces.{braced_line, braced_pair}
use Rattle.tcl_parse.proofs.brace.in_braces.Goals as goal

pub loop-b-preserved-then-c-eq10 : goal.loop-b-preserved-then-c-eq10
loop-b-preserved-then-c-eq10 c =
    let step = braced_line c.loop-b.open_now c.in-Some.b.now c.in-Some-split_first.c.now c.loop-b.rest.now c.in-Some.tail.now c.in-Some-split_first.after.now
    c.in-Some.ensures.cases.0 c.in-Some-split_first.ensures.cases.0 c.if-b-eq92.true c.if-c-eq10.true in
    record {
      same = rw (c.in_ok-push-in-Some-split_first.ensures.items, c.after_margin-rest.ensures.same, front_append, ← step) c.loop-b.invariant.same;
      room = search rules;
    }

pub loop-b-preserved-else-c-eq10 : goal.loop-b-preserved-else-c-eq10
loop-b-preserved-else-c-eq10 c =
    let step = braced_pair c.loop-b.open_now c.in-Some.b.now c.in-Some-split_first.c.now c.loop-b.rest.now c.in-Some.tail.now c.in-Some-split_first.after.now
    c.in-Some.ensures.cases.0 c.in-Some-split_first.ensures.cases.0 c.if-b-eq92.true c.if-c-eq10.false in
    record {
      same = rw (c.in_ok-push-in-Some-split_first-3.ensures.items, c.in_ok-push-in-Some-split_first-2.ensures.items, front_append, front_append, ← step) c.loop-b.invariant.same;
      room = search rules;
    }
