use Rattle.std.proofs.Common.{◌+◌, ap, ◌∙◌, rules, arith}
use Rattle.std.proofs.lemmas.List.Elements.{All-push, All-same}
use Rattle.natives.specs.Names.{names_of}
use Rattle.shared_state.specs.Cells.{Serve}
use Rattle.serve_run.specs.declared.crew.Own.{Own}
use Rattle.serve_run.proofs.Units.{one_more, two_left, none_given}
use Rattle.serve_run.proofs.running.owns_of.Goals as goal

pub loop-given-init : goal.loop-given-init
loop-given-init g c = record {
  cells = c.requires.cells;
  units = none_given c.args.passes.now c.requires.whole;
  count = search rules;
  owns = search rules;
}

pub own_of-requires-clause-units : goal.own_of-requires-clause-units
own_of-requires-clause-units g c =
    two_left c.loop-given._given c.loop-given.passes (omega (arith, c.loop-given-test.true, c.requires.few)) c.loop-given.invariant.units

pub loop-given-preserved : goal.loop-given-preserved
loop-given-preserved g c =
    let was = c.loop-given.invariant in
    let P = λ (own : Own g.row.P.Denot g.row.C.Denot). Serve (names_of c.args.natives.now) c.args.shared.now own.passes in
    record {
      cells = c.own_of.ensures.cells;
      units = one_more c.loop-given._given c.loop-given.passes c.own_of.new.passes (omega (arith, c.loop-given-test.true, c.requires.few)) was.units c.own_of.ensures.left;
      count = c.in_ok-push.ensures.len ∙ ap (λ n. n + 1) was.count;
      owns = All-same P c.push.new.self.items _ c.in_ok-push.ensures.items (All-push P c.loop-given.owns.items _ was.owns c.in_ok-own.ensures.own);
    }
