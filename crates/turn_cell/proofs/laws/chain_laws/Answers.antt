use Rattle.turn_cell.proofs.Chains.{single_turns, chains_in_a_row, chains_leave, chains_follow, chains_rise}
use Rattle.turn_cell.proofs.laws.chain_laws.Goals as goal

pub returns : goal.returns
returns g c = let o = g.O.Obj in let m = g.met.O.Obj in record {
  single = single_turns o.allowed o.reaches o.step;
  in_a_row = chains_in_a_row o.allowed o.reaches o.step;
  leave = chains_leave o.allowed o.reaches o.step m.reaches_self m.reaches_later m.step_reaches;
  follow = chains_follow o.allowed o.reaches o.step m.reaches_self m.reaches_later m.step_reaches;
  rise = chains_rise o.allowed o.reaches o.step m.reaches_self m.reaches_later m.step_reaches;
}
