use Rattle.std.proofs.Common.{◌≡◌}
use Rattle.std.specs.Prelude.{vec_len}
use Rattle.std.specs.List.{All}
use Rattle.natives.specs.Names.{names_of}
use Rattle.shared_state.specs.Cells.{Serve}
use Rattle.serve_run.proofs.Units.{AreLeft}
use Rattle.serve_run.proofs.running.owns_of.Given as goal

abbrev pub invariant-loop-given : goal.invariant-loop-given
invariant-loop-given g l = record {
  cells : Serve (names_of l.natives) l.shared l.passes;
  units : AreLeft l._given l.passes;
  count : vec_len l.owns ≡ l._given;
  owns : All (λ own. Serve (names_of l.natives) l.shared own.passes) l.owns.items;
}
