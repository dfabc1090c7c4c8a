use Rattle.turn_cell.proofs.Joins.{merged_is_permutation, merged_has, merged_rises, rising_is_one, joined_sees}
use Rattle.turn_cell.proofs.laws.join_laws.Goals as goal

pub returns : goal.returns
returns g c = record { permutation = merged_is_permutation; has = merged_has; rises = merged_rises; one = rising_is_one; sees = joined_sees }
