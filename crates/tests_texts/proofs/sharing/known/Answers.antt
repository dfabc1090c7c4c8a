use Rattle.std.proofs.Common.{[], ◌∷◌, refl}
use Rattle.txt_core.specs.Quoting.{quoting}
use Rattle.tests_texts.proofs.sharing.known.Goals as goal

pub knowing-requires : goal.knowing-requires
unfolding quoting
knowing-requires c = (97 ∷ [], [], rw c.in-Ok.ensures refl)
