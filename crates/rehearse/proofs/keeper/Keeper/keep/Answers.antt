use Rattle.rehearse.proofs.Keeping.{keeps_some, reset_on}
use Rattle.rehearse.proofs.keeper.Keeper.keep.Goals as goal

pub returns : goal.returns
returns g c = λ names now same sound on.
    keeps_some names now (record { interp = c.replace.new.dest }) c.reset.new.self c.replace.ensures.after same (c.reset.ensures.is_new names sound)
    (reset_on names now c.args.interp c.reset.new.self c.reset.ensures.blueprint on)
