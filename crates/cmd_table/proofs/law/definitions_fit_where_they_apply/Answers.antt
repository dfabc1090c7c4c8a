use Rattle.cmd_table.proofs.Applying.{fits_where}
use Rattle.cmd_table.proofs.law.definitions_fit_where_they_apply.Goals as goal

pub returns : goal.returns
returns c = fits_where
