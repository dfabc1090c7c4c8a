use Rattle.rehearse.proofs.OneFile.{file_unique}
use Rattle.rehearse.proofs.law.one_file.Goals as goal

pub returns : goal.returns
returns c = file_unique
