use Rattle.ictl.specs.Steps.{EntersNone}
use Rattle.ictl.proofs.Pages.{enters_none}
use Rattle.ictl.proofs.serving.entered.Goals as goal

pub returns : goal.returns
returns c = enters_none c.args.reply c.in_default.not-Enter c.in_default.not-NoMemory
