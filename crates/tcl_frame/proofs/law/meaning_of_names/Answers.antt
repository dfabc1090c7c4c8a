use Rattle.tcl_frame.proofs.ElementNames.{formed, kind_of}
use Rattle.tcl_frame.proofs.law.meaning_of_names.Goals as goal

pub returns : goal.returns
returns c = record { element = formed; other = kind_of }
