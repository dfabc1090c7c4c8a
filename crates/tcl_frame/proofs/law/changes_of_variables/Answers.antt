use Rattle.tcl_frame.proofs.Changes as changes
use Rattle.tcl_frame.proofs.law.changes_of_variables.Goals as goal

pub returns : goal.returns
returns c =
    record {
      written = changes.written_found;
      written_apart = changes.written_apart;
      removed = changes.removed_found;
      removed_apart = changes.removed_apart;
      linked = changes.linked_found;
      unlinked = changes.unlinked_again;
    }
