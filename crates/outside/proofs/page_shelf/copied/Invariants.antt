use Rattle.std.proofs.Common.{◌≡◌, ◌++◌}
use Rattle.outside.proofs.page_shelf.copied.Given as goal

-- what was copied, with what is left to copy behind it, is the whole
abbrev pub invariant-loop-path : goal.invariant-loop-path
invariant-loop-path l = l.copy.entries ++ l.path-iterator ≡ l.fn.pages.entries
