use Rattle.std.proofs.Common.{◌≡◌, drop, false}
use Rattle.natives.specs.Options.{last_is}
use Rattle.tcl_listcmd.proofs.options.last_is.Given as goal

-- what the options so far and those that are left say
abbrev pub invariant-options : goal.invariant-options
invariant-options l = last_is l.this l.other l.so (drop l.word-index l.options) ≡ last_is l.this l.other false l.options
