use Rattle.std.proofs.Common.{Ok, Err}
use Rattle.natives.specs.Answers.{Reply, Answers}
use Rattle.natives.specs.declared.fault.Fault.TheVariants.{NoMemory}
use Rattle.tests_commands.proofs.tables.gives_up.Goals as goal

-- want of memory is free
free : (reply : Reply) → Answers reply (Err NoMemory)
free (Ok text) = tt
free (Err text) = tt

pub returns : goal.returns
returns c = free
