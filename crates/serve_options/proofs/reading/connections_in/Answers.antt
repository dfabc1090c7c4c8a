use Rattle.std.proofs.Common.{codes}
use Rattle.std.specs.Str.Parse.{ExplainsUnsignedError, HasUnsignedDigitsIfOk, ParsesUnsigned}
use Rattle.clap.specs.Words.{found_of}
use Rattle.serve_options.proofs.Found.{number_found}
use Rattle.serve_options.proofs.reading.connections_in.Goals as goal

pub returns : goal.returns
returns c =
    let found = number_found (λ bs r. ParsesUnsigned 32 10 bs r × ExplainsUnsignedError 10 bs r × HasUnsignedDigitsIfOk bs r) 32 (found_of c.args.matches.now) (codes "connections") _ (λ u x g. g.0)
    c.get_one.result c.get_one.ensures.none c.get_one.ensures.value in
    rw c.ok_or.ensures.value found
