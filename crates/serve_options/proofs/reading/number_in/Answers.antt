use Rattle.std.specs.Str.Parse.{ExplainsUnsignedError, HasUnsignedDigitsIfOk, ParsesUnsigned}
use Rattle.clap.specs.Words.{found_of}
use Rattle.serve_options.proofs.Found.{number_found}
use Rattle.serve_options.proofs.reading.number_in.Goals as goal

pub returns : goal.returns
returns c =
    let found = number_found (λ bs r. ParsesUnsigned 16 10 bs r × ExplainsUnsignedError 10 bs r × HasUnsignedDigitsIfOk bs r) 16 (found_of c.args.matches.now) c.args.id.now _ (λ u x g. g.0)
    c.get_one.result c.get_one.ensures.none c.get_one.ensures.value in
    rw c.ok_or.ensures.value found
