-- What `string` comes to, by the subcommand of a name.
use Rattle.std.proofs.Common.{◌≡◌, refl, List, ℕ}
use Rattle.natives.specs.Subcommands.{subcommand_named, reply_named, subcommand_reply}

pub reply_of_name : (name : List ℕ) (words : List (List ℕ)) → reply_named (subcommand_named name) name words ≡ subcommand_reply name words
unfolding subcommand_reply
reply_of_name name words = refl
