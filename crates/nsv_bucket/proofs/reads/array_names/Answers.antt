use Rattle.std.proofs.Common.{sym, ap, ◌∙◌}
use Rattle.std.specs.FinMap as map
use Rattle.std.specs.List.{slice_get}
use Rattle.std.specs.Option.{option_copied}
use Rattle.txt_core.specs.Words.{arg}
use Rattle.nsv_bucket.specs.Arrays.{seen}
use Rattle.nsv_bucket.specs.Replies.{result_of}
use Rattle.nsv_bucket.proofs.Results.{if_then}
use Rattle.nsv_bucket.proofs.Standing.{no_names}
use Rattle.nsv_bucket.proofs.reads.array_names.Goals as goal

pub returns-in-None : goal.returns-in-None
returns-in-None c =
    if_then c.answer.result c.answer.ensures (λ reply is.
    is ∙ ap result_of (c.empty.ensures ∙ sym (no_names (seen c.args.arrays.now) (arg c.args.words.now 2) (slice_get c.args.words.now 3)
    (ap (map.get (seen c.args.arrays.now)) (sym c.word.ensures) ∙ sym c.array_named.ensures ∙ ap option_copied c.in-None.is))))
