-- The replies and their texts.
use Rattle.std.specs.Prelude.{if◌then◌else◌, codes}
use Rattle.txt_core.specs.Names.{Bytes}
use Rattle.txt_core.specs.Limits.{is_long}
use Rattle.txt_core.specs.ErrorTexts.{naming, bad_value}
use Rattle.txt_core.specs.ErrorTexts as texts
use Rattle.nsv_bucket.specs.declared.reply.NsvReply.{NsvReply}
use Rattle.nsv_bucket.specs.declared.reply.NsvReply.TheVariants.{Said, Failed}
use Rattle.nsv_bucket.specs.Arrays.{Arrays}

-- what a step gives: the reply, and the arrays after it
abbrev pub Outcome : Type 0
Outcome = NsvReply × Arrays

-- an error with this text, unless it is over the limit of a value
abbrev pub refusal : Bytes → NsvReply
refusal text = if is_long text then Failed texts.too_long else Failed text

-- a result with this text, unless it is over the limit of a value
abbrev pub result_of : Bytes → NsvReply
result_of text = if is_long text then Failed texts.too_long else Said text

-- the error of a text that is too long; nothing changes
abbrev pub over_limit : Arrays → Outcome
over_limit arrays = (Failed texts.too_long, arrays)

-- an error, which changes nothing
abbrev pub refused : Arrays → Bytes → Outcome
refused arrays text = (refusal text, arrays)

-- a result that changes nothing
abbrev pub answered : Arrays → Bytes → Outcome
answered arrays text = (result_of text, arrays)

-- no array "NAME"
abbrev pub no_shared_array : Bytes → Bytes
no_shared_array name = naming (codes "no array \"") name (codes "\"")

-- no key "KEY" in array "NAME"
abbrev pub no_key : Bytes → Bytes → Bytes
no_key key name = naming (codes "no key \"") key (naming (codes "\" in array \"") name (codes "\""))

-- bad value "TEXT" for "nsv_array", of a list that isn't one of pairs
abbrev pub bad_pairs : Bytes → Bytes
bad_pairs text = bad_value text (codes "nsv_array")
