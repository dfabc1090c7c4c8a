use Rattle.std.proofs.Common.{◌≡◌, ◌∙◌, refl}
use Rattle.natives.specs.Cutting.{split_reply}
use Rattle.natives.specs.Pure.{pure_split}
use Rattle.natives.specs.Words.{arg, arg_or, usual_chars}
use Rattle.tcl_string.proofs.cutting.split_command.Goals as goal

pub returns : goal.returns
returns c =
    let text : c.bytes.result.now ≡ arg c.args.words.now 1 = c.bytes.ensures ∙ c.word_at.ensures in
    let chars : c.word_or-chars.result.now ≡ arg_or c.args.words.now 2 usual_chars = c.word_or-chars.ensures in
    rw (pure_split c.args.words.now) (c.within_limit.ensures (split_reply c.args.words.now) (c.in_ok-list.ensures ∙ rw (text, chars) refl))
