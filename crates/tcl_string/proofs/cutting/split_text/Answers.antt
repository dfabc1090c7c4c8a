use Rattle.std.proofs.Common.{◌≡◌, ◌∙◌, ◌<◌, List, ℕ, length, rules}
use Rattle.std.proofs.lemmas.Result.{IfOk-weaker}
use Rattle.natives.specs.Cutting.{pieces, split_text, is_one_of}
use Rattle.tcl_string.specs.Sets.{set_has}
use Rattle.tcl_string.proofs.Sets.{pieces_alike}
use Rattle.tcl_string.proofs.Pieces.{split_cut}
use Rattle.tcl_string.proofs.cutting.split_text.Goals as goal

pub returns : goal.returns
returns c =
    let some : 0 < length c.args.text.now = search rules in
    let cutting : 0 < length c.args.chars.now = search rules in
    IfOk-weaker c.pieces.result (λ (words : List (List ℕ)). words ≡ pieces (set_has c.new-2.result.holds) c.args.text.now) (λ (words : List (List ℕ)). words ≡ split_text c.args.text.now c.args.chars.now)
    (λ words e. e ∙ pieces_alike (set_has c.new-2.result.holds) (is_one_of c.args.chars.now) c.new-2.ensures c.args.text.now ∙ split_cut c.args.text.now c.args.chars.now some cutting) c.pieces.ensures
