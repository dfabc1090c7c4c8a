use Rattle.std.proofs.Common.{◌≡◌, ◌++◌, ◌∷◌, [], sym, rules}
use Rattle.txt_core.specs.Quoting.{written}
use Rattle.tcl_list.proofs.Behind.{braces_begin}
use Rattle.tcl_list.proofs.appending.behind_braces.Goals as goal

pub returns-in-InBraces : goal.returns-in-InBraces
returns-in-InBraces c =
    let in_braces : written c.in_ok-text.text.now ≡ 123 ∷ (c.in_ok-text.text.now ++ (125 ∷ [])) = search rules in
    braces_begin c.args.bytes.now c.in_ok-text.text.now c.in_ok-text.rest.now (sym c.in_ok-text.ensures.same) in_braces
