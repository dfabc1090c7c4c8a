use Rattle.std.proofs.Common.{◌≡◌, ◌∙◌, refl, arith, rules, ℕ, List, [], ◌∷◌, length, Ok}
use Rattle.std.specs.Prelude.{codes}
use Rattle.txt_core.specs.Quoting.{quoting}
use Rattle.natives.specs.Answers.{limited}
use Rattle.natives.specs.Lists.{list_reply}
use Rattle.natives.specs.Pure.{pure_of, pure_list}
use Rattle.tests_language.proofs.stand_ins.list_none.Goals as goal

-- one word is the name alone
no_words : (words : List (List ℕ)) → length words ≡ 1 → limited (list_reply words) ≡ Ok []
unfolding quoting
no_words [] e = absurd (omega arith)
no_words (x ∷ []) e = refl
no_words (x ∷ y ∷ words) e = absurd (omega arith)

pub returns : goal.returns
returns c =
    let one : length c.args.words.now ≡ 1 = search rules in
    let is : pure_of (codes "list") c.args.words.now ≡ Ok [] = pure_list c.args.words.now ∙ no_words c.args.words.now one in
    rw is c.empty.ensures
