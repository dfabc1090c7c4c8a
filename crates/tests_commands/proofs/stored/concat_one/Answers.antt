use Rattle.std.proofs.Common.{◌≡◌, ◌∙◌, ap, refl, arith, rules, ℕ, List, [], ◌∷◌, length, Ok}
use Rattle.std.specs.Prelude.{codes, filter}
use Rattle.txt_core.specs.Number.{trimmed}
use Rattle.txt_core.specs.Texts.{is_filled}
use Rattle.natives.specs.Answers.{limited}
use Rattle.natives.specs.Words.{arg}
use Rattle.natives.specs.Lists.{concat_reply, joined}
use Rattle.natives.specs.Pure.{pure_of, pure_concat}
use Rattle.tests_commands.proofs.stored.concat_one.Goals as goal

-- one word alone is itself, also where it is empty
alone : (x : List ℕ) → joined (codes " ") (filter is_filled (x ∷ [])) ≡ x
alone [] = refl
alone (b ∷ t) = refl

one_word : (words : List (List ℕ)) → length words ≡ 2 → concat_reply words ≡ Ok (trimmed (arg words 1))
one_word [] e = absurd (omega arith)
one_word (x ∷ []) e = absurd (omega arith)
one_word (x ∷ y ∷ []) e = ap (λ (t : List ℕ). Ok t) (alone (trimmed y))
one_word (x ∷ y ∷ z ∷ words) e = absurd (omega arith)

pub returns : goal.returns
returns c =
    let two : length c.args.words.now ≡ 2 = search rules in
    let text : c.in_ok-trimmed.trimmed ≡ trimmed (arg c.args.words.now 1) = c.in_ok-trimmed.ensures ∙ c.trim.ensures ∙ ap trimmed (c.bytes.ensures ∙ c.word_at.ensures) in
    let is : pure_of (codes "concat") c.args.words.now ≡ limited (Ok (trimmed (arg c.args.words.now 1))) = pure_concat c.args.words.now ∙ ap limited (one_word c.args.words.now two) in
    rw is (c.within_limit.ensures (Ok (trimmed (arg c.args.words.now 1))) text)
