use Rattle.std.proofs.Common.{◌≡◌, ◌∙◌, ap, sym, refl, rules, ℕ, List, length, Err, Bool, true, false}
use Rattle.std.specs.Prelude.{codes, bytes_eq, not}
use Rattle.std.proofs.lemmas.Slice.Eq.{bytes_eq-Decides}
use Rattle.natives.specs.Answers.{Answers, Says, limited}
use Rattle.txt_core.specs.ErrorTexts.{wrong_words}
use Rattle.natives.specs.Words.{arg}
use Rattle.natives.specs.Subcommands.{subcommand_reply}
use Rattle.natives.specs.Pure.{pure_of, pure_string}
use Rattle.natives.specs.declared.fault.Fault.{Fault}
use Rattle.natives.specs.declared.fault.Fault.TheVariants.{Error, NoMemory}
use Rattle.tests_commands.proofs.stored.string_repeat.Goals as goal

-- a text is left out
two_words : (words : List (List ℕ)) → length words ≡ 3 → subcommand_reply (codes "repeat") words ≡ Err (wrong_words (codes "string"))
unfolding subcommand_reply
two_words words e = rw e refl

said : (fault : Fault) → Says (wrong_words (codes "string")) fault → Answers (Err (wrong_words (codes "string"))) (Err fault)
said (Error text) h = h
said NoMemory h = tt

not_false : (b : Bool) → not b ≡ false → b ≡ true
not_false true e = refl
not_false false e = absurd (cc)

pub returns : goal.returns
returns c =
    let three : length c.args.words.now ≡ 3 = search rules in
    let name : arg c.args.words.now 1 ≡ codes "repeat" =
    sym (c.bytes.ensures ∙ c.word_at.ensures) ∙ (bytes_eq-Decides c.bytes.result.now c.as_slice.result.now).0 (not_false (bytes_eq c.bytes.result.now c.as_slice.result.now) (sym c.ne.ensures ∙ c.if-ne.false)) ∙ c.as_slice.ensures in
    let is : pure_of (codes "string") c.args.words.now ≡ Err (wrong_words (codes "string")) =
    pure_string c.args.words.now ∙ ap limited (ap (λ (n : List ℕ). subcommand_reply n c.args.words.now) name ∙ two_words c.args.words.now three) in
    rw is (said c.wrong_words.result c.wrong_words.ensures)
