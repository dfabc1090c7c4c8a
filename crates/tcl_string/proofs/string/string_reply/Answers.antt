use Rattle.std.proofs.Common.{◌≡◌, ◌∙◌, ap, sym, subst, List, ℕ, Option, Some, None, Err}
use Rattle.std.specs.Prelude.{codes}
use Rattle.natives.specs.Answers.{Reply, Says}
use Rattle.txt_core.specs.ErrorTexts.{unknown_subcommand}
use Rattle.natives.specs.Words.{arg}
use Rattle.natives.specs.Subcommands.{string_reply}
use Rattle.tcl_string.specs.Early.{Comes}
use Rattle.natives.specs.Subcommands.{subcommand_named, reply_named}
use Rattle.natives.specs.declared.subcommand.Subcommand.{Subcommand}
use Rattle.tcl_string.proofs.Naming.{reply_of_name}
use Rattle.tcl_string.proofs.Saying.{comes, answers_said}
use Rattle.tcl_string.proofs.string.string_reply.Goals as goal

pub returns-in-Some : goal.returns-in-Some
returns-in-Some c =
    let words = c.args.words.now in
    let name : c.bytes-name.result.now ≡ arg c.args.words.now 1 = c.bytes-name.ensures ∙ c.word_at.ensures in
    let named : subcommand_named (arg c.args.words.now 1) ≡ Some c.in-Some.subcommand = ap subcommand_named (sym name) ∙ sym c.in-Some.ensures in
    let is : reply_named (Some c.in-Some.subcommand) (arg c.args.words.now 1) c.args.words.now ≡ string_reply c.args.words.now =
    ap (λ (o : Option Subcommand). reply_named o (arg c.args.words.now 1) c.args.words.now) (sym named) ∙ reply_of_name (arg c.args.words.now 1) c.args.words.now in
    subst (λ (r : Reply). Comes r c.run_counted.result) is c.run_counted.ensures

pub returns-in-None : goal.returns-in-None
returns-in-None c =
    let name : c.bytes-name.result.now ≡ arg c.args.words.now 1 = c.bytes-name.ensures ∙ c.word_at.ensures in
    let named : subcommand_named (arg c.args.words.now 1) ≡ None = ap subcommand_named (sym name) ∙ sym c.in-None.ensures in
    let is : reply_named None (arg c.args.words.now 1) c.args.words.now ≡ string_reply c.args.words.now =
    ap (λ (o : Option Subcommand). reply_named o (arg c.args.words.now 1) c.args.words.now) (sym named) ∙ reply_of_name (arg c.args.words.now 1) c.args.words.now in
    let said : Says (unknown_subcommand (arg c.args.words.now 1) (codes "string")) c.unknown_subcommand.result =
    subst (λ (t : List ℕ). Says (unknown_subcommand t (codes "string")) c.unknown_subcommand.result) name c.unknown_subcommand.ensures in
    subst (λ (r : Reply). Comes r (Err c.unknown_subcommand.result)) is (comes (Err (unknown_subcommand (arg c.args.words.now 1) (codes "string"))) (Err c.unknown_subcommand.result) (answers_said (unknown_subcommand (arg c.args.words.now 1) (codes "string")) c.unknown_subcommand.result said))
