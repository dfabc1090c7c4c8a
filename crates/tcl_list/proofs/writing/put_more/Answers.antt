use Rattle.std.proofs.Common.{◌≡◌, ◌<◌, ◌++◌, ◌∷◌, [], sym, rules, arith}
use Rattle.txt_core.specs.Quoting.{written}
use Rattle.tcl_list.proofs.Slashes.{next_word}
use Rattle.tcl_list.proofs.writing.put_more.Goals as goal

pub words-preserved : goal.words-preserved
words-preserved c = λ start.
    let pos : 0 < c.words.i = omega arith in
    let put : c.put_element.new.out.items ≡ (c.words.out.items ++ (32 ∷ [])) ++ written c.in-Some.word.now = search rules in
    next_word c.args.words.now c.words.i c.in-Some.word.now c.words.out.items c.put_element.new.out.items pos (sym c.in-Some.ensures) (c.words.invariant start) put
