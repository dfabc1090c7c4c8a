use Rattle.natives.specs.Words.{arg}
use Rattle.tcl_string.specs.Filling.{part_error, part_text}
use Rattle.tcl_string.specs.Patterns.{part_of}
use Rattle.tcl_string.proofs.Filled.{puts_whole, puts_long}
use Rattle.tcl_string.proofs.filling.put_next.Goals as goal

pub returns-in-Whole : goal.returns-in-Whole
returns-in-Whole c = λ text keeps.
    puts_whole (part_error (part_of c.args.part) (arg c.args.words.now 0)) c.in-Whole.kept text (part_text (part_of c.args.part) (arg c.args.words.now 0)) c.args.out c.put_behind.result c.in-Whole.is keeps c.put_behind.ensures

pub returns-in-TooLong : goal.returns-in-TooLong
returns-in-TooLong c = λ text keeps.
    puts_long (part_error (part_of c.args.part) (arg c.args.words.now 0)) text (part_text (part_of c.args.part) (arg c.args.words.now 0)) c.args.out c.pass_over.result c.in-TooLong.is keeps c.pass_over.ensures
