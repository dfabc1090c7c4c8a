use Rattle.tcl_string.proofs.Saying.{comes}
use Rattle.natives.specs.Subcommands.{reply_by}
use Rattle.natives.specs.declared.subcommand.Subcommand.TheVariants.{Length, Index, Range, Compare, Equal, First, Last, Match, Tolower, Toupper, Trim, Trimleft, Trimright}
use Rattle.tcl_string.proofs.string.run.Goals as goal

pub returns-in-Length : goal.returns-in-Length
returns-in-Length c = rw c.in-Length.is (comes (reply_by Length c.args.words.now) c.length.result c.length.ensures)

pub returns-in-Index : goal.returns-in-Index
returns-in-Index c = rw c.in-Index.is (comes (reply_by Index c.args.words.now) c.index.result c.index.ensures)

pub returns-in-Range : goal.returns-in-Range
returns-in-Range c = rw c.in-Range.is (comes (reply_by Range c.args.words.now) c.range.result c.range.ensures)

pub returns-in-Compare : goal.returns-in-Compare
returns-in-Compare c = rw c.in-Compare.is (comes (reply_by Compare c.args.words.now) c.compare.result c.compare.ensures)

pub returns-in-Equal : goal.returns-in-Equal
returns-in-Equal c = rw c.in-Equal.is (comes (reply_by Equal c.args.words.now) c.equal.result c.equal.ensures)

pub returns-in-First : goal.returns-in-First
returns-in-First c = rw c.in-First.is (comes (reply_by First c.args.words.now) c.first.result c.first.ensures)

pub returns-in-Last : goal.returns-in-Last
returns-in-Last c = rw c.in-Last.is (comes (reply_by Last c.args.words.now) c.last.result c.last.ensures)

pub returns-in-Match : goal.returns-in-Match
returns-in-Match c = rw c.in-Match.is (comes (reply_by Match c.args.words.now) c.matches.result c.matches.ensures)

pub returns-in-Tolower : goal.returns-in-Tolower
returns-in-Tolower c = rw c.in-Tolower.is (comes (reply_by Tolower c.args.words.now) c.tolower.result c.tolower.ensures)

pub returns-in-Toupper : goal.returns-in-Toupper
returns-in-Toupper c = rw c.in-Toupper.is (comes (reply_by Toupper c.args.words.now) c.toupper.result c.toupper.ensures)

pub returns-in-Trim : goal.returns-in-Trim
returns-in-Trim c = rw c.in-Trim.is (comes (reply_by Trim c.args.words.now) c.trim.result c.trim.ensures)

pub returns-in-Trimleft : goal.returns-in-Trimleft
returns-in-Trimleft c = rw c.in-Trimleft.is (comes (reply_by Trimleft c.args.words.now) c.trimleft.result c.trimleft.ensures)

pub returns-in-Trimright : goal.returns-in-Trimright
returns-in-Trimright c = rw c.in-Trimright.is (comes (reply_by Trimright c.args.words.now) c.trimright.result c.trimright.ensures)
