use Rattle.natives.specs.Names.{names_of}
use Rattle.serve_run.proofs.Starts.{ends_run}
use Rattle.serve_run.proofs.start.define_first.Goals as goal

pub returns-clause-ran : goal.returns-clause-ran
returns-clause-ran g c =
    ends_run (names_of c.args.natives.now) (g.P.Pages.held c.args.pages.now) c.args.script.now c.args.moment _ _ c.do_eval-evaled.result
    c.do_eval-evaled.ensures.evaluates c.requires.opening
