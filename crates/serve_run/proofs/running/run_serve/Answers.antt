use Rattle.serve_run.proofs.Begins.{ends_told}
use Rattle.serve_run.proofs.running.run_serve.Goals as goal

pub returns : goal.returns
returns g c =
    let told = c.report.ensures in
    record {
      ended = told.0;
      answer_is = told.2;
      ends = ends_told _ _ _ _ c.serve-ended.result told.0 told.1 c.serve-ended.ensures;
      tells = (told.3, told.4);
    }
