use Rattle.http_resp.proofs.LineLemmas.{in_lines}
use Rattle.http_resp.proofs.lines.head_is_in_lines.Goals as goal

pub returns : goal.returns
returns c = in_lines c.args._response.now c.args._moment c.args._close c.requires
