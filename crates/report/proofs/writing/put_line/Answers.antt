-- `put_line` meets its contract. Assumes nothing.
use Rattle.report.proofs.LinePut.{line-put}
use Rattle.report.proofs.writing.put_line.Goals as goal

pub returns : goal.returns
returns c = rw c.unwrap_or.ensures (line-put _ _ _ c.requires c.put.ensures)
