-- `report` meets its contract: what is left always lies within the buffer. Assumes nothing.
use Rattle.std.proofs.Common.{arith}
use Rattle.moqreport.proofs.LeftInBuffer.{left-within}
use Rattle.moqreport.proofs.report.Goals as goal

pub loop-preserved : goal.loop-preserved
loop-preserved g c = omega (arith, left-within _ _ _ c.advance-advanced.ensures)
