-- `between` meets its contract. Assumes nothing.
use Rattle.explanation_lines.proofs.ClampedEnds.{clamped}
use Rattle.explanation_lines.proofs.clamping.between.Goals as goal

pub returns : goal.returns
returns c = clamped _ _ _ c.min-last.ensures c.min.ensures
