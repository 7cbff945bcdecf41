-- `measure_by` meets its contract at a number. Assumes nothing.
use Rattle.measure.proofs.Numbers.{measured}
use Rattle.measure.proofs.several.U64AsPiece.measure_by.Goals as goal

pub returns : goal.returns
returns c = measured _ _ _ c.number.ensures
