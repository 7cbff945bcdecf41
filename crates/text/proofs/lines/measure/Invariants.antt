use lib.ListN.{drop}
use Rattle.text.specs.Lines.{line_of}
use Rattle.text.proofs.Counted.{Counted}
use Rattle.text.proofs.lines.measure.Given as goal

abbrev pub invariant-loop-item : goal.invariant-loop-item
invariant-loop-item l = Counted (line_of l.item-items) l.sum (line_of (drop l.item-index l.item-items))
