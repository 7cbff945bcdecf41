use mathlib.Core.Path.{◌≡◌}
use mathlib.Core.List.{map}
use lib.ListN.{take}
use Rattle.measure.specs.Measuring.{measure_all}
use Rattle.measure.proofs.judging.Judge.measure_all.Given as goal

abbrev pub invariant-loop-part : goal.invariant-loop-part
invariant-loop-part g l = l.found ≡ measure_all l.self.bytes.now (map g.P.AsPiece.piece (take l.part-index l.parts)) l.self.room
