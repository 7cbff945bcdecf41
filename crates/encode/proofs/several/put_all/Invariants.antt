use mathlib.Core.List.{map}
use lib.ListN.{drop}
use Rattle.measure.specs.Measuring.{encode_all}
use Rattle.encode.proofs.FieldsPut.{Filling}
use Rattle.encode.proofs.several.put_all.Given as goal

abbrev pub invariant-loop-part : goal.invariant-loop-part
invariant-loop-part g l =
    let piece = g.P.AsPiece.piece in
    Filling l.bytes (encode_all l.bytes (map piece l.parts)) l.initial.out l.out l.at (map piece (drop l.part-index l.parts))
