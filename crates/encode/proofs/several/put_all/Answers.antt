-- `put_all` meets its contract. What was put, and the parts from the index on, are all of them. Assumes nothing.
use native.Mathlib.Omega.{arith}
use lib.ListN.{drop_of_length-le}
use Rattle.common.proofs.PutLoop.{going-length, going-within}
use Rattle.encode.proofs.Counts.{is-counted}
use Rattle.encode.proofs.FieldsPut.{left-more, filling-start, filling-end, field-asks, field-sum, field_next}
use Rattle.encode.proofs.several.put_all.Goals as goal

pub loop-part-init : goal.loop-part-init
loop-part-init g c = filling-start _ c.requires.value

pub slice_bounds-put_in-count : goal.slice_bounds-put_in-count
slice_bounds-put_in-count g c = going-within c.loop-part.invariant.going c.requires.in_bounds

pub put_in-at-requires : goal.put_in-at-requires
put_in-at-requires g c =
    let h = field-asks c.loop-part.invariant c.requires.in_bounds (left-more g.P.AsPiece.piece _ _ c.loop-part-test.true c.part-item.is) in
    record { value = h.0; in_bounds = h.1 }

pub overflow_add-at : goal.overflow_add-at
overflow_add-at g c =
    is-counted (field-sum c.loop-part.invariant c.requires.in_bounds (left-more g.P.AsPiece.piece _ _ c.loop-part-test.true c.part-item.is) c.put_in-at.ensures) (omega arith)

pub loop-part-preserved : goal.loop-part-preserved
loop-part-preserved g c =
    field_next c.loop-part.invariant c.requires.in_bounds (left-more g.P.AsPiece.piece _ _ c.loop-part-test.true c.part-item.is) c.put_in-at.ensures

pub shape_of-out : goal.shape_of-out
shape_of-out g c = going-length c.loop-part.invariant.going c.requires.in_bounds

pub returns : goal.returns
returns g c =
    filling-end c.loop-part.invariant c.requires.in_bounds (rw (drop_of_length-le c.args.parts.now c.loop-part-test.false))
