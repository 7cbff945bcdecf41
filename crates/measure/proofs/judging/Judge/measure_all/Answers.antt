-- `measure_all` meets its contract. What was found judges those before the part. Assumes nothing.
use Rattle.std.proofs.lemmas.List.{take_all}
use Rattle.measure.proofs.Numbers.{measured-all, judgement, judgement-joined}
use Rattle.measure.proofs.Joins.{front-more, none-judged, one-more}
use Rattle.measure.proofs.judging.Judge.measure_all.Goals as goal

pub loop-part-init : goal.loop-part-init
loop-part-init g c = none-judged _ _

pub loop-part-preserved : goal.loop-part-preserved
loop-part-preserved g c =
    let one = judgement _ _ _ {r = c.measure_by.result} c.measure_by.ensures in
    let next = judgement-joined _ _ _ {r = c.join-found.result} c.join-found.ensures in
    rw (front-more g.P.AsPiece.piece _ _ c.loop-part-test.true c.part-item.is) (one-more _ _ _ _ c.loop-part.invariant one next)

pub returns : goal.returns
returns g c = measured-all _ _ _ (rw (take_all _ _ c.loop-part-test.false) at c.loop-part.invariant)
