-- `pass` meets its contract. What was put or counted, and the text that is left at the offset, are all of it. Assumes nothing.
use native.Mathlib.Omega.{arith}
use Rattle.answers.proofs.TextLeft.{told-goes}
use Rattle.answers.proofs.WholeText.{along-start, along-next, along-short, along-end}
use Rattle.answers.proofs.writing.pass.Goals as goal

pub loop-told-init : goal.loop-told-init
loop-told-init c = along-start _ _ _ c.begin-progress.ensures

pub add-requires : goal.add-requires
add-requires c = c.loop-told.invariant.text.within

pub returns-in_err-at : goal.returns-in_err-at
returns-in_err-at c =
    rw c.from_residual.ensures (along-short c.loop-told.invariant c.tell.ensures c.in-Some.is c.add.ensures c.in_err-at.was)

pub loop-told-smaller : goal.loop-told-smaller
loop-told-smaller c =
    let goes = told-goes _ _ _ c.tell.ensures c.in-Some.is in
    omega (arith, goes.after, goes.within)

pub loop-told-preserved : goal.loop-told-preserved
loop-told-preserved c =
    along-next c.loop-told.invariant c.tell.ensures c.in-Some.is c.add.ensures c.in_ok-at.was

pub returns : goal.returns
returns c = along-end c.loop-told.invariant c.tell.ensures c.in_default.is c.tell_end.ensures c.add-2.ensures
