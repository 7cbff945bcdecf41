-- `print_fields` meets its contract. Assumes nothing.
use Rattle.std.proofs.Common.{arith}
use Rattle.answers.proofs.TextLeft.{told-goes}
use Rattle.moqanswers.proofs.print_fields.Goals as goal

pub loop-told-smaller : goal.loop-told-smaller
loop-told-smaller g c =
    let goes = told-goes _ _ _ c.tell.ensures c.in-Some.is in
    omega (arith, goes.after, goes.within)

pub loop-told-preserved : goal.loop-told-preserved
loop-told-preserved g c = (told-goes _ _ _ c.tell.ensures c.in-Some.is).within
