-- `control` meets its contract. Assumes nothing.
use mathlib.Core.Path.{sym}
use native.Mathlib.Omega.{arith}
use Rattle.rewrite.proofs.Again as again
use Rattle.rewrite.proofs.messages.control.Goals as goal

pub returns-then-info-lt3 : goal.returns-then-info-lt3
returns-then-info-lt3 c = again.short again.control _ _ _ (sym c.in-Ok.ensures) (omega (arith, c.if-info-lt3.true))

pub returns-in-Err : goal.returns-in-Err
returns-in-Err c = rw c.number-in-Err.ensures (again.refusing again.control _ _ _ (sym c.in-Err.ensures))

pub returns-else-info-lt3 : goal.returns-else-info-lt3
returns-else-info-lt3 c =
    again.writing again.control _ _ _ _ (sym c.in-Ok.ensures) (omega (arith, c.if-info-lt3.false))
    (record { said = _; leaves = c.write-writing.ensures; ends = c.tell.ensures.says; tells = rw c.number.ensures at c.tell.ensures.tells })
