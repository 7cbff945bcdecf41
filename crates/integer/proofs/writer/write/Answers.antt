-- `write` meets its contract: each arm has the other columns of the row whose bytes it has. Assumes nothing.
use native.Mathlib.Omega.{arith}
use Rattle.integer.proofs.Tables.{here, there, and, no_more}
use Rattle.integer.proofs.Writes.{no-row, row_fits, row_put}
use Rattle.integer.proofs.writer.write.Goals as goal

pub overflow_add-n : goal.overflow_add-n
overflow_add-n c = omega (arith, row_fits here _ c.size.ensures c.in-1.is)

pub overflow_add-n-in-2 : goal.overflow_add-n-in-2
overflow_add-n-in-2 c = omega (arith, row_fits (there here) _ c.size.ensures c.in-2.is)

pub overflow_add-n-in-4 : goal.overflow_add-n-in-4
overflow_add-n-in-4 c = omega (arith, row_fits (there (there here)) _ c.size.ensures c.in-4.is)

pub overflow_add-n-in-8 : goal.overflow_add-n-in-8
overflow_add-n-in-8 c = omega (arith, row_fits (there (there (there here))) _ c.size.ensures c.in-8.is)

pub returns-in-1 : goal.returns-in-1
returns-in-1 c =
    rw (row_put here _ c.size.ensures c.in-1.is _)
    c.put.ensures

pub returns-in-2 : goal.returns-in-2
returns-in-2 c =
    rw (row_put (there here) _ c.size.ensures c.in-2.is _)
    c.put-in-2.ensures

pub returns-in-4 : goal.returns-in-4
returns-in-4 c =
    rw (row_put (there (there here)) _ c.size.ensures c.in-4.is _)
    c.put-in-4.ensures

pub returns-in-8 : goal.returns-in-8
returns-in-8 c =
    rw (row_put (there (there (there here))) _ c.size.ensures c.in-8.is _)
    c.put-in-8.ensures

pub returns-in_default : goal.returns-in_default
returns-in_default c =
    no-row _ _ c.size.ensures (and (omega arith) (and (omega arith) (and (omega arith) (and (omega arith) no_more))))
