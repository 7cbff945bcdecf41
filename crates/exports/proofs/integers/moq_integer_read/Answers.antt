-- `moq_integer_read` meets its contract. Assumes nothing.
use mathlib.Core.Path.{sym}
use native.Mathlib.Omega.{arith}
use Rattle.exports.proofs.IntegerCalls.{read-cut, read_short, read_whole}
use Rattle.exports.proofs.integers.moq_integer_read.Goals as goal

pub returns-in_default : goal.returns-in_default
returns-in_default c = read-cut _ _ (sym c.in_default.ensures)

pub returns-then-info-lt2 : goal.returns-then-info-lt2
returns-then-info-lt2 c = read_short _ _ (sym c.in-Ok.ensures) (omega (arith, c.if-info-lt2.true))

pub returns : goal.returns
returns c = read_whole _ _ (sym c.in-Ok.ensures) (omega (arith, c.if-info-lt2.false))
