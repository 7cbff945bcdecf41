-- `moq_integer_write` meets its contract. Assumes nothing.
use native.Mathlib.Omega.{arith}
use Rattle.common.specs.Answer.{number}
use Rattle.rewrite.proofs.InfoTold.{one}
use Rattle.exports.proofs.IntegerCalls.{write-great, write-short, write-said}
use Rattle.exports.proofs.integers.moq_integer_write.Goals as goal

pub returns-in-Err-TooGreat : goal.returns-in-Err-TooGreat
unfolding number
returns-in-Err-TooGreat c = write-said _ _ _ (omega (arith, c.if-info-lt1.false)) (rw c.in-Err-TooGreat.field-0-is at c.in-Err-TooGreat.ensures)

pub returns-in-Err-TooShort : goal.returns-in-Err-TooShort
unfolding number
returns-in-Err-TooShort c = write-said _ _ _ (omega (arith, c.if-info-lt1.false)) (rw c.in-Err-TooShort.field-0-is at c.in-Err-TooShort.ensures)

pub returns-in-Ok : goal.returns-in-Ok
unfolding number
returns-in-Ok c =
    rw (one c.args.info.now _ (omega (arith, c.if-info-lt1.false)))
    (write-said _ _ _ (omega (arith, c.if-info-lt1.false)) c.in-Ok.ensures)

pub returns-then-n-gt-GREATEST : goal.returns-then-n-gt-GREATEST
returns-then-n-gt-GREATEST c = write-great _ _ _ (omega (arith, c.if-n-gt-GREATEST.true))

pub returns-then-info-lt1 : goal.returns-then-info-lt1
returns-then-info-lt1 c = write-short _ _ _ (omega (arith, c.if-n-gt-GREATEST.false)) (omega (arith, c.if-info-lt1.true))
