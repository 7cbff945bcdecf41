-- `moq_report` meets its contract. Assumes nothing.
use native.Mathlib.Omega.{arith}
use Rattle.exports.proofs.TraceCalls.{no-info, text-short, text-done}
use Rattle.exports.proofs.traces.moq_report.Goals as goal

pub returns-then-info-lt1 : goal.returns-then-info-lt1
returns-then-info-lt1 c = no-info _ _ _ (omega (arith, c.if-info-lt1.true))

pub returns-in_default : goal.returns-in_default
returns-in_default c =
    text-short _ _ _ (omega (arith, c.if-info-lt1.false)) c.of_trace.result c.of_trace.ensures c.in_default.is

pub returns : goal.returns
returns c =
    text-done _ _ _ (omega (arith, c.if-info-lt1.false)) c.of_trace.result c.of_trace.ensures c.in-Some.is
