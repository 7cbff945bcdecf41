-- `write_ledger` meets its contract: the report is measured first, and only then put. Assumes nothing.
use native.Mathlib.Omega.{arith}
use Rattle.text.proofs.Outcomes.{line-short, line-done}
use Rattle.report.proofs.writing.write_ledger.Goals as goal

pub returns-then-out-measure_ledger : goal.returns-then-out-measure_ledger
returns-then-out-measure_ledger c = line-short _ _ (omega (arith, c.measure_ledger.ensures))

pub returns : goal.returns
returns c = line-done _ _ (omega (arith, c.measure_ledger.ensures)) c.put_ledger.ensures
