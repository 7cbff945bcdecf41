use Rattle.ledger.proofs.Checking.{Apart}
use Rattle.ledger.proofs.checks.are_distinct.Given as goal

abbrev pub invariant-loop-i : goal.invariant-loop-i
invariant-loop-i l = Apart l.rows l.i
