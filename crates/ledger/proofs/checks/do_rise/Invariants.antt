use Rattle.ledger.proofs.Checking.{Rising}
use Rattle.ledger.proofs.checks.do_rise.Given as goal

abbrev pub invariant-loop-row : goal.invariant-loop-row
invariant-loop-row l = Rising l.fn.l.next l.row-items l.low l.row-index
