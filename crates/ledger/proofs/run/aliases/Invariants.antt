use Rattle.ledger.proofs.AliasesFound.{Named}
use Rattle.ledger.proofs.run.aliases.Given as goal

abbrev pub invariant-loop-i : goal.invariant-loop-i
invariant-loop-i l = Named l.fn.l.rows l.names l.i
