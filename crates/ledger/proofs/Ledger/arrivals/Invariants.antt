use Prim.Native.Nat.{◌≤◌}
use lib.ListN.{length}
use Rattle.ledger.proofs.RunTurns.{Along}
use Rattle.ledger.proofs.Ledger.arrivals.Given as goal

abbrev pub invariant-loop-k : goal.invariant-loop-k
invariant-loop-k l =
    (length l.came ≤ length l.fn.answers) × Along l.fn.self l.run l.fn.answers l.names l.opened l.fn.self.used l.answers l.l l.k
