-- `other` meets its contract. Assumes nothing.
use Rattle.ledger.proofs.CodePaths.{stays}
use Rattle.ledger.proofs.messages.other.Goals as goal

pub returns : goal.returns
returns c = rw c.answers.ensures (stays _ c.requires 9)
