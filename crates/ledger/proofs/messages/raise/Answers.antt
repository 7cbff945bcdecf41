-- `raise` meets its contract. Assumes nothing.
use Rattle.ledger.proofs.CodePaths.{not-larger, raised}
use Rattle.ledger.proofs.messages.raise.Goals as goal

pub returns-then-id-l : goal.returns-then-id-l
returns-then-id-l c = not-larger _ c.requires _ c.if-id-l.true c.breaks.ensures

pub returns : goal.returns
returns c = rw c.answers.ensures (raised _ c.requires _ c.if-id-l.false)
