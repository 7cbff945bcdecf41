-- `no_row` meets its contract. Assumes nothing.
use mathlib.Core.Path.{◌∙◌}
use borrow.Author.Tests.{le-leb, lt-leb}
use Rattle.ledger.specs.Steps.{no_row}
use Rattle.ledger.proofs.CodePaths.{stays}
use Rattle.ledger.proofs.subscribing.no_row.Goals as goal

pub returns-then-id-l : goal.returns-then-id-l
unfolding no_row
returns-then-id-l c = rw c.answers.ensures (stays _ c.requires _ ∙ rw (lt-leb _ _ c.if-id-l.true))

pub returns : goal.returns
unfolding no_row
returns c = c.breaks.ensures ∙ rw (le-leb _ _ c.if-id-l.false)
