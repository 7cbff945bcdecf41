-- `begin` meets its contract. Assumes nothing.
use Rattle.std.proofs.Common.{ap}
use Rattle.ledger.specs.Answers.{Came}
use Rattle.row.specs.Places.{small}
use Rattle.ledger.specs.Steps.{start_of}
use Rattle.replay.specs.declared.Stage.TheVariants.{Empty}
use Rattle.replay.proofs.steps.begin.Goals as goal

pub returns : goal.returns
unfolding start_of small
returns c =
    ap (λ (came : Came). record { ledger = came.next; stage = Empty; offset = 0 }) c.start.ensures
