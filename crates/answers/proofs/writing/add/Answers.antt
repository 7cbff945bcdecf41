-- `add` meets its contract. Assumes nothing.
use Rattle.answers.proofs.TextAdded.{not-added, added, counted}
use Rattle.answers.proofs.writing.add.Goals as goal

pub returns-then-room-at : goal.returns-then-room-at
returns-then-room-at c = not-added _ _ _ _ c.measure-n.ensures c.requires c.if-room-at.true

pub returns-then-out-at : goal.returns-then-out-at
returns-then-out-at c = counted _ _ _ _ c.measure-n.ensures c.requires c.if-room-at.false c.if-out-at.true

pub returns : goal.returns
returns c = added _ _ _ _ c.measure-n.ensures c.requires c.if-room-at.false c.if-out-at.false c.put.ensures
