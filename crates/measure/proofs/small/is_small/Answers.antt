-- `is_small` meets its contract. Assumes nothing.
use borrow.Author.Tests.{le-leb, lt-leb}
use Rattle.measure.specs.Small.{small_piece}
use Rattle.measure.proofs.small.is_small.Goals as goal

pub returns-then-t-le-GREATEST : goal.returns-then-t-le-GREATEST
unfolding small_piece
returns-then-t-le-GREATEST c = rw (c.in-Track.is, le-leb _ _ c.if-t-le-GREATEST.true) c.is_short-then-t-le-GREATEST.ensures

pub returns-else-t-le-GREATEST : goal.returns-else-t-le-GREATEST
unfolding small_piece
returns-else-t-le-GREATEST c = rw (c.in-Track.is, lt-leb _ _ c.if-t-le-GREATEST.false)
