-- `is_givable` meets its contract. Assumes nothing.
use borrow.Author.Tests.{le-leb, lt-leb}
use Rattle.field.specs.Rules.{givable}
use Rattle.field.proofs.rules.is_givable.Goals as goal

pub returns-then-order-lt1 : goal.returns-then-order-lt1
unfolding givable
returns-then-order-lt1 c = rw (lt-leb _ _ c.if-order-lt1.true)

pub returns : goal.returns
unfolding givable
returns c = rw (le-leb _ _ c.if-order-lt1.false)
