-- `read_byte` meets its contract: the byte at an offset within the bytes. Assumes nothing.
use borrow.Author.Tests.{lt-ltb, le-ltb}
use Rattle.field.specs.Fields.{field_at}
use Rattle.field.proofs.reader.read_byte.Goals as goal

pub returns-then-at-s : goal.returns-then-at-s
unfolding field_at
returns-then-at-s c = rw (lt-ltb _ _ c.if-at-s.true)

pub returns : goal.returns
unfolding field_at
returns c = rw (le-ltb _ _ c.if-at-s.false)
