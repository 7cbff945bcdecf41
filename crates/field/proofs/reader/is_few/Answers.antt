-- `is_few` meets its contract: the count is judged by its kind. Assumes nothing.
use borrow.Author.Tests.{le-leb, lt-leb}
use Rattle.field.specs.Entries.{few}
use Rattle.field.proofs.reader.is_few.Goals as goal

pub returns-then-count-lt1 : goal.returns-then-count-lt1
unfolding few
returns-then-count-lt1 c = rw (c.in-Namespace.is, lt-leb _ _ c.if-count-lt1.true)

pub returns-else-count-lt1 : goal.returns-else-count-lt1
unfolding few
returns-else-count-lt1 c = rw (c.in-Namespace.is, le-leb _ _ c.if-count-lt1.false)

pub returns-in-Parameters : goal.returns-in-Parameters
unfolding few
returns-in-Parameters c = rw c.in-Parameters.is

pub returns-in-Versions : goal.returns-in-Versions
unfolding few
returns-in-Versions c = rw c.in-Versions.is
