-- `read_at` meets its contract: a part that goes to the end is what is left of the bytes. Assumes nothing.
use mathlib.Core.Path.{sym}
use native.Mathlib.Nat.{le_of_lt}
use Rattle.common.proofs.Parts.{to_end}
use Rattle.integer.proofs.Offsets.{past}
use Rattle.integer.proofs.reader.read_at.Goals as goal

pub returns-then-s-at : goal.returns-then-s-at
returns-then-s-at c = sym (past _ _ (le_of_lt c.if-s-at.true))

pub returns : goal.returns
returns c = rw to_end at c.read.ensures
