-- `is_short` meets its contract. Assumes nothing.
use mathlib.Core.Path.{refl, ◌∙◌}
use borrow.Author.Tests.{lt-ltb}
use Rattle.measure.proofs.AllSmall.{short-backward}
use Rattle.measure.proofs.small.is_short.Goals as goal

pub returns-then-p : goal.returns-then-p
returns-then-p c = lt-ltb _ _ c.if-p.true ∙ short-backward _ c.if-p.true

pub returns-else-p : goal.returns-else-p
returns-else-p c = refl
