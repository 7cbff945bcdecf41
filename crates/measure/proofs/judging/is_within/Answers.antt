-- `is_within` meets its contract: what is left of 4,096 is tested, so nothing wraps. Assumes nothing.
use mathlib.Core.Path.{◌∙◌}
use borrow.Author.Tests.{lt-leb}
use Rattle.measure.proofs.Sizes.{namespace-over, namespace-left}
use Rattle.measure.proofs.judging.is_within.Goals as goal

pub returns-then-held-le-LONGEST_TRACK : goal.returns-then-held-le-LONGEST_TRACK
returns-then-held-le-LONGEST_TRACK c = namespace-left _ _ c.in-Namespace.is c.if-held-le-LONGEST_TRACK.true

pub returns-else-held-le-LONGEST_TRACK : goal.returns-else-held-le-LONGEST_TRACK
returns-else-held-le-LONGEST_TRACK c =
    lt-leb _ _ c.if-held-le-LONGEST_TRACK.false ∙ namespace-over _ _ c.in-Namespace.is c.if-held-le-LONGEST_TRACK.false
