-- `most` meets its contract: what is left of 4,096, or anything. Assumes nothing.
use native.Mathlib.Omega.{arith}
use Rattle.field.specs.Entries.{most_of}
use Rattle.field.proofs.walking.most.Goals as goal

pub returns-then-not-sized : goal.returns-then-not-sized
unfolding most_of
returns-then-not-sized c = rw (c.if-not-sized.true)

pub returns-then-held-gt-LONGEST_TRACK : goal.returns-then-held-gt-LONGEST_TRACK
unfolding most_of
returns-then-held-gt-LONGEST_TRACK c = rw (c.if-not-sized.false, c.in-Namespace.is) (omega arith)

pub returns-else-held-gt-LONGEST_TRACK : goal.returns-else-held-gt-LONGEST_TRACK
unfolding most_of
returns-else-held-gt-LONGEST_TRACK c = rw (c.if-not-sized.false, c.in-Namespace.is)

pub returns-in-Parameters : goal.returns-in-Parameters
unfolding most_of
returns-in-Parameters c = rw (c.if-not-sized.false, c.in-Parameters.is)

pub returns-in-Versions : goal.returns-in-Versions
unfolding most_of
returns-in-Versions c = rw (c.if-not-sized.false, c.in-Versions.is)
