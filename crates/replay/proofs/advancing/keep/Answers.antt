-- `keep` meets its contract. Assumes nothing.
use Rattle.replay.proofs.WhatIsLeft.{kept-none, kept}
use Rattle.replay.proofs.advancing.keep.Goals as goal

pub returns-then-from-last : goal.returns-then-from-last
returns-then-from-last c = kept _ _ _ c.min-last.ensures c.if-from-last.true c.copy_within.ensures.after

pub returns-else-from-last : goal.returns-else-from-last
returns-else-from-last c = kept-none _ _ _ c.min-last.ensures c.if-from-last.false
