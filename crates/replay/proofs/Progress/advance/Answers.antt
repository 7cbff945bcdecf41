-- `Progress::advance` meets its contract. Assumes nothing.
use Rattle.replay.proofs.WhatIsLeft.{used-fits, advanced}
use Rattle.replay.proofs.Progress.advance.Goals as goal

pub copy_within-requires-clause-start_le_end : goal.copy_within-requires-clause-start_le_end
copy_within-requires-clause-start_le_end c = used-fits _ _ _ c.min-end.ensures c.feed-fed.ensures

pub overflow_sub-result : goal.overflow_sub-result
overflow_sub-result c = used-fits _ _ _ c.min-end.ensures c.feed-fed.ensures

pub returns : goal.returns
returns c = advanced _ _ _ c.min-end.ensures c.feed-fed.ensures c.copy_within.ensures.after
