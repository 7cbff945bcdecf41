-- `of_trace` meets its contract. Assumes nothing.
use Rattle.report.proofs.ReplayShown.{used-fits, shows-report}
use Rattle.report.proofs.writing.of_trace.Goals as goal

pub overflow_sub-s : goal.overflow_sub-s
overflow_sub-s c = used-fits _ _ _ c.begin.ensures c.feed-fed.ensures

pub returns : goal.returns
returns c = rw (← shows-report _ _ _ c.begin.ensures c.feed-fed.ensures) c.of_progress.ensures
