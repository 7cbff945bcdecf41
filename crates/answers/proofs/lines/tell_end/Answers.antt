-- `tell_end` meets its contract. Assumes nothing.
use Rattle.answers.specs.Answers.{end_items}
use Rattle.answers.proofs.lines.tell_end.Goals as goal

pub returns : goal.returns
unfolding end_items
returns c = rw (← c.finish.ensures) c.fault_line.ensures
