-- `Progress::finish` meets its contract. Assumes nothing.
use Rattle.replay.specs.Progressing.{finish_of}
use Rattle.replay.proofs.Progress.finish.Goals as goal

pub returns : goal.returns
unfolding finish_of
returns c = rw c.last_stage.ensures
