-- `Progress::step` meets its contract. Assumes nothing.
use Rattle.std.proofs.Common.{refl}
use Rattle.replay.proofs.FieldSteps.{stepped}
use Rattle.replay.proofs.Progress.step.Goals as goal

pub returns : goal.returns
returns c = stepped _ _ _ _ c.due-event.ensures c.hear-heard.ensures refl
