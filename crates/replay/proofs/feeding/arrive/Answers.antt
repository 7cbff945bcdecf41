-- `arrive` meets its contract. Assumes nothing.
use Rattle.std.proofs.Common.{refl, rules}
use Rattle.replay.proofs.FieldSteps.{taken-all}
use Rattle.replay.proofs.feeding.arrive.Goals as goal

pub returns : goal.returns
returns c = taken-all _ _ _ _ (search rules) c.arrivals.ensures.next refl
