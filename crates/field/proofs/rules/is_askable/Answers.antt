-- `is_askable` meets its contract. Assumes nothing.
use mathlib.Core.Path.{refl}
use Rattle.field.specs.Rules.{askable}
use Rattle.field.proofs.rules.is_askable.Goals as goal

pub returns : goal.returns
unfolding askable
returns c = refl
