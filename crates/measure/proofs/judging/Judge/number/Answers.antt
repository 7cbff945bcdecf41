-- `number` meets its contract. Assumes nothing.
use mathlib.Core.Path.{refl, ◌∙◌}
use Rattle.measure.proofs.Pieces.{number-great, number_fits}
use Rattle.measure.proofs.judging.Judge.number.Goals as goal

pub returns-then-n-gt-GREATEST : goal.returns-then-n-gt-GREATEST
returns-then-n-gt-GREATEST c = number-great _ _ refl c.if-n-gt-GREATEST.true

pub returns : goal.returns
returns c = c.add.ensures ∙ number_fits _ _ refl c.if-n-gt-GREATEST.false c.size.ensures
