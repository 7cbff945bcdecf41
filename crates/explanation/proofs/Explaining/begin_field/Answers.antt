-- `begin_field` meets its contract. Assumes nothing.
use Rattle.explanation.specs.Telling.{field_begun}
use Rattle.explanation.proofs.FieldValues.{value_lent}
use Rattle.explanation.proofs.Explaining.begin_field.Goals as goal

pub returns : goal.returns
unfolding field_begun
returns c = rw (c.begin.ensures, value_lent _ 3 c.min-start.ensures)
