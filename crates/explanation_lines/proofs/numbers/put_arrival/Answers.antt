-- `put_arrival` meets its contract. Assumes nothing.
use Rattle.explanation_lines.specs.Lines.{arrival_lines}
use Rattle.explanation_lines.proofs.numbers.put_arrival.Goals as goal

pub returns : goal.returns
unfolding arrival_lines
returns c = c.put_numbers.ensures
