-- `put_called` meets its contract. Assumes nothing.
use Rattle.types.specs.Letters.{letters}
use Rattle.columns.proofs.Poured.{poured-four}
use Rattle.explanation_lines.specs.Lines.{called}
use Rattle.explanation_lines.proofs.lines.put_called.Goals as goal

pub returns : goal.returns
unfolding letters called
returns c = search poured-four
