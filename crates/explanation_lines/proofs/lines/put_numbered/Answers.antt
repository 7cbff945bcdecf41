-- `put_numbered` meets its contract. Assumes nothing.
use Rattle.types.specs.Letters.{letters}
use Rattle.text.specs.Lines.{item_of}
use Rattle.columns.proofs.Poured.{poured-three}
use Rattle.explanation_lines.specs.Lines.{numbered}
use Rattle.explanation_lines.proofs.lines.put_numbered.Goals as goal

pub returns : goal.returns
unfolding letters item_of numbered
returns c = search poured-three
