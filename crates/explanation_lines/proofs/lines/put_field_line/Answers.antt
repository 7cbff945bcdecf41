-- `put_field_line` meets its contract. Assumes nothing.
use Rattle.types.specs.Letters.{letters}
use Rattle.columns.proofs.Poured.{poured-three}
use Rattle.explanation_lines.specs.Lines.{field_line}
use Rattle.explanation_lines.proofs.SizePoured.{poured-size}
use Rattle.explanation_lines.proofs.lines.put_field_line.Goals as goal

pub returns : goal.returns
unfolding letters field_line
returns c = rw (← c.first_byte.ensures, ← c.saturating_sub.ensures) (search (poured-three, poured-size))
