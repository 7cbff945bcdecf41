-- `put_cut_field` meets its contract. Assumes nothing.
use Rattle.types.specs.Letters.{letters}
use Rattle.columns.proofs.Poured.{poured-both}
use Rattle.explanation_lines.specs.Lines.{cut_field_line}
use Rattle.explanation_lines.proofs.SizePoured.{poured-size}
use Rattle.explanation_lines.proofs.lines.put_cut_field.Goals as goal

pub returns : goal.returns
unfolding letters cut_field_line
returns c = search (poured-both, poured-size)
