-- `put_mark` meets its contract. Assumes nothing.
use Rattle.types.specs.Letters.{letters}
use Rattle.columns.proofs.Poured.{poured-three}
use Rattle.explanation_lines.specs.Lines.{mark_line}
use Rattle.explanation_lines.proofs.lines.put_mark.Goals as goal

pub returns : goal.returns
unfolding letters mark_line
returns c = poured-three _ _ _ _ c.put_str-marked.ensures c.put_numbered-next.ensures c.put_byte.ensures
