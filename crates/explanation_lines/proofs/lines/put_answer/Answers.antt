-- `put_answer` meets its contract. Assumes nothing.
use Rattle.types.specs.Letters.{letters}
use Rattle.columns.proofs.Poured.{poured-four}
use Rattle.explanation_lines.specs.Lines.{answer_line}
use Rattle.explanation_lines.proofs.lines.put_answer.Goals as goal

pub returns : goal.returns
unfolding letters answer_line
returns c =
    poured-four _ _ _ _ c.put_str-answered.ensures c.put_numbered-told.ensures c.put_rule-next.ensures _ c.put_byte.ensures
