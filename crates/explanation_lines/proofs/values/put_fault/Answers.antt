-- `put_fault` meets its contract. Assumes nothing.
use Rattle.std.proofs.Common.{sym, ◌∙◌}
use Rattle.types.specs.Letters.{letters}
use Rattle.explanation_lines.proofs.LeftOrCut.{cut-poured}
use Rattle.explanation_lines.proofs.values.put_fault.Goals as goal

pub returns-in_default : goal.returns-in_default
unfolding letters
returns-in_default c = cut-poured _ _ c.held_by.ensures c.in_default.not-Left c.put_str.ensures

pub returns-in-Left : goal.returns-in-Left
unfolding letters
returns-in-Left c = rw (sym c.held_by.ensures ∙ c.in-Left.is) c.put_size.ensures
