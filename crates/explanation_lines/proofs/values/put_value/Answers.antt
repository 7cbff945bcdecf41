-- `put_value` meets its contract. Assumes nothing.
use Rattle.std.proofs.Common.{sym, ◌∙◌}
use Rattle.text.specs.Lines.{item_of}
use Rattle.explanation_lines.proofs.values.put_value.Goals as goal

pub returns-in-Number : goal.returns-in-Number
unfolding item_of
returns-in-Number c = rw (sym c.held_by.ensures ∙ c.in-Number.is, ← c.saturating_sub-size.ensures) c.put_number.ensures

pub returns-in-Byte : goal.returns-in-Byte
unfolding item_of
returns-in-Byte c = rw (sym c.held_by.ensures ∙ c.in-Byte.is) c.put_item.ensures

pub returns-in-Bytes : goal.returns-in-Bytes
unfolding item_of
returns-in-Bytes c = rw (sym c.held_by.ensures ∙ c.in-Bytes.is, ← c.between.ensures) c.put_content.ensures

pub returns-in-Left : goal.returns-in-Left
unfolding item_of
returns-in-Left c = rw (sym c.held_by.ensures ∙ c.in-Left.is, ← c.saturating_sub-size.ensures) c.put_size.ensures
