-- `put_number` meets its contract. Assumes nothing.
use Rattle.text.specs.Lines.{item_of}
use Rattle.columns.proofs.Poured.{poured-both}
use Rattle.explanation_lines.specs.Lines.{number_text}
use Rattle.explanation_lines.proofs.values.put_number.Goals as goal

pub returns-then-typed : goal.returns-then-typed
unfolding item_of number_text
returns-then-typed c = rw c.if-typed.true (poured-both _ _ _ c.put_type-next.ensures c.put_shortest.ensures)

pub returns : goal.returns
unfolding item_of number_text
returns c = rw c.if-typed.false (poured-both _ _ _ c.put_item-next.ensures c.put_shortest-2.ensures)
