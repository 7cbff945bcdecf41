-- `put_size` meets its contract. Assumes nothing.
use borrow.Author.Tests.{eq-eqb, ne_eqb}
use Rattle.types.specs.Letters.{letters}
use Rattle.text.specs.Lines.{item_of}
use Rattle.columns.specs.Columns.{size_text}
use Rattle.columns.proofs.Poured.{poured-both}
use Rattle.columns.proofs.texts.put_size.Goals as goal

pub returns-then-n-eq1 : goal.returns-then-n-eq1
unfolding size_text item_of letters
returns-then-n-eq1 c =
    rw (eq-eqb _ 1 c.if-n-eq1.true) (poured-both _ _ _ c.put_item-next.ensures c.put_bytes-end.ensures)

pub returns : goal.returns
unfolding size_text item_of letters
returns c =
    rw (ne_eqb _ 1 c.if-n-eq1.false) (poured-both _ _ _ c.put_item-next.ensures (poured-both _ _ _ c.put_bytes-end.ensures c.put_byte.ensures))
