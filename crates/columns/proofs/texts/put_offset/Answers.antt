-- `put_offset` meets its contract. Assumes nothing.
use Rattle.text.specs.Lines.{item_of}
use Rattle.columns.specs.Columns.{offset_column}
use Rattle.columns.proofs.ColumnPoured.{column-poured}
use Rattle.columns.proofs.texts.put_offset.Goals as goal

pub returns : goal.returns
unfolding offset_column item_of
returns c =
    column-poured _ _ _ c.put_item-next.ensures c.places.ensures c.gap.ensures c.put_spaces.ensures
