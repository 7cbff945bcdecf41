-- `put_bytes_column` meets its contract. Assumes nothing.
use Rattle.columns.specs.Columns.{bytes_column}
use Rattle.columns.proofs.ColumnPoured.{column-poured}
use Rattle.columns.proofs.hexadecimal.put_bytes_column.Goals as goal

pub returns : goal.returns
unfolding bytes_column
returns c =
    column-poured _ _ _ c.put_shown-next.ensures c.shown_size.ensures c.gap.ensures c.put_spaces.ensures
