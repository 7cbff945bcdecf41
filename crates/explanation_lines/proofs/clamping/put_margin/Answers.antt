-- `put_margin` meets its contract. Assumes nothing.
use Rattle.trace.specs.Fields.{offset_of}
use Rattle.columns.proofs.Poured.{poured-both}
use Rattle.explanation_lines.specs.Lines.{margin}
use Rattle.explanation_lines.proofs.clamping.put_margin.Goals as goal

pub returns : goal.returns
unfolding margin offset_of
returns c = rw (← c.between.ensures) (poured-both _ _ _ c.put_offset-next.ensures c.put_bytes_column.ensures)
