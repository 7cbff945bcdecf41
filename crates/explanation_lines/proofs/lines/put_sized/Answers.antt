-- `put_sized` meets its contract. Assumes nothing.
use Rattle.columns.proofs.Poured.{poured-both}
use Rattle.explanation_lines.proofs.lines.put_sized.Goals as goal

pub returns : goal.returns
returns c = search poured-both
