-- `put_left_line` meets its contract. Assumes nothing.
use Rattle.std.proofs.Common.{refl, le-ltb, lt-ltb}
use Rattle.columns.proofs.Poured.{poured-end}
use Rattle.explanation_lines.specs.Lines.{left_line}
use Rattle.explanation_lines.proofs.lines.put_left_line.Goals as goal

pub returns-then-used-s : goal.returns-then-used-s
unfolding left_line
returns-then-used-s c = rw (le-ltb _ _ c.if-used-s.true) (poured-end refl refl)

pub returns : goal.returns
unfolding left_line
returns c = rw (lt-ltb _ _ c.if-used-s.false) c.put_faulty_line.ensures
