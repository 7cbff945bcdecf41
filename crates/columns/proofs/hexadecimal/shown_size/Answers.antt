-- `shown_size` meets its contract. Assumes nothing.
use native.Mathlib.Omega.{arith}
use Rattle.columns.proofs.HexDigits.{all-length, some-length}
use Rattle.columns.proofs.hexadecimal.shown_size.Goals as goal

pub returns-then-s-gt-MOST_SHOWN : goal.returns-then-s-gt-MOST_SHOWN
returns-then-s-gt-MOST_SHOWN c = omega (arith, some-length c.args.s.now (omega arith))

pub returns : goal.returns
returns c = omega (arith, all-length c.args.s.now (omega arith))
