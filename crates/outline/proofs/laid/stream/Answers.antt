-- `stream` meets its contract: another number is no type. Assumes nothing.
use native.Mathlib.Omega.{arith}
use borrow.Author.Tests.{ne_eqb}
use Rattle.header.specs.Layouts.{streams}
use Rattle.outline.proofs.OneByOne.{forbidden-ahead}
use Rattle.outline.proofs.laid.stream.Goals as goal

pub returns-in_default : goal.returns-in_default
unfolding streams
returns-in_default c =
    rw (ne_eqb c.args.number 4 (omega arith), ne_eqb c.args.number 5 (omega arith)) (forbidden-ahead c.args.v.now)
